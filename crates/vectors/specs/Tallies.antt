-- How a tally counts.
-- Assumes nothing.
use Rattle.std.specs.Prelude.{ℕ, ◌+◌, ◌*◌, ◌≤◌, cond, eqb}
use Rattle.vectors.specs.declared.tally.Tally.{Tally}

-- one more of a kind, and its cuttings
abbrev one : ℕ → ℕ → ℕ → ℕ
one kind which n = cond (eqb kind which) (n + 1) n

abbrev more : ℕ → ℕ → ℕ → ℕ → ℕ
more kind which k n = cond (eqb kind which) (n + k) n

abbrev pub counted : Tally → ℕ → ℕ → Tally
counted t kind k = record {
  seals = one kind 1 t.seals;
  refusals = one kind 2 t.refusals;
  macs = one kind 3 t.macs;
  streams = one kind 4 t.streams;
  cut_seals = more kind 1 k t.cut_seals;
  cut_openings = more kind 1 k t.cut_openings;
  cut_macs = more kind 3 k t.cut_macs;
}

abbrev pub none : Tally
none = record { seals = 0; refusals = 0; macs = 0; streams = 0; cut_seals = 0; cut_openings = 0; cut_macs = 0 }

-- no count has more than 8192 for each byte
pub record Small (t : Tally) (at : ℕ) : Type 0 where
  pub seals : t.seals ≤ 8192 * at
  pub refusals : t.refusals ≤ 8192 * at
  pub macs : t.macs ≤ 8192 * at
  pub streams : t.streams ≤ 8192 * at
  pub cut_seals : t.cut_seals ≤ 8192 * at
  pub cut_openings : t.cut_openings ≤ 8192 * at
  pub cut_macs : t.cut_macs ≤ 8192 * at
