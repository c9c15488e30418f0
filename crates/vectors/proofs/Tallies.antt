-- A tally that has counted nothing.
-- Assumes nothing.
use Prim.Native.Nat.{ℕ}
use mathlib.Core.Path.{◌≡◌}
use Rattle.vectors.specs.declared.tally.Tally.{Tally}
use Rattle.vectors.specs.Tallies.{none}

all_none : (a b c d e f g : ℕ) → a ≡ 0 → b ≡ 0 → c ≡ 0 → d ≡ 0 → e ≡ 0 → f ≡ 0 → g ≡ 0
    → (record { seals = a; refusals = b; macs = c; streams = d; cut_seals = e; cut_openings = f; cut_macs = g }) ≡ none
all_none a b c d e f g pa pb pc pd pe pf pg = cc

pub is_none : {t : Tally} → (t.seals ≡ 0) × ((t.refusals ≡ 0) × ((t.macs ≡ 0) × ((t.streams ≡ 0) × ((t.cut_seals ≡ 0) × ((t.cut_openings ≡ 0) × (t.cut_macs ≡ 0))))))
    → t ≡ none
is_none {t = t} e = all_none t.seals _ _ _ _ _ _ e.0 e.1.0 e.1.1.0 e.1.1.1.0 e.1.1.1.1.0 e.1.1.1.1.1.0 e.1.1.1.1.1.1
