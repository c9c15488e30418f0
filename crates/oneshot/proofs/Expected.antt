-- The size of a tag, and the fill of a machine that was just started, or fed.
-- Assumes nothing.
use Prim.Native.Nat.{ℕ, ◌≤◌, ◌<◌}
use mathlib.Core.Path.{◌≡◌}
use mathlib.Core.Bool.{true}
use mathlib.Core.Logic.{⊎_elim}
use mathlib.Core.List.{List}
use native.Mathlib.Omega.{arith}
use Rattle.machine.specs.Machine.{Machine, Core, Mode, start, after}
use Rattle.machine.proofs.Kept.{start_kept, after_kept}
use Rattle.answers.specs.Answers.{tag_size, limit}
use Rattle.answers.proofs.Answers.{tag_sizes}

size_fits : (n : ℕ) → tag_size n ≡ true → n ≤ 32
size_fits n h = ⊎_elim (λ e. omega (arith, e)) (λ e. omega (arith, e)) (tag_sizes n h)

pub size_limit : (n : ℕ) → tag_size n ≡ true → n ≤ limit
size_limit n h = omega (arith, size_fits n h)

-- the fill of a machine that was just started, or fed
module _ {S : Type 0} (K : Machine S) where
  pub fresh_fill : (c : Core S) (s : S) → c ≡ start K s → c.fill < K.rate
  fresh_fill c s e = rw e (start_kept K s).fill_below

  pub fed_fill : (m : Mode) (c₀ c : Core S) (s : S) (xs : List ℕ) → c₀ ≡ start K s → c ≡ after K m c₀ xs → c.fill < K.rate
  fed_fill m c₀ c s xs e₀ e = rw (e, e₀) (after_kept K m (start K s) xs (start_kept K s)).fill_below
