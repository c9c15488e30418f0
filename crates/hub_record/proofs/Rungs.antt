-- The ladder that the code climbs with `?`: each rung's test is a call of its own.
-- Assumes nothing.
use Prim.Native.Nat.{ℕ, ◌<◌}
use mathlib.Core.Path.{◌≡◌, ◌∙◌}
use mathlib.Core.Bool.{Bool, true, false}
use native.Mathlib.Omega.{arith}
use Rattle.std.specs.Prelude.{Result, Err}
use Rattle.std.specs.Result.{IsErrAnd}
use Rattle.std.proofs.lemmas.Result.{err_from_is_err_and}
use Rattle.answers.specs.declared.Refusal.{Refusal}
use Rattle.answers.specs.Answers.{unless}
use Rattle.answers.specs.Refusals.{number}
use Rattle.answers.proofs.Refusals.{number_zero}

-- the refusal that `?` hands on
pub handed_on : {A : Type 0} (r : Result A Refusal) (e : Refusal) → IsErrAnd r (λ x. x ≡ e) → r ≡ Err e
handed_on r e h = let p = err_from_is_err_and r h in p.1 ∙ (λ i. Err (p.2 i))

-- a rung's test that passed, and one that failed
pub climbed : (code : ℕ) (t : Bool) (next x : ℕ) → 0 ≡ unless code t 0 → 0 < code → x ≡ next → x ≡ unless code t next
climbed code true next x e p h = h
climbed code false next x e p h = absurd (omega arith)

pub refused_at : (e : Refusal) (code : ℕ) (t : Bool) (next : ℕ) → number e ≡ unless code t 0 → number e ≡ unless code t next
refused_at e code true next h = absurd (number_zero e h)
refused_at e code false next h = h

pub ruleset climbing = (climbed, refused_at, arith)
