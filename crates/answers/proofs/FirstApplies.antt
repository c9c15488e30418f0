-- "The first that applies": a ladder answers k exactly if rung k fails and all before it pass, and 0 exactly if all pass. Once, over any list
-- of rungs whose numbers differ.
-- Assumes nothing.
use Prim.Native.Nat.{ℕ}
use mathlib.Core.Path.{◌≡◌, refl, sym, ◌∙◌}
use mathlib.Core.Bool.{Bool, true, false, not, cond, true≢false, false≢true}
use mathlib.Core.Logic.{◌↔◌}
use mathlib.Core.List.{List, [], ◌∷◌}
use lib.Dec.{eqb}
use borrow.Author.Tests.{eqb-true, eqb-false, not-true}
use Rattle.answers.specs.Answers.{Rung, unless, climb, FirstApplies}
use Rattle.answers.proofs.Ladder.{other, numbered, both}

-- the ladder answers no number that it does not have
pub climb-other : (rs : List Rung) (k : ℕ) → other k rs ≡ true → climb rs ≡ k → ⊥
climb-other [] k o e = eqb-false k 0 (not-true (eqb k 0) o) (sym e)
climb-other ((code, true) ∷ rs) k o e = climb-other rs k (both (not (eqb k code)) (other k rs) o).1 e
climb-other ((code, false) ∷ rs) k o e =
    eqb-false k code (not-true (eqb k code) (both (not (eqb k code)) (other k rs) o).0) (sym e)

-- a rung on top of others: k is its own number, or not
on_top : (own test : Bool) (code next k : ℕ) (rest : Type 0) → eqb code k ≡ own → (next ≡ code → ⊥) → (next ≡ k) ↔ rest
    → (unless code test next ≡ k) ↔ cond own (test ≡ false) ((test ≡ true) × rest)
on_top true true code next k rest h o r = ((λ e. absurd (o (e ∙ sym (eqb-true code k h)))), λ f. absurd (true≢false f))
on_top true false code next k rest h o r = ((λ e. refl), λ f. eqb-true code k h)
on_top false true code next k rest h o r = ((λ e. (refl, r.0 e)), λ f. r.1 f.1)
on_top false false code next k rest h o r = ((λ e. absurd (eqb-false code k h e)), λ f. absurd (false≢true f.0))

-- the one law of every order
pub climb_exactly : (rs : List Rung) → numbered rs ≡ true → (k : ℕ) → (climb rs ≡ k) ↔ FirstApplies rs k
climb_exactly [] n k = (sym, sym)
climb_exactly ((code, test) ∷ rs) n k =
    let p = both (other code rs) (numbered rs) n in
    on_top (eqb code k) test code (climb rs) k (FirstApplies rs k) refl (climb-other rs code p.0) (climb_exactly rs p.1 k)
