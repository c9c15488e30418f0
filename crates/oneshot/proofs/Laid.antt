-- A text laid over the start of a buffer, and worked on there, in what is lent of the buffer: as many bytes as the text has.
-- Assumes nothing.
use Prim.Native.Nat.{ℕ, ◌≤◌}
use mathlib.Core.Path.{◌≡◌, sym, ap, ◌∙◌}
use mathlib.Core.List.{List, ◌++◌}
use native.Mathlib.Nat.{le_of_eq}
use lib.ListN.{length, take, drop}
use Rattle.lent.specs.Lent.{over}
use Rattle.lent.proofs.Over.{take-over, drop-over}
use Rattle.promises.specs.Texts.{onto}
use Rattle.promises.proofs.Onto.{onto-whole}

module _ (xs buf : List ℕ) (room : length xs ≤ length buf) {o : List ℕ} (eo : o ≡ over xs buf) where
  pub text_there : take (length xs) o ≡ xs
  text_there = ap (take (length xs)) eo ∙ take-over xs buf room

  -- what is lent is no longer than the text may be
  pub part_fits : {limit : ℕ} → length xs ≤ limit → length (take (length xs) o) ≤ limit
  part_fits h = rw text_there h

  rest_there : drop (length xs) o ≡ drop (length xs) buf
  rest_there = ap (drop (length xs)) eo ∙ drop-over xs buf room

  pub worked_over : (work : List ℕ → List ℕ) → length (work xs) ≡ length xs → {ys : List ℕ} → ys ≡ work (take (length xs) o)
      → ys ++ drop (length xs) o ≡ onto (work xs) buf
  worked_over work as_long ey = (λ i. (ey ∙ ap work text_there) i ++ rest_there i) ∙ ap (λ (n : ℕ). work xs ++ drop n buf) (sym as_long)

-- in place the whole buffer is worked on
pub worked_in_place : (work : List ℕ → List ℕ) (buf : List ℕ) → length (work buf) ≡ length buf → {ys : List ℕ} → ys ≡ work buf
    → ys ≡ onto (work buf) buf
worked_in_place work buf as_long ey = ey ∙ sym (onto-whole (work buf) buf (le_of_eq (sym as_long)))
