-- `open_record` meets its contract: the shape by the head's numbers, then the one-shot on the parts.
use Rattle.std.proofs.Common.{arith, length, sym, refl, ◌+◌, ◌∙◌, ◌≡◌, ℕ, List}
use Rattle.answers.proofs.Refusals.{number_zero}
use Rattle.hub_record.specs.Record.{tag_size_in, ad_length_in, shape}
use Rattle.hub_record.proofs.RecordShape.{shape_ok}
use Rattle.hub_record.proofs.Rungs.{handed_on}
use Rattle.hub_record.proofs.RecordAnswers.{shape_refused, verdict_refused, verdict-opened}
use Rattle.hub_record.proofs.opening.open_record.Goals as goal

-- the ladder's answer is that of the input's own numbers
shaped : (l : List ℕ) {t d r : ℕ}
    → (t ≡ tag_size_in l) × (d ≡ ad_length_in l)
    → r ≡ shape (length l) t d
    → r ≡ shape (length l) (tag_size_in l) (ad_length_in l)
shaped l h e = e ∙ (λ i. shape (length l) (h.0 i) (h.1 i))

pub returns-in_err-shape : goal.returns-in_err-shape
returns-in_err-shape c =
    let s = shaped c.args.input.now c.read-head.ensures c.in_err-shape.ensures in
    rw (handed_on _ _ c.from_residual.ensures.1) (shape_refused c.args.input.now _ s (number_zero _))

pub overflow_sub-text : goal.overflow_sub-text
overflow_sub-text c = let k = shape_ok _ _ _ (sym c.in_ok-shape.ensures) in omega (arith, k.parts)

pub overflow_sub-text-2 : goal.overflow_sub-text-2
overflow_sub-text-2 c = let k = shape_ok _ _ _ (sym c.in_ok-shape.ensures) in omega (arith, k.parts)

pub open_parts-requires : goal.open_parts-requires
open_parts-requires c = let k = shape_ok _ _ _ (sym c.in_ok-shape.ensures) in (omega arith, omega (arith, k.parts))

pub returns-in_err-open_parts : goal.returns-in_err-open_parts
returns-in_err-open_parts c =
    let h = c.read-head.ensures in
    let k = shape_ok _ _ _ (sym c.in_ok-shape.ensures) in
    let s = shaped c.args.input.now h c.in_ok-shape.ensures in
    rw (handed_on _ _ c.from_residual-in_err-open_parts.ensures.1)
    (verdict_refused c.args.input.now _ _ _ _ (sym s) (λ i. 35 + h.1 i) (omega (arith, k.parts, h.0)) c.in_err-open_parts.ensures (number_zero _))

pub returns : goal.returns
returns c =
    let h = c.read-head.ensures in
    let k = shape_ok _ _ _ (sym c.in_ok-shape.ensures) in
    let s = shaped c.args.input.now h c.in_ok-shape.ensures in
    verdict-opened c.args.input.now _ _ _ _ (sym s) (λ i. 35 + h.1 i) (omega (arith, k.parts, h.0)) c.in_ok-open_parts.ensures _ (omega arith) refl
