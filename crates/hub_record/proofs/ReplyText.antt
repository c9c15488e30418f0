-- What the program writes is document 01's text: a buffer of 11 bytes or more holds the reply to every input.
-- Assumes nothing.
use Prim.Native.Nat.{ℕ, ◌+◌, ◌-◌, ◌≤◌, ◌<◌}
use mathlib.Core.Path.{◌≡◌, refl, sym, ap, ◌∙◌, subst}
use mathlib.Core.Bool.{Bool, true, false, cond}
use mathlib.Core.Logic.{⊎_elim}
use mathlib.Core.List.{List, [], ◌∷◌, ◌++◌}
use native.Mathlib.Decide.{ℕ_discrete}
use native.Mathlib.Omega.{arith}
use lib.Dec.{leb}
use lib.ListN.{length, take, drop, length-append, take-append-drop}
use lib.Seq.{take_at, drop_at, length-take-le}
use borrow.Author.Tests.{le-leb}
use borrow.Rule.Slice.PartMut.{mid_len}
use Rattle.hub_record.specs.declared.part.Part.{Part}
use Rattle.hub_record.specs.View.{replied}
use Rattle.hub_record.specs.Record.{text_limit, between, text_start, text_end, RecordLeft, shape, open_record_of}
use Rattle.hub_record.specs.Decimal.{digits, decimal}
use Rattle.hub_record.specs.Reply.{Replied, opened_word, refused_word, line, text_of, placed, reply_of}
use Rattle.hub_record.proofs.DecimalDigits.{decimal-length}
use Rattle.hub_record.proofs.RecordAnswers.{refused_nowhere, opens, opened_within, record_length}
use Rattle.hub_record.proofs.RecordLeaves.{Leaves, misshapen, erased, opened, record_leaves}
use Rattle.hub_record.proofs.Replying.{text_refused, text-opened}

-- ---- the empty input

-- "refused 11" and a line feed
pub empty_input : text_of (open_record_of [])
    ≡ 0x72 ∷ 0x65 ∷ 0x66 ∷ 0x75 ∷ 0x73 ∷ 0x65 ∷ 0x64 ∷ 0x20 ∷ 0x31 ∷ 0x31 ∷ 0x0a ∷ []
unfolding open_record_of shape text_of line decimal digits
empty_input = refl

-- ---- how long a reply is

line-length : (word : List ℕ) (n k : ℕ) → length (decimal n) ≤ k → length (line word n) ≤ length word + (k + 1)
unfolding line
line-length word n k h =
    omega (arith, length-append word (decimal n ++ (0x0a ∷ [])), length-append (decimal n) (0x0a ∷ []))

small : {l : List ℕ} {r : RecordLeft} → Leaves l r → r.answer < 100
small (misshapen a h) = ⊎_elim (λ e. omega (arith, e)) (λ e. omega (arith, e)) h
small erased = omega arith
small opened = omega arith

module _ (l : List ℕ) where
  abbrev left : RecordLeft
  left = open_record_of l

  -- a refusal has at most 11 bytes
  refused_length : (left.answer ≡ 0 → ⊥) → length (text_of left) ≤ 11
  refused_length n =
      let k : length (decimal left.answer) ≤ 2 = decimal-length 1 left.answer (small (record_leaves l)) (omega (arith, small (record_leaves l))) in
      rw (text_refused left n) (line-length refused_word left.answer 2 k)

  -- the line of an opened record fits in the place of its head
  opened-length : left.answer ≡ 0 → length (text_of left) ≤ left.start + left.count
  opened-length z =
      let o = opens l z in
      let w = opened_within l z in
      let f : left.count ≤ text_limit
      = let e : left.count ≡ text_end l - text_start l = ap (λ (r : RecordLeft). r.count) o.left in
      omega (arith, o.shaped.text_fits) in
      let k : length (decimal left.count) ≤ 20 = decimal-length 19 left.count (omega arith) (omega arith) in
      let n = line-length opened_word left.count 20 k in
      let b : length (between left.start (left.start + left.count) left.input) ≡ left.count
      = mid_len left.start (left.start + left.count) left.input w.1 ∙ omega arith in
      rw (text-opened left z)
      (omega (arith, w.0, length-append (line opened_word left.count) (between left.start (left.start + left.count) left.input)))

-- ---- where it stands

placed_holds : (t b : List ℕ) (e : ℕ) → length t ≤ length b → e ≤ length b
    → take (placed t e b).count (drop (placed t e b).start (placed t e b).buf) ≡ t
unfolding placed
placed_holds t b e h q =
    let s = e - length t in
    rw (le-leb (length t) (length b) h)
    (ap (take (length t)) (drop_at (take s b) (t ++ drop (s + length t) b) s (length-take-le s b (omega arith)))
    ∙ take_at t (drop (s + length t) b) (length t) refl)

pub reply_text : (buf : List ℕ) (n : ℕ) → 11 ≤ length buf
    → take (reply_of buf n).count (drop (reply_of buf n).start (reply_of buf n).buf) ≡ text_of (open_record_of (take n buf))
unfolding reply_of
reply_text buf n room =
    let l = take n buf in
    let r = open_record_of l in
    let b = r.input ++ drop n buf in
    let i : length r.input ≡ length l = record_length l in
    let c : length l + length (drop n buf) ≡ length buf = sym (length-append l (drop n buf)) ∙ ap length (take-append-drop n buf) in
    let m : length b ≡ length buf = length-append r.input (drop n buf) ∙ omega arith in
    by l b (omega arith) (omega arith) (ℕ_discrete r.answer 0)
  where
    by : (l b : List ℕ) → 11 ≤ length b → length (open_record_of l).input ≤ length b → Dec ((open_record_of l).answer ≡ 0)
        → let r = open_record_of l in
        let p = placed (text_of r) (r.start + r.count) b in
        take p.count (drop p.start p.buf) ≡ text_of r
    by l b h k (yes z) =
        let o = opened-length l z in
        let w = (opened_within l z).1 in
        placed_holds (text_of (open_record_of l)) b _ (omega arith) (omega arith)
    by l b h k (no z) =
        let o = refused_length l z in
        let w = refused_nowhere l z in
        placed_holds (text_of (open_record_of l)) b _ (omega arith) (omega (arith, w.start, w.count))

-- ---- a reply is a part of the buffer

placed_within : (t b : List ℕ) (e : ℕ) → e ≤ length b → (placed t e b).start + (placed t e b).count ≤ length (placed t e b).buf
unfolding placed
placed_within t b e q = by (leb (length t) (length b)) refl
  where
    by : (v : Bool) → leb (length t) (length b) ≡ v → let p : Replied = cond v
        (record { start = e - length t; count = length t; buf = take (e - length t) b ++ (t ++ drop (e - length t + length t) b) })
        (record { start = 0; count = 0; buf = b }) in p.start + p.count ≤ length p.buf
    by true h =
        let s = e - length t in
        let n : length (take s b) ≡ s = length-take-le s b (omega arith) in
        omega (arith, length-append (take s b) (t ++ drop (s + length t) b), length-append t (drop (s + length t) b))
    by false h = omega arith

reply_within : (buf : List ℕ) (n : ℕ) → (reply_of buf n).start + (reply_of buf n).count ≤ length (reply_of buf n).buf
unfolding reply_of
reply_within buf n =
    let l = take n buf in
    let r = open_record_of l in
    placed_within (text_of r) (r.input ++ drop n buf) (r.start + r.count)
    (by l (drop n buf) (ℕ_discrete r.answer 0))
  where
    by : (l more : List ℕ) → Dec ((open_record_of l).answer ≡ 0)
        → (open_record_of l).start + (open_record_of l).count ≤ length ((open_record_of l).input ++ more)
    by l more (yes z) = omega (arith, (opened_within l z).1, length-append (open_record_of l).input more)
    by l more (no z) = let w = refused_nowhere l z in omega (arith, w.start, w.count)

-- as a caller has it, who cuts it out
pub reply_part : (buf : List ℕ) (n : ℕ) (r : Part) (b : List ℕ) → replied r b ≡ reply_of buf n → r.start + r.count ≤ length b
reply_part buf n r b e = subst (λ (x : Replied). x.start + x.count ≤ length x.buf) (sym e) (reply_within buf n)
