-- The reply to an input, from what opening it left.
-- Assumes nothing.
use Prim.Native.Nat.{ℕ, zero, suc, ◌+◌, ◌-◌, ◌≤◌, min}
use mathlib.Core.Path.{◌≡◌, refl, sym, ap, ◌∙◌}
use mathlib.Core.List.{List, ◌++◌}
use native.Mathlib.Omega.{arith, min_cases}
use lib.ListN.{length, take, drop, length-append, length-drop, drop_of_length-le}
use lib.Seq.{take_all, take-append-le, drop-append-le}
use Rattle.promises.specs.OneShot.{on_done}
use Rattle.hub_record.specs.Record.{head_size, between, RecordLeft, open_record_of}
use Rattle.hub_record.specs.Reply.{Replied, opened_word, refused_word, line, text_of, placed, reply_of}
use Rattle.hub_record.proofs.RecordAnswers.{refused_nowhere, opened_within}

-- a part of a list is a part of a longer one
between-append : (a e : ℕ) (xs ys : List ℕ) → a ≤ e → e ≤ length xs → between a e (xs ++ ys) ≡ between a e xs
between-append a e xs ys p q =
    let n : length (drop a xs) ≡ length xs - a = length-drop a xs in
    ap (take (e - a)) (drop-append-le a xs ys (omega arith)) ∙ take-append-le (e - a) (drop a xs) ys (omega arith)

pub text_refused : (r : RecordLeft) → (r.answer ≡ 0 → ⊥) → text_of r ≡ line refused_word r.answer
unfolding text_of
text_refused r n = by r.answer _ n
  where
    by : (a : ℕ) (t : List ℕ) → (a ≡ 0 → ⊥) → on_done a (line refused_word) t ≡ line refused_word a
    by zero t n = absurd (n refl)
    by (suc a) t n = refl

pub text-opened : (r : RecordLeft) → r.answer ≡ 0
    → text_of r ≡ line opened_word r.count ++ between r.start (r.start + r.count) r.input
unfolding text_of
text-opened r z = rw z refl

module _ (buf : List ℕ) (n : ℕ) where
  abbrev left : RecordLeft
  left = open_record_of (take n buf)

  reply_refused : (left.answer ≡ 0 → ⊥) → placed (line refused_word left.answer) 0 (left.input ++ drop n buf) ≡ reply_of buf n
  unfolding reply_of
  reply_refused z =
      let w = refused_nowhere (take n buf) z in
      let p : 0 ≡ left.start + left.count = omega (arith, w.start, w.count) in
      λ i. placed (sym (text_refused left z) i) (p i) (left.input ++ drop n buf)

  reply_opened : left.answer ≡ 0
      → placed (line opened_word left.count ++ between left.start (left.start + left.count) (left.input ++ drop n buf))
      (left.start + left.count) (left.input ++ drop n buf)
      ≡ reply_of buf n
  unfolding reply_of
  reply_opened z =
      let w = opened_within (take n buf) z in
      let p : line opened_word left.count ++ between left.start (left.start + left.count) (left.input ++ drop n buf) ≡ text_of left
      = ap (λ (x : List ℕ). line opened_word left.count ++ x)
      (between-append left.start (left.start + left.count) left.input (drop n buf) (omega arith) w.1)
      ∙ sym (text-opened left z) in
      ap (λ (t : List ℕ). placed t (left.start + left.count) (left.input ++ drop n buf)) p

-- ---- what the code's two returns cite: m is n, or the length of the buffer where that is less

module _ (buf : List ℕ) (n m : ℕ) (r : RecordLeft) (least : m ≡ min n (length buf)) (opened : r ≡ open_record_of (take m buf)) where
  input_is : take m buf ≡ take n buf
  input_is =
      min_cases n (length buf) (take m buf ≡ take n buf)
      (λ h e. ap (λ (k : ℕ). take k buf) (least ∙ e))
      (λ h e. take_all m buf (omega arith) ∙ sym (take_all n buf h))

  rest_is : drop m buf ≡ drop n buf
  rest_is =
      min_cases n (length buf) (drop m buf ≡ drop n buf)
      (λ h e. ap (λ (k : ℕ). drop k buf) (least ∙ e))
      (λ h e. drop_of_length-le buf {i = m} (omega arith) ∙ sym (drop_of_length-le buf h))

  left_is : r ≡ open_record_of (take n buf)
  left_is = opened ∙ ap open_record_of input_is

  pub replied_refused : {x : Replied} → (r.answer ≡ 0 → ⊥) → x ≡ placed (line refused_word r.answer) 0 (r.input ++ drop m buf) → x ≡ reply_of buf n
  replied_refused z e =
      e
      ∙ (λ i. placed (line refused_word (left_is i).answer) 0 ((left_is i).input ++ rest_is i))
      ∙ reply_refused buf n (λ p. z (ap (λ (q : RecordLeft). q.answer) left_is ∙ p))

  pub replied-opened : {x : Replied} → r.answer ≡ 0
      → x ≡ placed (line opened_word r.count ++ between r.start (r.start + r.count) (r.input ++ drop m buf))
      (r.start + r.count) (r.input ++ drop m buf)
      → x ≡ reply_of buf n
  replied-opened z e =
      e
      ∙ (λ i.
      let q = left_is i in
      let b = q.input ++ rest_is i in
      placed (line opened_word q.count ++ between q.start (q.start + q.count) b) (q.start + q.count) b)
      ∙ reply_opened buf n (ap (λ (q : RecordLeft). q.answer) (sym left_is) ∙ z)

  -- what the plaintext's line needs of its place
  pub opened-place : r.answer ≡ 0 → (head_size ≤ r.start) × (r.start + r.count ≤ length (r.input ++ drop m buf))
  opened-place z =
      let w = rw (← left_is) at (opened_within (take n buf) (ap (λ (q : RecordLeft). q.answer) (sym left_is) ∙ z)) in
      (w.0, omega (arith, w.1, length-append r.input (drop m buf)))
