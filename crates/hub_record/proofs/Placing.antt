-- A text written into a buffer, and where it stands: at the buffer's start, or before a text that stands there already.
-- Assumes nothing.
use Prim.Native.Nat.{ℕ, ◌+◌, ◌-◌, ◌≤◌, ◌<◌}
use mathlib.Core.Path.{◌≡◌, sym, ap, ◌∙◌}
use mathlib.Core.List.{List, ◌++◌, append_assoc}
use native.Mathlib.Nat.{zero-sub}
use native.Mathlib.Omega.{arith}
use lib.ListN.{length, take, drop, length-append, take-append-drop}
use borrow.Author.Tests.{le-leb, lt-leb}
use borrow.Rule.Slice.PartMut.{put_mid, Post-is, mid_len}
use Rattle.hub_record.specs.Record.{between}
use Rattle.hub_record.specs.Reply.{placed}

-- ---- placed

module _ (t buf : List ℕ) (e : ℕ) where
  pub placed-none : length buf < length t → record { start = 0; count = 0; buf = buf } ≡ placed t e buf
  unfolding placed
  placed-none h = rw (lt-leb (length t) (length buf) h)

  placed-fits : (s n : ℕ) (b : List ℕ) → s ≡ e - length t → n ≡ length t → length t ≤ length buf
      → b ≡ take s buf ++ (t ++ drop (s + n) buf) → record { start = s; count = n; buf = b } ≡ placed t e buf
  unfolding placed
  placed-fits s n b es en h eb =
      rw (le-leb (length t) (length buf) h)
      (λ i. record { start = es i; count = en i; buf = (eb ∙ (λ j. take (es j) buf ++ (t ++ drop (es j + en j) buf))) i })

-- at the start
pub placed-front : (t buf : List ℕ) (k : ℕ) {ys : List ℕ} → k ≡ length t → k ≤ length buf → ys ≡ t
    → record { start = 0; count = k; buf = ys ++ drop k buf } ≡ placed t 0 buf
placed-front t buf k {ys} n h ey =
    let z : k ≡ 0 + k = omega arith in
    placed-fits t buf 0 0 k (ys ++ drop k buf) (sym (zero-sub (length t))) n (omega arith) (λ i. ey i ++ drop (z i) buf)

-- right before `count` bytes of the buffer, which end the text
pub placed-before : (t buf : List ℕ) (at start count k : ℕ) {ys : List ℕ} → k ≡ length t → at + k ≡ start → start + count ≤ length buf
    → ys ≡ t
    → record { start = at; count = k + count; buf = put_mid at (start - at) buf ys }
    ≡ placed (t ++ between start (start + count) buf) (start + count) buf
placed-before t buf at start count k {ys} n p h w =
    let c : length (between start (start + count) buf) ≡ start + count - start = mid_len start (start + count) buf h in
    let whole : length (t ++ between start (start + count) buf) ≡ length t + count
    = length-append t (between start (start + count) buf) ∙ ap (λ (j : ℕ). length t + j) (c ∙ omega arith) in
    let rest : between start (start + count) buf ++ drop (start + count) buf ≡ drop start buf
    = ap (λ (x : List ℕ). between start (start + count) buf ++ x) (sym (Post-is start (start + count) buf (omega arith)))
    ∙ take-append-drop (start + count - start) (drop start buf) in
    let q : start + count ≡ at + (k + count) = omega arith in
    placed-fits (t ++ between start (start + count) buf) buf (start + count) at (k + count) _
    (omega arith)
    (ap (λ (j : ℕ). j + count) n ∙ sym whole)
    (omega arith)
    ((λ i. take at buf ++ (w i ++ (Post-is at start buf (omega arith) ∙ sym rest) i))
    ∙ ap (λ (x : List ℕ). take at buf ++ x)
    (sym (append_assoc t (between start (start + count) buf) (drop (start + count) buf))
    ∙ ap (λ (j : ℕ). (t ++ between start (start + count) buf) ++ drop j buf) q))
