-- The tag: the last updates and the tag of either size, from what the calls of a step give.
-- Assumes nothing.
use Prim.Native.Nat.{ℕ}
use mathlib.Core.Path.{◌≡◌, sym, ap, ◌∙◌}
use mathlib.Core.Bool.{Bool, true}
use mathlib.Core.List.{List}
use lib.Dec.{eqb}
use lib.ListN.{length}
use Rattle.machine.specs.Lengths.{length_block}
use Rattle.answers.specs.Answers.{tag_size}
use Rattle.aes.specs.Round.{xor_of}
use Rattle.lent.specs.Lent.{over}
use Rattle.lent.proofs.Over.{over-same}
use Rattle.aegis128l.specs.Aegis128L.{Blocks, S, updates, finalized, tag16, tag32, tag_by, tag}
use Rattle.aegis128l.specs.Cipher.{tag_length}
use Rattle.aegis128l.specs.View.{joined}

pub finished : (s : Blocks) (a b : ℕ) {l x : List ℕ} {r : Blocks}
    → l ≡ length_block a b → x ≡ xor_of (S s 2) l → r ≡ updates 7 s x x → r ≡ finalized s a b
unfolding finalized
finished s a b el ex er = er ∙ ap (λ (m : List ℕ). updates 7 s m m) (ex ∙ ap (xor_of (S s 2)) el)

-- ---- the blocks xored, one after the other

pub xored_16 : (s : Blocks) {x1 x2 x3 x4 x5 x6 : List ℕ}
    → x1 ≡ xor_of (S s 0) (S s 1) → x2 ≡ xor_of x1 (S s 2) → x3 ≡ xor_of x2 (S s 3)
    → x4 ≡ xor_of x3 (S s 4) → x5 ≡ xor_of x4 (S s 5) → x6 ≡ xor_of x5 (S s 6)
    → x6 ≡ tag16 s
unfolding tag16
xored_16 s e1 e2 e3 e4 e5 e6 = cc

pub xored_32 : (s : Blocks) {x1 x2 x3 y1 y2 y3 r : List ℕ}
    → x1 ≡ xor_of (S s 0) (S s 1) → x2 ≡ xor_of x1 (S s 2) → x3 ≡ xor_of x2 (S s 3)
    → y1 ≡ xor_of (S s 4) (S s 5) → y2 ≡ xor_of y1 (S s 6) → y3 ≡ xor_of y2 (S s 7)
    → r ≡ joined x3 y3 → r ≡ tag32 s
unfolding tag32 xor_of
xored_32 s e1 e2 e3 f1 f2 f3 er =
    er
    ∙ (λ i. joined ((e3 ∙ ap (λ (x : List ℕ). xor_of x (S s 3)) (e2 ∙ ap (λ (x : List ℕ). xor_of x (S s 2)) e1)) i)
    ((f3 ∙ ap (λ (y : List ℕ). xor_of y (S s 7)) (f2 ∙ ap (λ (y : List ℕ). xor_of y (S s 6)) f1)) i))

-- a tag of the buffer's own size, put over the buffer: t is the test that the size is 16
pub written : (s s' : Blocks) (a b : ℕ) (t : Bool) (out : List ℕ) {x r : List ℕ} → tag_size (length out) ≡ true → s' ≡ finalized s a b
    → eqb (length out) 16 ≡ t → x ≡ tag_by t s' → r ≡ over x out → r ≡ tag s a b (length out)
unfolding tag
written s s' a b t out {x} size es et ex er =
    let e : x ≡ tag s a b (length out) = ex ∙ ap (tag_by t) es ∙ ap (λ (u : Bool). tag_by u (finalized s a b)) (sym et) in
    er ∙ ap (λ (y : List ℕ). over y out) e ∙ over-same (tag s a b (length out)) out (tag_length s a b (length out) size)
