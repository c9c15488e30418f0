-- Whole blocks of a lent buffer, one by one: a machine that starts at the edge of a block goes on by whole blocks.
-- Assumes nothing.
use Prim.Native.Nat.{ℕ, zero, ◌-◌, ◌≤◌}
use mathlib.Core.Path.{◌≡◌, refl, sym, ap, ◌∙◌}
use mathlib.Core.List.{List, []}
use native.Mathlib.Nat.{le_of_eq}
use lib.ListN.{length, take, drop, length-drop}
use borrow.Rule.Slice.PartMut.{put_mid}
use Rattle.machine.specs.Bytes.{xors}
use Rattle.machine.specs.Machine.{Machine, Core, Mode, start, after, out}
use Rattle.machine.proofs.Bytes.{length-xors}
use Rattle.machine.proofs.Block.{text}
use Rattle.machine.proofs.Blockwise.{after_block, out-block}
use Rattle.lent.proofs.Parts.{take_rest}
use Rattle.lent.proofs.Rest.{Blocks, Going, going_tail, going_done}

module _ {S : Type 0} (M : Machine S) (m : Mode) where
  open M use {rate, begin, absorb, begin_length}

  -- the core after l, and what comes out, from the start of a block
  abbrev pub after_from : S → List ℕ → Core S
  after_from s l = after M m (start M s) l

  abbrev pub out_from : S → List ℕ → List ℕ
  out_from s l = out M m (start M s) l

  -- s and l are the state and the buffer with i bytes done, s₀ and l₀ those at the start
  abbrev pub Transformed : S → List ℕ → S → List ℕ → ℕ → Type 0
  Transformed = Going after_from out_from

  pub by_blocks : Blocks rate (λ s b. absorb s (text M m s b)) (λ s b. xors b (begin s)) after_from out_from
  by_blocks = record {
    state = λ s l h. after_block M m s l h;
    out = λ s l h. out-block M m s l h;
    size = λ s b h. length-xors b (begin s) (le_of_eq (h ∙ sym (begin_length s))) ∙ h;
  }

  pub from_nil : (s : S) → (after_from s [] ≡ start M s) × (out_from s [] ≡ [])
  unfolding after out
  from_nil s = (refl, refl)

  -- ---- at the end of the loop a core d starts in the state: what is left goes in, or nothing is
  module _ {s₀ : S} {l₀ : List ℕ} (s : S) (l : List ℕ) (i : ℕ) (p : Transformed s₀ l₀ s l i) {d : Core S} (e : d ≡ start M s) where
    pub blocks-tail : (k : ℕ) {r : Core S} {ys : List ℕ} → r ≡ after M m d (take k (drop i l)) → ys ≡ out M m d (take k (drop i l))
        → k ≡ length l - i → (r ≡ after_from s₀ l₀) × (put_mid i k l ys ≡ out_from s₀ l₀)
    blocks-tail k {r} {ys} er ey v =
        going_tail s l i p k r ys (er ∙ ap (λ (x : Core S). after M m x (take k (drop i l))) e)
        (ey ∙ ap (λ (x : Core S). out M m x (take k (drop i l))) e) v

    pub blocks_done : length l ≤ i → (d ≡ after_from s₀ l₀) × (l ≡ out_from s₀ l₀)
    blocks_done h = going_done s l i p ((from_nil s).0 ∙ sym e) (from_nil s).1 h

-- ---- the parts that a loop at i lends: a block of n bytes, and what is left

pub rest-length : (i : ℕ) (l : List ℕ) → length (take (length l - i) (drop i l)) ≡ length l - i
rest-length i l = ap length (take_rest i l) ∙ length-drop i l

-- what is left begins a block
pub starts_empty : {S : Type 0} (M : Machine S) (s : S) (d : Core S) → d ≡ start M s → d.fill ≡ zero
unfolding start
starts_empty {S} M s d e = ap (λ (x : Core S). x.fill) e
