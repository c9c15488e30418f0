-- The update as a loop: each block by a round from its old neighbour, and then the two message blocks.
-- Assumes nothing.
use Prim.Native.Nat.{ℕ, ◌+◌, ◌%◌, ◌≤◌, ◌<◌}
use mathlib.Core.Path.{◌≡◌, ap, ◌∙◌}
use mathlib.Core.List.{List, [], ◌∷◌}
use native.Mathlib.Omega.{arith}
use borrow.Author.Count.{below_more}
use lib.ListN.{length, set, length-set}
use lib.Seq.{get_or-set_same, get_or-set_other}
use Rattle.aes.specs.declared.AesBlock.{AesBlock}
use Rattle.aes.specs.Round.{round_of, xor_of}
use Rattle.aegis128l.specs.Aegis128L.{update}
use Rattle.aegis128l.specs.View.{no_block, bytes_at, blocks_of}

-- block k by its round: the one before it goes in, and before the first stands the last
abbrev pub rounded : List AesBlock → ℕ → List ℕ
rounded s k = round_of (bytes_at s ((k + 7) % 8)) (bytes_at s k)

-- i blocks are done
pub record Rounds (s n : List AesBlock) (i : ℕ) : Type 0 where
  pub within : i ≤ 8
  pub long : length n ≡ 8
  pub done : (k : ℕ) → k < i → bytes_at n k ≡ rounded s k

abbrev bytes : AesBlock → List ℕ
bytes x = x.bytes

module _ {s n : List AesBlock} {i : ℕ} (p : Rounds s n i) where
  pub turned : (x : AesBlock) → i < 8 → x.bytes ≡ rounded s i → Rounds s (set n i x) (i + 1)
  turned x h e =
      let long : length n ≡ 8 = p.long in
      record {
        within = omega arith;
        long = length-set n i x ∙ long;
        done =
            below_more (λ k. bytes_at (set n i x) k ≡ rounded s k) i
            (λ k l. ap bytes (get_or-set_other n i k x no_block (λ q. omega arith)) ∙ p.done k l)
            (ap bytes (get_or-set_same n i x no_block (omega arith)) ∙ e);
      }

  -- the message blocks go into blocks 0 and 4
  module _ (x y : AesBlock) (end : 8 ≤ i) where
    kept : (k : ℕ) → k < 8 → (k ≡ 0 → ⊥) → (k ≡ 4 → ⊥) → bytes_at (set (set n 0 x) 4 y) k ≡ rounded s k
    kept k h h0 h4 =
        ap bytes (get_or-set_other (set n 0 x) 4 k y no_block h4 ∙ get_or-set_other n 0 k x no_block h0) ∙ p.done k (omega arith)

    pub updated : (a b : List ℕ) → x.bytes ≡ xor_of (bytes_at n 0) a → y.bytes ≡ xor_of (bytes_at (set n 0 x) 4) b
        → blocks_of (set (set n 0 x) 4 y) ≡ update (blocks_of s) a b
    unfolding update
    updated a b ex ey =
        let long : length n ≡ 8 = p.long in
        let long' : length (set n 0 x) ≡ 8 = length-set n 0 x ∙ long in
        let e0 : bytes_at (set (set n 0 x) 4 y) 0 ≡ xor_of (rounded s 0) a =
        ap bytes (get_or-set_other (set n 0 x) 4 0 y no_block (λ q. omega arith) ∙ get_or-set_same n 0 x no_block (omega arith))
        ∙ ex ∙ ap (λ (m : List ℕ). xor_of m a) (p.done 0 (omega arith)) in
        let e4 : bytes_at (set (set n 0 x) 4 y) 4 ≡ xor_of (rounded s 4) b =
        ap bytes (get_or-set_same (set n 0 x) 4 y no_block (omega arith))
        ∙ ey ∙ ap (λ (m : List ℕ). xor_of m b) (ap bytes (get_or-set_other n 0 4 x no_block (λ q. omega arith)) ∙ p.done 4 (omega arith)) in
        let e1 = kept 1 (omega arith) (λ q. omega arith) (λ q. omega arith) in
        let e2 = kept 2 (omega arith) (λ q. omega arith) (λ q. omega arith) in
        let e3 = kept 3 (omega arith) (λ q. omega arith) (λ q. omega arith) in
        let e5 = kept 5 (omega arith) (λ q. omega arith) (λ q. omega arith) in
        let e6 = kept 6 (omega arith) (λ q. omega arith) (λ q. omega arith) in
        let e7 = kept 7 (omega arith) (λ q. omega arith) (λ q. omega arith) in
        (λ j. e0 j ∷ e1 j ∷ e2 j ∷ e3 j ∷ e4 j ∷ e5 j ∷ e6 j ∷ e7 j ∷ [])
