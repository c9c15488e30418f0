-- Updates again, in a form that a checker computes fast: the S-box by its table, and each state written out before the next update. At every
-- state they are the definitions'.
-- Assumes nothing.
use Prim.Native.Nat.{ℕ, zero, suc}
use mathlib.Core.Path.{◌≡◌, refl, ap, ◌∙◌}
use mathlib.Core.Bool.{Bool, true, false}
use mathlib.Core.List.{List, [], ◌∷◌, ◌++◌}
use lib.Dec.{ltb}
use lib.ListN.{get_or}
use borrow.Author.Tests.{ltb-true}
use Rattle.aes.specs.Field.{sbox, pick}
use Rattle.machine.specs.Bytes.{xors}
use Rattle.machine.specs.Draft.{absorb_blocks, enc_blocks}
use Rattle.aes.specs.Round.{state, at, columns_of, bytes_of, shift_rows, mix_columns, add_round_key, round_of, xor_of, block_at}
use Rattle.aes.proofs.Table.{table, right}
use Rattle.aegis128l.specs.Aegis128L.{Blocks, S, update, updates, absorb, keystream, machine}

-- ---- the S-box by its table, which has the bytes alone

abbrev looked_up : ℕ → ℕ
looked_up b = pick (ltb b 256) (get_or table b 0) (sbox b)

is_sbox : (b : ℕ) → looked_up b ≡ sbox b
is_sbox b = go (ltb b 256) refl
  where
    go : (t : Bool) → ltb b 256 ≡ t → pick t (get_or table b 0) (sbox b) ≡ sbox b
    go true e = right.right b (ltb-true b 256 e)
    go false e = refl

-- round and update over any S-box
abbrev round_by : (ℕ → ℕ) → List ℕ → List ℕ → List ℕ
round_by f b k = bytes_of (add_round_key (mix_columns (shift_rows (state (λ r c. f (at (columns_of b) r c))))) (columns_of k))

abbrev update_by : (ℕ → ℕ) → Blocks → List ℕ → List ℕ → Blocks
update_by f s m0 m1 =
    xor_of (round_by f (S s 7) (S s 0)) m0
    ∷ round_by f (S s 0) (S s 1)
    ∷ round_by f (S s 1) (S s 2)
    ∷ round_by f (S s 2) (S s 3)
    ∷ xor_of (round_by f (S s 3) (S s 4)) m1
    ∷ round_by f (S s 4) (S s 5)
    ∷ round_by f (S s 5) (S s 6)
    ∷ round_by f (S s 6) (S s 7)
    ∷ []

is_update : (s : Blocks) (m0 m1 : List ℕ) → update_by looked_up s m0 m1 ≡ update s m0 m1
unfolding update round_of
is_update s m0 m1 = λ i. update_by (λ b. is_sbox b i) s m0 m1

-- ---- a value, written out before it is used

module _ {A : Type 0} where
  abbrev with_byte : ℕ → (ℕ → A) → A
  with_byte zero k = k zero
  with_byte (suc n) k = k (suc n)

  abbrev with_bytes : List ℕ → (List ℕ → A) → A
  with_bytes [] k = k []
  with_bytes (x ∷ xs) k = with_byte x (λ y. with_bytes xs (λ ys. k (y ∷ ys)))

  abbrev pub with_blocks : Blocks → (Blocks → A) → A
  with_blocks [] k = k []
  with_blocks (b ∷ bs) k = with_bytes b (λ c. with_blocks bs (λ cs. k (c ∷ cs)))

  byte_is : (x : ℕ) (k : ℕ → A) → with_byte x k ≡ k x
  byte_is zero k = refl
  byte_is (suc n) k = refl

  bytes_are : (xs : List ℕ) (k : List ℕ → A) → with_bytes xs k ≡ k xs
  bytes_are [] k = refl
  bytes_are (x ∷ xs) k = byte_is x (λ y. with_bytes xs (λ ys. k (y ∷ ys))) ∙ bytes_are xs (λ ys. k (x ∷ ys))

  pub blocks_are : (s : Blocks) (k : Blocks → A) → with_blocks s k ≡ k s
  blocks_are [] k = refl
  blocks_are (b ∷ bs) k = bytes_are b (λ c. with_blocks bs (λ cs. k (c ∷ cs))) ∙ blocks_are bs (λ cs. k (b ∷ cs))

-- ---- n updates

unfoldable pub computed : ℕ → Blocks → List ℕ → List ℕ → Blocks
computed zero s m0 m1 = s
computed (suc n) s m0 m1 = with_blocks (update_by looked_up s m0 m1) (λ t. computed n t m0 m1)

pub is_computed : (n : ℕ) (s : Blocks) (m0 m1 : List ℕ) → computed n s m0 m1 ≡ updates n s m0 m1
unfolding computed updates
is_computed zero s m0 m1 = refl
is_computed (suc n) s m0 m1 =
    blocks_are (update_by looked_up s m0 m1) (λ t. computed n t m0 m1)
    ∙ is_computed n (update_by looked_up s m0 m1) m0 m1
    ∙ ap (λ (t : Blocks). updates n t m0 m1) (is_update s m0 m1)

-- ---- an update with each block, and what comes out

unfoldable pub absorbs : Blocks → List (List ℕ) → Blocks
absorbs s [] = s
absorbs s (b ∷ bs) = with_blocks (update_by looked_up s (block_at b 0) (block_at b 16)) (λ t. absorbs t bs)

unfoldable pub encrypts : Blocks → List (List ℕ) → List ℕ
encrypts s [] = []
encrypts s (b ∷ bs) = xors b (keystream s) ++ with_blocks (update_by looked_up s (block_at b 0) (block_at b 16)) (λ t. encrypts t bs)

pub is_absorbed : (s : Blocks) (bs : List (List ℕ)) → absorbs s bs ≡ absorb_blocks machine s bs
unfolding absorbs absorb_blocks absorb
is_absorbed s [] = refl
is_absorbed s (b ∷ bs) =
    blocks_are (update_by looked_up s (block_at b 0) (block_at b 16)) (λ t. absorbs t bs)
    ∙ is_absorbed (update_by looked_up s (block_at b 0) (block_at b 16)) bs
    ∙ ap (λ (t : Blocks). absorb_blocks machine t bs) (is_update s (block_at b 0) (block_at b 16))

pub is_encrypted : (s : Blocks) (bs : List (List ℕ)) → encrypts s bs ≡ enc_blocks machine s bs
unfolding encrypts enc_blocks absorb
is_encrypted s [] = refl
is_encrypted s (b ∷ bs) =
    ap (λ (r : List ℕ). xors b (keystream s) ++ r)
    (blocks_are (update_by looked_up s (block_at b 0) (block_at b 16)) (λ t. encrypts t bs)
    ∙ is_encrypted (update_by looked_up s (block_at b 0) (block_at b 16)) bs
    ∙ ap (λ (t : Blocks). enc_blocks machine t bs) (is_update s (block_at b 0) (block_at b 16)))
