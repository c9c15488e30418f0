-- A part xored in place with a block from f on, and its plaintext laid into the block there.
-- Assumes nothing.
use Prim.Native.Nat.{ℕ, ◌+◌, ◌-◌, ◌≤◌}
use mathlib.Core.Path.{◌≡◌, refl, sym, ap, ◌∙◌}
use mathlib.Core.List.{List, ◌++◌, append_assoc}
use native.Mathlib.Omega.{arith}
use lib.ListN.{length, take, drop, length-drop}
use lib.Seq.{drop-drop, length-take-le}
use borrow.Rule.Slice.PartMut.{put_mid}
use Rattle.machine.specs.Bytes.{xors}
use Rattle.machine.specs.Machine.{plain}
use Rattle.machine.proofs.Bytes.{xors-take}
use Rattle.lent.specs.Lent.{over, xored}
use Rattle.lent.proofs.Over.{over-same}
use Rattle.lent.proofs.Xored.{xored-xors, length-xored}
use Rattle.aegis128l.specs.declared.mode.Mode.{Mode}
use Rattle.aegis128l.specs.declared.mode.Mode.TheVariants.{Encrypt, Decrypt}
use Rattle.aegis128l.specs.View.{mode_of}

-- k is the block, xs the part as it came, and n its length
module _ (k xs : List ℕ) (f n : ℕ) (size : n ≡ length xs) (fits : f + length xs ≤ length k) where
  -- the place in the block that the part meets
  abbrev place : List ℕ
  place = take n (drop f k)

  place-length : length place ≡ length xs
  place-length =
      let d : length (drop f k) ≡ length k - f = length-drop f k in
      length-take-le n (drop f k) (omega arith) ∙ size

  coded : xored place xs ≡ xors xs (drop f k)
  coded =
      let l : length place ≡ length xs = place-length in
      xored-xors place xs (omega arith) ∙ ap (λ (j : ℕ). xors xs (take j (drop f k))) size ∙ xors-take xs (drop f k)

  -- ts laid over that place
  pub laid : (ts p : List ℕ) → length ts ≡ length xs → p ≡ over ts place → put_mid f n k p ≡ take f k ++ ts ++ drop (f + length xs) k
  laid ts p l e =
      ap (put_mid f n k) (e ∙ over-same ts place (l ∙ sym place-length))
      ∙ ap (λ (r : List ℕ). take f k ++ (ts ++ r)) (drop-drop n f k ∙ ap (λ (j : ℕ). drop (f + j) k) size)
      ∙ sym (append_assoc (take f k) ts (drop (f + length xs) k))

  module _ (ys p : List ℕ) (m : Mode) (o : ys ≡ xored place xs) where
    abbrev Done : Type 0
    Done = (put_mid f n k p ≡ take f k ++ plain (mode_of m) xs ys ++ drop (f + length xs) k) × (ys ≡ xors xs (drop f k))

    -- what came out is laid into the block, or what went in
    pub filled_decrypted : m ≡ Decrypt → p ≡ over ys place → Done
    filled_decrypted t e = (rw t (laid ys p (ap length o ∙ length-xored place xs) e), o ∙ coded)

    pub filled_encrypted : m ≡ Encrypt → p ≡ over xs place → Done
    filled_encrypted t e = (rw t (laid xs p refl e), o ∙ coded)
