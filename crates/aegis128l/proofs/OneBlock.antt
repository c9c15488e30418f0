-- One block of 32 bytes under the keystream: what code that encrypts or decrypts a block in place cites.
-- Assumes nothing.
use Prim.Native.Nat.{ℕ, ◌≤◌}
use mathlib.Core.Path.{◌≡◌, ap, ◌∙◌}
use mathlib.Core.List.{List}
use native.Mathlib.Omega.{arith}
use lib.ListN.{length}
use Rattle.machine.specs.Bytes.{xors}
use Rattle.machine.specs.Machine.{plain}
use Rattle.lent.specs.Lent.{xored}
use Rattle.lent.proofs.Xored.{xored-xors}
use Rattle.aegis128l.specs.Aegis128L.{Blocks, absorb, keystream, keystream_length}
use Rattle.aegis128l.specs.declared.mode.Mode.{Mode}
use Rattle.aegis128l.specs.declared.mode.Mode.TheVariants.{Encrypt, Decrypt}
use Rattle.aegis128l.specs.View.{mode_of}

-- the block, or a part of it, xored with the keystream in place
pub covered : (s : Blocks) (z xs ys : List ℕ) → z ≡ keystream s → ys ≡ xored z xs → length xs ≤ 32 → ys ≡ xors xs (keystream s)
covered s z xs ys ez ey h =
    let l : length (keystream s) ≡ 32 = keystream_length s in
    ey ∙ ap (λ (k : List ℕ). xored k xs) ez ∙ xored-xors (keystream s) xs (omega arith)

module _ (s r : Blocks) (xs ys : List ℕ) (m : Mode) (out : ys ≡ xors xs (keystream s)) where
  abbrev Done : Type 0
  Done = (r ≡ absorb s (plain (mode_of m) xs (xors xs (keystream s)))) × (ys ≡ xors xs (keystream s))

  -- what comes out is absorbed, or what went in
  pub decrypted : m ≡ Decrypt → r ≡ absorb s ys → Done
  decrypted e h = (rw e (h ∙ ap (absorb s) out), out)

  pub encrypted : m ≡ Encrypt → r ≡ absorb s xs → Done
  encrypted e h = (rw e h, out)
