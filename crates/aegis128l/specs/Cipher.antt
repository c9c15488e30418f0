-- AEGIS-128L as a cipher of the family, with the MAC of document 01: empty data absorbs one block of zeros.
-- Assumes nothing.
use Rattle.std.specs.Prelude.{ℕ, ◌≡◌, refl, Bool, true, false, ◌||◌, eqb, length, replicate}
use Rattle.std.proofs.Common.{sym, eqb-true}
use Rattle.machine.specs.Bytes.{zeros}
use Rattle.aes.specs.Round.{xor_of}
use Rattle.answers.specs.Answers.{tag_size}
use Rattle.promises.specs.Cipher.{Cipher, Mac}
use Rattle.aegis128l.specs.Aegis128L.{Blocks, absorb, init, finalized, tag16, tag32, tag_by, tag, machine}

-- a tag is as long as it was asked for
by_length : (n : ℕ) (t : Bool) (s : Blocks) → eqb n 16 ≡ t → (t || eqb n 32) ≡ true → length (tag_by t s) ≡ n
unfolding tag16 tag32 xor_of
by_length n true s e h = sym (eqb-true n 16 e)
by_length n false s e h = sym (eqb-true n 32 h)

pub tag_length : (s : Blocks) (a b n : ℕ) → tag_size n ≡ true → length (tag s a b n) ≡ n
unfolding tag
tag_length s a b n h = by_length n (eqb n 16) (finalized s a b) refl h

abbrev pub aegis128l : Cipher Blocks
aegis128l = record {
  size = 16;
  machine = machine;
  init = init;
  tag = tag;
  blank = replicate 8 (zeros 16);
  tag_length = tag_length;
}

abbrev pub mac_of_aegis128l : Mac Blocks
mac_of_aegis128l = record { empty = λ s. absorb s (zeros 32) }
