-- Each case of the table gives what it must, by computation of the definitions.
-- Assumes nothing.
use mathlib.Core.Path.{◌≡◌, refl}
use mathlib.Core.List.{map}
use Rattle.machine.specs.Lengths.{length_block}
use Rattle.answers.specs.Length.{counted, added_to}
use Rattle.aes.specs.Field.{xtime, mul_bits, mul, inv, affine, sbox}
use Rattle.aes.specs.Round.{mixed, round_of, xor_of, and_of}
use Rattle.aegis128l.specs.Aegis128L.{update, absorb, keystream}
use Rattle.hub_record.specs.Nonce.{nonce_of}
use Rattle.cases.specs.Cases.{cases}

pub hold : map (λ c. c.gives) cases ≡ map (λ c. c.must) cases
unfolding xtime mul_bits mul inv affine sbox mixed round_of xor_of and_of counted added_to length_block update absorb keystream nonce_of
hold = refl
