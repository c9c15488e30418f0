-- What the numbers of refusals have in common.
-- Assumes nothing.
use mathlib.Core.Path.{◌≡◌}
use native.Mathlib.Omega.{arith}
use Rattle.answers.specs.declared.Refusal.{Refusal}
use Rattle.answers.specs.declared.Refusal.TheVariants.{TagSize, KeySize, NonceSize, AdTooLong, MessageTooLong, NoRoom}
use Rattle.answers.specs.declared.Refusal.TheVariants.{TagDiffers, NotLive, LengthsDiffer, OtherBuffer, WrongShape}
use Rattle.answers.specs.Refusals.{number}

-- a refusal is not done
pub number_zero : (e : Refusal) → number e ≡ 0 → ⊥
number_zero TagSize z = omega arith
number_zero KeySize z = omega arith
number_zero NonceSize z = omega arith
number_zero AdTooLong z = omega arith
number_zero MessageTooLong z = omega arith
number_zero NoRoom z = omega arith
number_zero TagDiffers z = omega arith
number_zero NotLive z = omega arith
number_zero LengthsDiffer z = omega arith
number_zero OtherBuffer z = omega arith
number_zero WrongShape z = omega arith
