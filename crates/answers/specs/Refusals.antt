-- The refusals of document 01's table with their numbers. 0 is done.
-- Assumes nothing.
use Rattle.std.specs.Prelude.{ℕ, Result, Ok, Err}
use Rattle.answers.specs.declared.Refusal.{Refusal}
use Rattle.answers.specs.declared.Refusal.TheVariants.{TagSize, KeySize, NonceSize, AdTooLong, MessageTooLong, NoRoom}
use Rattle.answers.specs.declared.Refusal.TheVariants.{TagDiffers, NotLive, LengthsDiffer, OtherBuffer, WrongShape}

abbrev pub number : Refusal → ℕ
number TagSize = 1
number KeySize = 2
number NonceSize = 3
number AdTooLong = 4
number MessageTooLong = 5
number NoRoom = 6
number TagDiffers = 7
number NotLive = 8
number LengthsDiffer = 9
number OtherBuffer = 10
number WrongShape = 11

-- what a call with this outcome answers
abbrev pub answer_of : {A : Type 0} → Result A Refusal → ℕ
answer_of (Ok x) = 0
answer_of (Err e) = number e
