-- Numbers as bytes, and the block of two lengths that every cipher of the draft ends with.
-- Assumes nothing.
use Rattle.std.specs.Prelude.{ℕ, ◌*◌, ◌/◌, ◌%◌, ◌^◌, List, [], ◌∷◌, ◌++◌}

-- a number as 8 bytes, little-endian
abbrev pub le64 : ℕ → List ℕ
le64 n =
    n % 256
    ∷ n / 2 ^ 8 % 256
    ∷ n / 2 ^ 16 % 256
    ∷ n / 2 ^ 24 % 256
    ∷ n / 2 ^ 32 % 256
    ∷ n / 2 ^ 40 % 256
    ∷ n / 2 ^ 48 % 256
    ∷ n / 2 ^ 56 % 256
    ∷ []

-- two lengths in bytes, as bits: AD and message, or a MAC's data and tag
unfoldable pub length_block : ℕ → ℕ → List ℕ
length_block a b = le64 (a * 8) ++ le64 (b * 8)
