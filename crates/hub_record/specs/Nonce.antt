-- The nonce rule of document 01 ("Nonce rule and hub program"), which stands here alone: bytes 0 to 7 the scale number, bytes 8 to 15
-- the record number, little-endian.
-- Assumes nothing.
use Rattle.std.specs.Prelude.{ℕ, List, ◌++◌}
use Rattle.machine.specs.Lengths.{le64}

unfoldable pub nonce_of : ℕ → ℕ → List ℕ
nonce_of scale number = le64 scale ++ le64 number
