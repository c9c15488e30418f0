-- The decimal digits of a number are those that std's `{}` writes, and how many they are.
-- Assumes nothing.
use Prim.Native.Nat.{ℕ, suc, ◌^◌, ◌≤◌, ◌<◌}
use mathlib.Core.Path.{◌≡◌}
use native.Mathlib.Omega.{arith}
use lib.ListN.{length}
use Rattle.std.proofs.Common.{rules}
use Rattle.std.proofs.lemmas.Fmt.{AppendsLastDigit, decimal_from_appends, length-decimal-le, length-decimal-le_succ}
use Rattle.std.specs.Fmt as std
use Rattle.hub_record.specs.Decimal.{digits, decimal}

last_appended : AppendsLastDigit digits
unfolding digits
last_appended = search rules

pub decimal_std : (n : ℕ) → n < 2 ^ 64 → decimal n ≡ std.decimal n
unfolding decimal
decimal_std n h = decimal_from_appends digits last_appended (suc n) n h (omega (arith, length-decimal-le_succ n h))

pub decimal-length : (k n : ℕ) → n < 10 ^ suc k → n < 2 ^ 64 → length (decimal n) ≤ suc k
decimal-length k n s h = rw (decimal_std n h) (length-decimal-le (suc k) n (omega arith) s h)
