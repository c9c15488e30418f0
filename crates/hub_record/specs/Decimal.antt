-- A number in decimal, in ASCII.
-- Assumes nothing.
use Rattle.std.specs.Prelude.{ℕ, zero, suc, ◌+◌, ◌/◌, ◌%◌, cond, List, [], ◌∷◌, ◌++◌, ltb}

-- at most k digits: those of the number's tens, where it has any, and then its last
unfoldable pub digits : ℕ → ℕ → List ℕ
digits zero n = []
digits (suc k) n = cond (ltb n 10) [] (digits k (n / 10)) ++ ((48 + n % 10) ∷ [])

-- no number n has more than n + 1 digits
unfoldable pub decimal : ℕ → List ℕ
decimal n = digits (suc n) n
