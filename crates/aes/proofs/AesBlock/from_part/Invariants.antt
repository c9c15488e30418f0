use Rattle.std.proofs.Common.{List, length, ℕ, ◌<◌, ◌≤◌}
use Rattle.aes.proofs.Filling.{Filled}
use Rattle.aes.proofs.AesBlock.from_part.Given as goal

-- n is the lesser of 16 and the part's length
pub record Least (n long : ℕ) : Type 0 where
  pub block : n ≤ 16
  pub part : n ≤ long
  pub one : n < 16 → long ≤ n

pub record Inv (src : List ℕ) (n : ℕ) (bytes : List ℕ) (i : ℕ) : Type 0 where
  pub filled : Filled src i bytes
  pub turn : i ≤ n
  pub least : Least n (length src)

abbrev pub invariant-loop-i : goal.invariant-loop-i
invariant-loop-i l = Inv l.src l.n l.bytes l.i
