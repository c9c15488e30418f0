-- Calls of seal and of open with the right tag size, within the limit and with room for the output, under one key, nonce and associated data:
-- what a call was lent, its answer and what it left (with a prime), with its contract as the one fact that is known of it.
-- Assumes nothing.
use Rattle.std.specs.Prelude.{ℕ, ◌≤◌, ◌≡◌, List, length}
use Rattle.answers.specs.Answers.{limit}
use Rattle.promises.specs.Cipher.{Cipher}
use Rattle.promises.specs.Met.{SealMet, OpenMet}

pub record SealCall {S : Type 0} (C : Cipher S) (key nonce ad : List ℕ) (n : ℕ) : Type 0 where
  pub msg : List ℕ
  pub out : List ℕ
  pub tag : List ℕ
  pub answer : ℕ
  pub out' : List ℕ
  pub tag' : List ℕ
  pub met : SealMet C key nonce ad msg out tag answer out' tag'
  pub own_size : length tag ≡ n
  pub within : length msg ≤ limit
  pub room : length msg ≤ length out

pub record OpenCall {S : Type 0} (C : Cipher S) (key nonce ad : List ℕ) (n : ℕ) : Type 0 where
  pub ct : List ℕ
  pub tag : List ℕ
  pub out : List ℕ
  pub answer : ℕ
  pub out' : List ℕ
  pub met : OpenMet C key nonce ad ct tag out answer out'
  pub own_size : length tag ≡ n
  pub within : length ct ≤ limit
  pub room : length ct ≤ length out
