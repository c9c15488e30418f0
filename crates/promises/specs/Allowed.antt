-- What is fixed when one speaks of sealed forms: a key, a nonce, associated data and a tag size that no call refuses.
-- Assumes nothing.
use Rattle.std.specs.Prelude.{ℕ, ◌≤◌, ◌≡◌, true, List, length}
use Rattle.answers.specs.Answers.{limit, tag_size}
use Rattle.promises.specs.Cipher.{Cipher}

pub record Allowed {S : Type 0} (C : Cipher S) (key nonce ad : List ℕ) (n : ℕ) : Type 0 where
  pub key_size : length key ≡ C.size
  pub nonce_size : length nonce ≡ C.size
  pub ad_fits : length ad ≤ limit
  pub tag_size_ok : tag_size n ≡ true
