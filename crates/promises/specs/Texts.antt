-- The texts, for any cipher: the ciphertext, the message and the tags by the draft (sections Encrypt, Decrypt), and the MAC by document 01.
-- Assumes nothing.
use Rattle.std.specs.Prelude.{ℕ, List, [], ◌∷◌, ◌++◌, length, drop}
use Rattle.machine.specs.Draft.{draft_absorb, draft_encrypt, draft_decrypt, draft_decrypt_state}
use Rattle.promises.specs.Cipher.{Cipher, Mac}

-- written over the start of a buffer, of which the rest stays
abbrev pub onto : List ℕ → List ℕ → List ℕ
onto xs buf = xs ++ drop (length xs) buf

module _ {S : Type 0} (C : Cipher S) where
  open C use {machine, init, tag}

  -- the state after key, nonce and associated data
  unfoldable pub keyed : List ℕ → List ℕ → List ℕ → S
  keyed key nonce ad = draft_absorb machine (init key nonce) ad

  -- Encrypt: the ciphertext, and the tag of n bytes
  unfoldable pub ciphertext : List ℕ → List ℕ → List ℕ → List ℕ → List ℕ
  ciphertext key nonce ad msg = draft_encrypt machine (keyed key nonce ad) msg

  unfoldable pub seal_tag : List ℕ → List ℕ → List ℕ → List ℕ → ℕ → List ℕ
  seal_tag key nonce ad msg n = tag (draft_absorb machine (keyed key nonce ad) msg) (length ad) (length msg) n

  -- Decrypt: the message, and the tag of n bytes that it is to have
  unfoldable pub plaintext : List ℕ → List ℕ → List ℕ → List ℕ → List ℕ
  plaintext key nonce ad ct = draft_decrypt machine (keyed key nonce ad) ct

  unfoldable pub open_tag : List ℕ → List ℕ → List ℕ → List ℕ → ℕ → List ℕ
  open_tag key nonce ad ct n = tag (draft_decrypt_state machine (keyed key nonce ad) ct) (length ad) (length ct) n

module _ {S : Type 0} (C : Cipher S) (M : Mac S) where
  open C use {machine, init, tag}

  -- the MAC: the data is absorbed as AD is, the lengths are the data's and the tag's
  unfoldable pub mac_state : S → List ℕ → S
  mac_state s [] = M.empty s
  mac_state s (x ∷ xs) = draft_absorb machine s (x ∷ xs)

  unfoldable pub mac_tag : List ℕ → List ℕ → List ℕ → ℕ → List ℕ
  mac_tag key nonce data' n = tag (mac_state (init key nonce) data') (length data') n n
