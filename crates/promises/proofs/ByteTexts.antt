-- Bytes to bytes: where a cipher's states, keystream and tags are of bytes, so are the ciphertext, the message and the tag of bytes. So the
-- message whose sealed form opening accepts is a list of bytes.
-- Assumes nothing.
use Prim.Native.Nat.{ℕ}
use mathlib.Core.Path.{subst}
use mathlib.Core.List.{List}
use lib.ListN.{length}
use Rattle.machine.specs.Bytes.{Bytes}
use Rattle.machine.proofs.ByteLists.{absorb-bytes, encrypt_bytes, decrypt_bytes}
use Rattle.promises.specs.Cipher.{Cipher}
use Rattle.promises.specs.Texts.{keyed, ciphertext, plaintext, seal_tag}
use Rattle.promises.proofs.Forms.{SealedForm, form_plaintext}

pub record Bytewise {S : Type 0} (C : Cipher S) : Type 1 where
  -- a state that holds bytes
  pub P : S → Type 0
  pub inits : (key nonce : List ℕ) → Bytes key → Bytes nonce → P (C.init key nonce)
  pub begins : (s : S) → P s → Bytes (C.machine.begin s)
  pub absorbs : (s : S) (b : List ℕ) → P s → Bytes b → P (C.machine.absorb s b)
  pub tags : (s : S) (a b n : ℕ) → P s → Bytes (C.tag s a b n)

module _ {S : Type 0} (C : Cipher S) (B : Bytewise C) (key nonce ad : List ℕ) (bk : Bytes key) (bn : Bytes nonce) (ba : Bytes ad) where
  open C use {machine, init}

  keyed-bytes : B.P (keyed C key nonce ad)
  unfolding keyed
  keyed-bytes = absorb-bytes machine B.P B.begins B.absorbs (init key nonce) ad (B.inits key nonce bk bn) ba

  pub ciphertext-bytes : (msg : List ℕ) → Bytes msg → Bytes (ciphertext C key nonce ad msg)
  unfolding ciphertext
  ciphertext-bytes msg b = encrypt_bytes machine B.P B.begins B.absorbs (keyed C key nonce ad) msg keyed-bytes b

  plaintext-bytes : (ct : List ℕ) → Bytes ct → Bytes (plaintext C key nonce ad ct)
  unfolding plaintext
  plaintext-bytes ct b = decrypt_bytes machine B.P B.begins B.absorbs (keyed C key nonce ad) ct keyed-bytes b

  pub seal_tag-bytes : (msg : List ℕ) (n : ℕ) → Bytes msg → Bytes (seal_tag C key nonce ad msg n)
  unfolding seal_tag
  seal_tag-bytes msg n b = B.tags _ (length ad) (length msg) n (absorb-bytes machine B.P B.begins B.absorbs (keyed C key nonce ad) msg keyed-bytes b)

  -- the message of a sealed form of bytes is of bytes
  pub sealed_message_bytes : (msg ct tag : List ℕ) → SealedForm C key nonce ad msg ct tag → Bytes ct → Bytes msg
  sealed_message_bytes msg ct tag f b = subst Bytes (form_plaintext C key nonce ad msg ct tag f) (plaintext-bytes ct b)
