-- What a record of each kind says, by the promises' definitions.
-- Assumes nothing.
use Rattle.std.specs.Prelude.{ℕ, ◌≡◌, ◌≢◌, List, length, get_or, set, replicate}
use Rattle.std.specs.Int.Bits.{bit_xor}
use Rattle.machine.specs.Kinds as kinds
use Rattle.promises.specs.Texts.{ciphertext, seal_tag, plaintext, open_tag, mac_tag}
use Rattle.aegis128l.specs.Aegis128L.{machine, init}
use Rattle.aegis128l.specs.Cipher.{aegis128l, mac_of_aegis128l}
use Rattle.recorded.specs.declared.list.Record.{Record}

-- the message seals to the ciphertext and the tag
pub record Sealed (key nonce ad msg ct tag : List ℕ) : Type 0 where
  pub text : ct ≡ ciphertext aegis128l key nonce ad msg
  pub tagged : tag ≡ seal_tag aegis128l key nonce ad msg (length tag)

-- the ciphertext and the tag open to the message
pub record Opened (key nonce ad msg ct tag : List ℕ) : Type 0 where
  pub text : msg ≡ plaintext aegis128l key nonce ad ct
  pub tagged : tag ≡ open_tag aegis128l key nonce ad ct (length tag)

-- the tag is the one that the ciphertext is to have
pub record Accepted (key nonce ad ct tag : List ℕ) : Type 0 where
  pub tagged : tag ≡ open_tag aegis128l key nonce ad ct (length tag)

-- the tag is another than the one that the ciphertext is to have, and 0xaa is left for each byte
pub record Refused (key nonce ad left ct tag : List ℕ) : Type 0 where
  pub differs : tag ≢ open_tag aegis128l key nonce ad ct (length tag)
  pub erased : left ≡ replicate (length ct) 0xaa

pub record Maced (key nonce data' tag : List ℕ) : Type 0 where
  pub tagged : tag ≡ mac_tag aegis128l mac_of_aegis128l key nonce data' (length tag)

pub record Streamed (key nonce stream : List ℕ) : Type 0 where
  pub text : stream ≡ kinds.keystream machine (init key nonce) (length stream)

-- a tag with one bit changed
abbrev pub flipped : List ℕ → List ℕ
flipped t = set t 0 (bit_xor (get_or t 0 0) 1)

-- ---- of a record that was taken out of a list

module _ (r : Record) where
  abbrev pub IsSealed : Type 0
  IsSealed = Sealed r.key.now r.nonce.now r.ad.now r.msg.now r.ct.now r.tag.now

  abbrev pub IsOpened : Type 0
  IsOpened = Opened r.key.now r.nonce.now r.ad.now r.msg.now r.ct.now r.tag.now

  abbrev pub IsAccepted : Type 0
  IsAccepted = Accepted r.key.now r.nonce.now r.ad.now r.ct.now r.tag.now

  abbrev pub IsRefused : Type 0
  IsRefused = Refused r.key.now r.nonce.now r.ad.now r.msg.now r.ct.now r.tag.now

  abbrev pub IsMaced : Type 0
  IsMaced = Maced r.key.now r.nonce.now r.msg.now r.tag.now

  abbrev pub IsStreamed : Type 0
  IsStreamed = Streamed r.key.now r.nonce.now r.ct.now
