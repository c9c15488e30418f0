-- The format of the recorded list: numbers are little-endian, and a record is kind (1 byte), tag size (1), key (16), nonce (16), AD length
-- (2), message length (2), AD, message, ciphertext, tag. A MAC has no ciphertext; a stream has no message, and its keystream stands in the
-- ciphertext's place.
-- Assumes nothing.
use Rattle.std.specs.Prelude.{ℕ, ◌+◌, ◌*◌, ◌≡◌, cond, List, eqb, get_or}
use Rattle.std.specs.List.{between}
use Rattle.recorded.specs.declared.list.Layout.{Layout}

abbrev pub number_at : ℕ → List ℕ → ℕ
number_at i l = get_or l i 0 + 256 * get_or l (i + 1) 0

-- a part of n bytes, which records of one kind leave out
abbrev pub unless : ℕ → ℕ → ℕ → ℕ
unless kind without n = cond (eqb kind without) 0 n

abbrev pub kind_of : List ℕ → ℕ
kind_of l = get_or l 0 0

-- where the parts of the record at the start of a list start, and where it ends
abbrev pub msg_place : List ℕ → ℕ
msg_place l = 38 + number_at 34 l

abbrev pub ct_place : List ℕ → ℕ
ct_place l = msg_place l + unless (kind_of l) 4 (number_at 36 l)

abbrev pub tag_place : List ℕ → ℕ
tag_place l = ct_place l + unless (kind_of l) 3 (number_at 36 l)

abbrev pub end_place : List ℕ → ℕ
end_place l = tag_place l + get_or l 1 0

-- a layout is the one that a list's start has
pub record LaidOut (l : List ℕ) (r : Layout) : Type 0 where
  pub msg_is : r.msg ≡ msg_place l
  pub ct_is : r.ct ≡ ct_place l
  pub tag_is : r.tag ≡ tag_place l
  pub end_is : r.end ≡ end_place l

abbrev pub key_in : List ℕ → List ℕ
key_in l = between 2 18 l

abbrev pub nonce_in : List ℕ → List ℕ
nonce_in l = between 18 34 l

abbrev pub ad_in : List ℕ → List ℕ
ad_in l = between 38 (msg_place l) l

abbrev pub msg_in : List ℕ → List ℕ
msg_in l = between (msg_place l) (ct_place l) l

abbrev pub ct_in : List ℕ → List ℕ
ct_in l = between (ct_place l) (tag_place l) l

abbrev pub tag_in : List ℕ → List ℕ
tag_in l = between (tag_place l) (end_place l) l
