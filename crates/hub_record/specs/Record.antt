-- The hub record of document 01 ("Nonce rule and hub program"): its limits, its layout, the order of its refusals, and what opening it
-- leaves, by the one-shot opening of its parts.
-- Assumes nothing.
use Rattle.std.specs.Prelude.{ℕ, ◌+◌, ◌*◌, ◌-◌, List, ◌++◌, leb, length, take, drop, get_or}
use Rattle.answers.specs.Answers.{unless, tag_size}
use Rattle.promises.specs.OneShot.{Left, on_done, open_in_place_of}
use Rattle.aegis128l.specs.Cipher.{aegis128l}

-- ---- limits, in bytes

abbrev pub ad_limit : ℕ
ad_limit = 512

abbrev pub text_limit : ℕ
text_limit = 4096

abbrev pub input_limit : ℕ
input_limit = 4675

-- ---- layout: tag size (1 byte), key (16), nonce (16), AD length (2, little-endian), AD, ciphertext, tag

-- all that stands before the AD
abbrev pub head_size : ℕ
head_size = 35

-- the bytes from place a up to place e
abbrev pub between : ℕ → ℕ → List ℕ → List ℕ
between a e l = take (e - a) (drop a l)

abbrev pub tag_size_in : List ℕ → ℕ
tag_size_in l = get_or l 0 0

abbrev pub ad_length_in : List ℕ → ℕ
ad_length_in l = get_or l 33 0 + 256 * get_or l 34 0

-- where the ciphertext starts, and where it ends
abbrev pub text_start : List ℕ → ℕ
text_start l = head_size + ad_length_in l

abbrev pub text_end : List ℕ → ℕ
text_end l = length l - tag_size_in l

pub record Parts : Type 0 where
  pub key : List ℕ
  pub nonce : List ℕ
  pub ad : List ℕ
  pub text : List ℕ
  pub tag : List ℕ

-- the parts, where the ciphertext goes from place a up to place e
abbrev pub parts_by : ℕ → ℕ → List ℕ → Parts
parts_by a e l = record {
  key = between 1 17 l;
  nonce = between 17 33 l;
  ad = between head_size a l;
  text = between a e l;
  tag = between e (length l) l;
}

-- and where the head says that it goes
abbrev pub parts_in : List ℕ → Parts
parts_in l = parts_by (text_start l) (text_end l) l

-- ---- the order of refusals, on the input's length, the tag size and the AD length: over or under the limits is 11; AD length over its
-- limit is 11; tag size is 1; too few bytes left for AD and tag is 11; ciphertext over its limit is 11

unfoldable pub shape : ℕ → ℕ → ℕ → ℕ
shape n tag ad =
    unless 11 (leb n input_limit)
    (unless 11 (leb head_size n)
    (unless 11 (leb ad ad_limit)
    (unless 1 (tag_size tag)
    (unless 11 (leb (head_size + ad + tag) n)
    (unless 11 (leb n (head_size + ad + tag + text_limit)) 0)))))

-- ---- what opening leaves

-- the answer, where the plaintext stands (0 and 0 beside a refusal), and every byte of the input
pub record RecordLeft : Type 0 where
  pub answer : ℕ
  pub start : ℕ
  pub count : ℕ
  pub input : List ℕ

-- these parts opened in place: no byte but the ciphertext's changes
unfoldable pub open_parts : List ℕ → ℕ → ℕ → Left
open_parts l a e =
    let p = parts_by a e l in
    let r = open_in_place_of aegis128l p.key p.nonce p.ad p.text p.tag in
    record { answer = r.answer; out = take a l ++ (r.out ++ drop e l) }

abbrev pub refused_record : List ℕ → ℕ → RecordLeft
refused_record l a = record { answer = a; start = 0; count = 0; input = l }

-- 0: the plaintext stands where the ciphertext stood; 7: 0xaa stands there
abbrev pub opened_record : ℕ → ℕ → Left → RecordLeft
opened_record a e r = on_done r.answer (refused_record r.out) (record { answer = 0; start = a; count = e - a; input = r.out })

-- 1 and 11: nothing is opened
unfoldable pub open_record_of : List ℕ → RecordLeft
open_record_of l =
    on_done (shape (length l) (tag_size_in l) (ad_length_in l))
    (refused_record l)
    (opened_record (text_start l) (text_end l) (open_parts l (text_start l) (text_end l)))
