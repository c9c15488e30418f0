-- What is taken out of the recorded list: a list begins with a mark, or with a record, whose parts stand where the format says.
-- Assumes nothing.
use Rattle.std.specs.Prelude.{ℕ, ◌≤◌, ◌<◌, ◌≡◌, List, length}
use Rattle.recorded.specs.declared.list.Kind.{Kind}
use Rattle.recorded.specs.declared.list.Kind.TheVariants.{Seal, Refused, Mac, Stream}
use Rattle.recorded.specs.declared.list.Mark.{Mark}
use Rattle.recorded.specs.declared.list.Mark.TheVariants.{End, Separator}
use Rattle.recorded.specs.declared.list.Record.{Record}
use Rattle.recorded.specs.declared.list.Entry.{Entry}
use Rattle.recorded.specs.declared.list.Entry.TheVariants as entry
use Rattle.recorded.specs.List.{kind_of, end_place, key_in, nonce_in, ad_in, msg_in, ct_in, tag_in}

-- how a list says that a record is of a kind
abbrev pub code : Kind → ℕ
code Seal = 1
code Refused = 2
code Mac = 3
code Stream = 4

abbrev pub mark_code : Mark → ℕ
mark_code End = 0
mark_code Separator = 5

-- what was taken apart is the record that a list starts with, and stands whole in it, up to `end`
pub record Taken (l : List ℕ) (kind : Kind) (r : Record) (end : ℕ) : Type 0 where
  pub kind_is : kind_of l ≡ code kind
  pub key_is : r.key.now ≡ key_in l
  pub nonce_is : r.nonce.now ≡ nonce_in l
  pub ad_is : r.ad.now ≡ ad_in l
  pub msg_is : r.msg.now ≡ msg_in l
  pub ct_is : r.ct.now ≡ ct_in l
  pub tag_is : r.tag.now ≡ tag_in l
  pub end_is : end ≡ end_place l
  pub inside : end ≤ length l

-- a mark is what a list starts with
pub record Marked (l : List ℕ) (m : Mark) : Type 0 where
  pub some : 0 < length l
  pub mark_is : kind_of l ≡ mark_code m

-- what a list begins with
abbrev pub Begins : List ℕ → Entry → Type 0
Begins l (entry.Mark m) = Marked l m
Begins l (entry.Record kind s end) = Taken l kind s.parts end
