-- What the hub program writes (document 01, "Nonce rule and hub program"), and where a buffer holds it: the reply is made in the buffer
-- that holds the input, so that the plaintext stays where it was opened.
-- Assumes nothing.
use Rattle.std.specs.Prelude.{ℕ, ◌+◌, ◌-◌, cond, List, [], ◌∷◌, ◌++◌, leb, length, take, drop}
use Rattle.promises.specs.OneShot.{on_done}
use Rattle.hub_record.specs.Record.{between, RecordLeft, open_record_of}
use Rattle.hub_record.specs.Decimal.{decimal}

-- "opened " and "refused "
abbrev pub opened_word : List ℕ
opened_word = 0x6f ∷ 0x70 ∷ 0x65 ∷ 0x6e ∷ 0x65 ∷ 0x64 ∷ 0x20 ∷ []

abbrev pub refused_word : List ℕ
refused_word = 0x72 ∷ 0x65 ∷ 0x66 ∷ 0x75 ∷ 0x73 ∷ 0x65 ∷ 0x64 ∷ 0x20 ∷ []

-- a word, a number and a line feed
unfoldable pub line : List ℕ → ℕ → List ℕ
line word n = word ++ (decimal n ++ (0x0a ∷ []))

-- "opened ", the length, a line feed and the plaintext, which has n bytes of a list from place a on
abbrev pub opened_text : ℕ → ℕ → List ℕ → List ℕ
opened_text a n l = line opened_word n ++ between a (a + n) l

-- or "refused ", the number and a line feed
unfoldable pub text_of : RecordLeft → List ℕ
text_of r = on_done r.answer (line refused_word) (opened_text r.start r.count r.input)

-- where the reply stands, and every byte of the buffer
pub record Replied : Type 0 where
  pub start : ℕ
  pub count : ℕ
  pub buf : List ℕ

-- a text written over a buffer so that it ends at place e, or else starts the buffer; where there is no room for it, nothing is written
unfoldable pub placed : List ℕ → ℕ → List ℕ → Replied
placed t e buf =
    cond (leb (length t) (length buf))
    (record {
      start = e - length t;
      count = length t;
      buf = take (e - length t) buf ++ (t ++ drop (e - length t + length t) buf);
    })
    (record { start = 0; count = 0; buf = buf })

-- the reply to the first n bytes of a buffer ends where their plaintext ends
unfoldable pub reply_of : List ℕ → ℕ → Replied
reply_of buf n =
    let r = open_record_of (take n buf) in
    placed (text_of r) (r.start + r.count) (r.input ++ drop n buf)
