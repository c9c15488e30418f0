-- What each call on a session answers and leaves, for any cipher, as document 01's sections "Answers", "Sessions" and "Erasing" say.
-- Assumes nothing.
use Rattle.std.specs.Prelude.{ℕ, ◌+◌, Bool, true, false, List, ◌++◌, eqb, length, take, drop}
use Rattle.machine.specs.Bytes.{zeros}
use Rattle.machine.specs.Machine.{Core, enc, dec, after, out}
use Rattle.machine.specs.Kinds.{silent}
use Rattle.answers.specs.Answers as answers
use Rattle.lent.specs.Lent.{same}
use Rattle.promises.specs.Cipher.{Cipher, Mac}
use Rattle.promises.specs.Texts.{onto, keyed}
use Rattle.promises.specs.OneShot.{on_done}
use Rattle.promises.specs.Session.{sealing, opening, macing, Session, if_opening, live, core, ended, abort_live, session_tag, session_mac}

-- what a call leaves: its answer, the session, and the buffer that it was lent to write
pub record Handed (S : Type 0) : Type 0 where
  pub answer : ℕ
  pub session : Session S

pub record Wrote (S : Type 0) : Type 0 where
  pub answer : ℕ
  pub session : Session S
  pub out : List ℕ

-- and the finish of an opening, which hands back a count too
pub record Opened (S : Type 0) : Type 0 where
  pub answer : ℕ
  pub count : ℕ
  pub session : Session S
  pub out : List ℕ

module _ {S : Type 0} where
  -- the session after n bytes more, which brought its machine to c
  unfoldable pub advanced : Session S → Core S → ℕ → Session S
  advanced s c n = record {
    state = c.state;
    buf = c.buf;
    fill = c.fill;
    ad_length = s.ad_length;
    msg_length = s.msg_length + n;
    tag_size = s.tag_size;
    mark = s.mark;
    room = s.room;
    written = s.written;
  }

  -- and n bytes more written, for opening
  unfoldable pub wrote_more : Session S → ℕ → Session S
  wrote_more s n = record {
    state = s.state;
    buf = s.buf;
    fill = s.fill;
    ad_length = s.ad_length;
    msg_length = s.msg_length;
    tag_size = s.tag_size;
    mark = s.mark;
    room = s.room;
    written = s.written + n;
  }

module _ {S : Type 0} (C : Cipher S) where
  open C use {size, machine, init}
  open machine use {rate}

  -- ---- starts

  unfoldable pub started : S → ℕ → ℕ → ℕ → ℕ → Session S
  started s ad n kind held = record {
    state = s;
    buf = zeros rate;
    fill = 0;
    ad_length = ad;
    msg_length = 0;
    tag_size = n;
    mark = kind;
    room = held;
    written = 0;
  }

  unfoldable pub seal_start : List ℕ → List ℕ → List ℕ → ℕ → Handed S
  seal_start key nonce ad n =
      on_done (answers.start size n (length key) (length nonce) (length ad))
      (λ a. record { answer = a; session = ended C })
      (record { answer = 0; session = started (keyed C key nonce ad) (length ad) n sealing 0 })

  -- `held` is the length of the plaintext buffer, which is lent at each call
  unfoldable pub open_start : List ℕ → List ℕ → List ℕ → ℕ → ℕ → Handed S
  open_start key nonce ad n held =
      on_done (answers.start size n (length key) (length nonce) (length ad))
      (λ a. record { answer = a; session = ended C })
      (record { answer = 0; session = started (keyed C key nonce ad) (length ad) n opening held })

  unfoldable pub mac_start : List ℕ → List ℕ → ℕ → Handed S
  mac_start key nonce n =
      on_done (answers.mac_start size n (length key) (length nonce))
      (λ a. record { answer = a; session = ended C })
      (record { answer = 0; session = started (init key nonce) 0 n macing 0 })

  -- ---- pieces

  -- a sealing piece writes its whole output buffer
  unfoldable pub seal_piece : Session S → List ℕ → List ℕ → Wrote S
  seal_piece s msg buf =
      on_done (answers.seal_piece (live rate sealing s) (length msg) (length buf) s.msg_length)
      (λ a. record { answer = a; session = s; out = buf })
      (record {
        answer = 0;
        session = advanced s (after machine enc (core s) msg) (length msg);
        out = out machine enc (core s) msg;
      })

  unfoldable pub seal_piece_in_place : Session S → List ℕ → Wrote S
  seal_piece_in_place s buf =
      on_done (answers.piece (live rate sealing s) (length buf) s.msg_length)
      (λ a. record { answer = a; session = s; out = buf })
      (record {
        answer = 0;
        session = advanced s (after machine enc (core s) buf) (length buf);
        out = out machine enc (core s) buf;
      })

  -- an opening piece of n bytes writes the n bytes that start at the count already written, and no other
  unfoldable pub open_piece : Session S → List ℕ → List ℕ → Wrote S
  open_piece s ct plain =
      on_done (answers.open_piece (live rate opening s) (length plain) s.room s.written (length ct) s.msg_length)
      (λ a. record { answer = a; session = s; out = plain })
      (record {
        answer = 0;
        session = wrote_more (advanced s (after machine dec (core s) ct) (length ct)) (length ct);
        out = take s.written plain ++ onto (out machine dec (core s) ct) (drop s.written plain);
      })

  unfoldable pub mac_piece : Session S → List ℕ → Handed S
  mac_piece s data' =
      on_done (answers.piece (live rate macing s) (length data') s.msg_length)
      (λ a. record { answer = a; session = s })
      (record { answer = 0; session = advanced s (after (silent machine) enc (core s) data') (length data') })

  -- ---- finishes: the session is over with 0 and with 7

  unfoldable pub seal_finish : Session S → List ℕ → Wrote S
  seal_finish s tag_buf =
      on_done (answers.finish (live rate sealing s) (length tag_buf) s.tag_size)
      (λ a. record { answer = a; session = s; out = tag_buf })
      (record { answer = 0; session = ended C; out = session_tag C s })

  -- the verdict of an opening: 0 releases the written prefix, and 7 erases it
  unfoldable pub released : Bool → Session S → List ℕ → Opened S
  released true s plain = record { answer = 0; count = s.written; session = ended C; out = plain }
  released false s plain = record { answer = 7; count = 0; session = ended C; out = onto (zeros s.written) plain }

  unfoldable pub open_finish : Session S → List ℕ → List ℕ → Opened S
  open_finish s tag_in plain =
      on_done (answers.open_finish (live rate opening s) (length plain) s.room (length tag_in) s.tag_size)
      (λ a. record { answer = a; count = 0; session = s; out = plain })
      (released (same tag_in (session_tag C s)) s plain)

  -- ---- abort: an opener erases its written prefix

  unfoldable pub abort : Session S → List ℕ → Wrote S
  abort s plain =
      on_done (answers.abort (abort_live C s) (if_opening s (eqb (length plain) s.room) true))
      (λ a. record { answer = a; session = s; out = plain })
      (record { answer = 0; session = ended C; out = if_opening s (onto (zeros s.written) plain) plain })

-- ---- the finishes of a MAC session

module _ {S : Type 0} (C : Cipher S) (M : Mac S) where
  open C use {machine}
  open machine use {rate}

  unfoldable pub mac_finish : Session S → List ℕ → Wrote S
  mac_finish s tag_buf =
      on_done (answers.finish (live rate macing s) (length tag_buf) s.tag_size)
      (λ a. record { answer = a; session = s; out = tag_buf })
      (record { answer = 0; session = ended C; out = session_mac C M s })

  -- the verdict of a MAC check
  unfoldable pub mac_finish_check : Session S → List ℕ → Handed S
  mac_finish_check s tag_in =
      on_done (answers.finish (live rate macing s) (length tag_in) s.tag_size)
      (λ a. record { answer = a; session = s })
      (record { answer = answers.unless 7 (same tag_in (session_mac C M s)) 0; session = ended C })
