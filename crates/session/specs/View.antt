-- The structs of the code as the promises have them.
-- Assumes nothing.
use Rattle.std.specs.Prelude.{ℕ, List, Result, Ok, Err}
use Rattle.machine.specs.Machine.{Core, after, out}
use Rattle.answers.specs.declared.Refusal.{Refusal}
use Rattle.answers.specs.Refusals.{answer_of}
use Rattle.promises.specs.OneShot.{on_done}
use Rattle.promises.specs.SessionCalls as calls
use Rattle.promises.specs.Session as promise
use Rattle.aegis128l.specs.Aegis128L.{Blocks, machine}
use Rattle.aegis128l.specs.Cipher.{aegis128l}
use Rattle.aegis128l.specs.declared.mode.Mode.{Mode}
use Rattle.aegis128l.specs.View.{blocks_of, mode_of}
use Rattle.session.specs.declared.Session.{Session}
use Rattle.session.specs.declared.Kind.{Kind}
use Rattle.session.specs.declared.Kind.TheVariants.{Sealing, Opening, Macing}
use Rattle.session.specs.declared.Handed.{Handed}

abbrev pub session_of : Session → promise.Session Blocks
session_of s = record {
  state = blocks_of s.blocks;
  buf = s.buf;
  fill = s.fill;
  ad_length = s.ad_len;
  msg_length = s.msg_len;
  tag_size = s.tag_size;
  mark = s.mark;
  room = s.room;
  written = s.written;
}

-- a session whose counter was brought to a total
abbrev pub with_total : {S : Type 0} → promise.Session S → ℕ → promise.Session S
with_total s total = record {
  state = s.state;
  buf = s.buf;
  fill = s.fill;
  ad_length = s.ad_length;
  msg_length = total;
  tag_size = s.tag_size;
  mark = s.mark;
  room = s.room;
  written = s.written;
}

-- and one whose machine was brought to c
abbrev pub with_core : {S : Type 0} → promise.Session S → Core S → promise.Session S
with_core s c = record {
  state = c.state;
  buf = c.buf;
  fill = c.fill;
  ad_length = s.ad_length;
  msg_length = s.msg_length;
  tag_size = s.tag_size;
  mark = s.mark;
  room = s.room;
  written = s.written;
}

-- a session after bytes that its machine encrypted, or decrypted
abbrev pub fed_with : Mode → promise.Session Blocks → List ℕ → promise.Session Blocks
fed_with m s xs = with_core s (after machine (mode_of m) (promise.core s) xs)

-- and what comes out for them
abbrev pub out_with : Mode → promise.Session Blocks → List ℕ → List ℕ
out_with m s xs = out machine (mode_of m) (promise.core s) xs

-- the marks of the kinds
abbrev pub mark_of : Kind → ℕ
mark_of Sealing = promise.sealing
mark_of Opening = promise.opening
mark_of Macing = promise.macing

-- what is handed back beside no buffer
abbrev pub handed_of : {A : Type 0} → Handed A → calls.Handed Blocks
handed_of r = record { answer = answer_of r.outcome; session = session_of r.session }

-- how many bytes the finish of an opening releases
abbrev pub count_of : Result ℕ Refusal → ℕ
count_of (Ok count) = count
count_of (Err refusal) = 0

-- what a start hands back whose ladder answers a: the session t, or one that is over
abbrev pub started_or_over : ℕ → promise.Session Blocks → calls.Handed Blocks
started_or_over a t =
    on_done a (λ b. record { answer = b; session = promise.ended aegis128l }) (record { answer = 0; session = t })
