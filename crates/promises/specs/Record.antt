-- What the record of a session that goes on holds, as document 01's section "Sessions" has it: its counts, and in its buffer below the fill the
-- message, above it the keystream that is not used yet, at fill 0 zeros.
-- Assumes nothing.
use Rattle.std.specs.Prelude.{ℕ, ◌%◌, ◌≡◌, List, length}
use Rattle.machine.specs.Machine.{Machine, Held}
use Rattle.promises.specs.Session.{core, Session}

-- `K` is the machine at work in it, and `msg` the message so far
pub record RecordHolds {S : Type 0} (K : Machine S) (kind ad n held written : ℕ) (msg : List ℕ) (s : Session S) : Type 0 where
  pub mark_is : s.mark ≡ kind
  pub ad_length_is : s.ad_length ≡ ad
  pub msg_length_is : s.msg_length ≡ length msg
  pub tag_size_is : s.tag_size ≡ n
  pub room_is : s.room ≡ held
  pub written_is : s.written ≡ written
  pub fill_is : s.fill ≡ length msg % K.rate
  pub buffer : Held K msg (core s)
