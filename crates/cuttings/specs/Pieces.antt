-- What an accepted piece does to a session, and what a session that takes a whole text and ends shows.
-- Assumes nothing.
use Rattle.std.specs.Prelude.{ℕ, ◌≡◌, ◌≤◌, ◌+◌, ◌*◌, ◌/◌, List, length}
use Rattle.std.specs.List.{between}
use Rattle.machine.specs.Machine.{enc, dec, after, out}
use Rattle.machine.specs.Kinds.{silent}
use Rattle.promises.specs.SessionCalls.{advanced, wrote_more}
use Rattle.promises.specs.Session.{Session, core, session_tag, session_mac}
use Rattle.aegis128l.specs.Aegis128L.{Blocks, machine}
use Rattle.aegis128l.specs.Cipher.{aegis128l, mac_of_aegis128l}

-- ---- from the session s to the session t

pub record Sealing (s : Session Blocks) (msg ct : List ℕ) (t : Session Blocks) : Type 0 where
  pub session : t ≡ advanced s (after machine enc (core s) msg) (length msg)
  pub text : ct ≡ out machine enc (core s) msg

pub record Opening (s : Session Blocks) (ct : List ℕ) (t : Session Blocks) : Type 0 where
  pub session : t ≡ wrote_more (advanced s (after machine dec (core s) ct) (length ct)) (length ct)

pub record Macing (s : Session Blocks) (data' : List ℕ) (t : Session Blocks) : Type 0 where
  pub session : t ≡ advanced s (after (silent machine) enc (core s) data') (length data')

-- ---- a text in pieces, each from one place to another

-- no piece shows nothing new, and two pieces that meet show what one piece shows
pub record PieceLaws (Taken : ℕ → ℕ → Session Blocks → Session Blocks → Type 0) : Type 0 where
  pub none : (i : ℕ) (s : Session Blocks) → Taken i i s s
  pub joined : {i j k : ℕ} {s t u : Session Blocks} → i ≤ j → j ≤ k → Taken i j s t → Taken j k t u → Taken i k s u

-- a session takes a text of n bytes, and ends
pub record Shown (Taken : ℕ → ℕ → Session Blocks → Session Blocks → Type 0) (Ended : Session Blocks → Type 0)
    (n : ℕ) (s : Session Blocks) : Type 0 where
  pub end : Session Blocks
  pub taken : Taken 0 n s end
  pub ended : Ended end

-- a text of n bytes is cut after every byte, and at each two places i and j with i ≤ j ≤ n
abbrev pub cutting_count : ℕ → ℕ
cutting_count n = 1 + (n + 1) * (n + 2) / 2

-- ---- the part of a text from place i up to place j

abbrev pub SealingPart : (msg ct : List ℕ) (i j : ℕ) (s t : Session Blocks) → Type 0
SealingPart msg ct i j s t = Sealing s (between i j msg) (between i j ct) t

abbrev pub OpeningPart : (ct : List ℕ) (i j : ℕ) (s t : Session Blocks) → Type 0
OpeningPart ct i j s t = Opening s (between i j ct) t

abbrev pub MacingPart : (data' : List ℕ) (i j : ℕ) (s t : Session Blocks) → Type 0
MacingPart data' i j s t = Macing s (between i j data') t

-- ---- the tag of a session

abbrev pub Tagged : (tag : List ℕ) (s : Session Blocks) → Type 0
Tagged tag s = tag ≡ session_tag aegis128l s

abbrev pub MacTagged : (tag : List ℕ) (s : Session Blocks) → Type 0
MacTagged tag s = tag ≡ session_mac aegis128l mac_of_aegis128l s
