-- Any exported call: what it is lent, what it leaves, its contract (Met.antt), and its order of refusals, which is document 01's ("Answers").
-- What is said of every call is said once, over these.
-- Assumes nothing.
use Rattle.std.specs.Prelude.{ℕ, true, List, [], ◌∷◌, ◌++◌, eqb, length}
use Rattle.answers.specs.Answers.{Rung, one_shot_rungs, stream_rungs, mac_rungs, start_rungs, mac_start_rungs}
use Rattle.answers.specs.Answers.{seal_piece_rungs, piece_rungs, open_piece_rungs, finish_rungs, open_finish_rungs, abort_rungs}
use Rattle.lent.specs.Lent.{same}
use Rattle.promises.specs.Cipher.{Cipher, Mac}
use Rattle.promises.specs.Texts.{open_tag, mac_tag}
use Rattle.promises.specs.Session.{Session, ended, sealing, opening, macing, if_opening, live, abort_live, session_tag, session_mac}
use Rattle.promises.specs.Met.{SealMet, SealInPlaceMet, OpenMet, OpenInPlaceMet, StreamMet, StreamXorMet, MacMet, MacCheckMet}
use Rattle.promises.specs.Met.{SealStartMet, OpenStartMet, MacStartMet}
use Rattle.promises.specs.Met.{SealPieceMet, SealPieceInPlaceMet, OpenPieceMet, MacPieceMet}
use Rattle.promises.specs.Met.{SealFinishMet, OpenFinishMet, MacFinishMet, MacFinishCheckMet, AbortMet}
use Rattle.promises.specs.Trace.{Calls, none, ◌▸◌, asked, Ask, ask_seal_piece, ask_seal_piece_in_place, ask_open_piece, ask_mac_piece}
use Rattle.promises.specs.Trace.{ask_seal_finish, ask_open_finish, ask_mac_finish, ask_mac_finish_check, ask_abort}

-- what a call is lent: the eight one-shots, the three starts, and the nine calls on a session
pub data AnyCall (S : Type 0) : Type 0 where
  ask_seal : (key nonce ad msg out tag : List ℕ) → AnyCall S
  ask_seal_in_place : (key nonce ad buf tag : List ℕ) → AnyCall S
  ask_open : (key nonce ad ct tag out : List ℕ) → AnyCall S
  ask_open_in_place : (key nonce ad buf tag : List ℕ) → AnyCall S
  ask_stream : (key nonce out : List ℕ) → AnyCall S
  ask_stream_xor : (key nonce buf : List ℕ) → AnyCall S
  ask_mac : (key nonce data' tag : List ℕ) → AnyCall S
  ask_mac_check : (key nonce data' tag : List ℕ) → AnyCall S
  ask_seal_start : (key nonce ad : List ℕ) (size : ℕ) → AnyCall S
  ask_open_start : (key nonce ad : List ℕ) (size room : ℕ) → AnyCall S
  ask_mac_start : (key nonce : List ℕ) (size : ℕ) → AnyCall S
  on : Session S → Ask → AnyCall S

-- what it leaves beside its answer: a count, the session, the buffers that it is lent to write
abbrev pub Leaves : {S : Type 0} → AnyCall S → Type 0
Leaves (ask_seal key nonce ad msg out tag) = List ℕ × List ℕ
Leaves (ask_seal_in_place key nonce ad buf tag) = List ℕ × List ℕ
Leaves (ask_open key nonce ad ct tag out) = List ℕ
Leaves (ask_open_in_place key nonce ad buf tag) = List ℕ
Leaves (ask_stream key nonce out) = List ℕ
Leaves (ask_stream_xor key nonce buf) = List ℕ
Leaves (ask_mac key nonce data' tag) = List ℕ
Leaves (ask_mac_check key nonce data' tag) = Unit {0}
Leaves {S} (ask_seal_start key nonce ad size) = Session S
Leaves {S} (ask_open_start key nonce ad size room) = Session S
Leaves {S} (ask_mac_start key nonce size) = Session S
Leaves {S} (on s (ask_seal_piece msg out)) = Session S × List ℕ
Leaves {S} (on s (ask_seal_piece_in_place buf)) = Session S × List ℕ
Leaves {S} (on s (ask_open_piece ct plain)) = Session S × List ℕ
Leaves {S} (on s (ask_mac_piece data')) = Session S
Leaves {S} (on s (ask_seal_finish tag)) = Session S × List ℕ
Leaves {S} (on s (ask_open_finish tag plain)) = ℕ × Session S × List ℕ
Leaves {S} (on s (ask_mac_finish tag)) = Session S × List ℕ
Leaves {S} (on s (ask_mac_finish_check tag)) = Session S
Leaves {S} (on s (ask_abort plain)) = Session S × List ℕ

-- what the calls of a trace were lent, in their order
abbrev pub asks : Calls → List Ask
asks none = []
asks (cs ▸ c) = asks cs ++ asked c ∷ []

module _ {S : Type 0} (C : Cipher S) (M : Mac S) where
  open C use {size, machine}
  open machine use {rate}

  -- the contract: of a call that answered a
  abbrev pub CallMet : (c : AnyCall S) → ℕ → Leaves c → Type 0
  CallMet (ask_seal key nonce ad msg out tag) a (out', tag') = SealMet C key nonce ad msg out tag a out' tag'
  CallMet (ask_seal_in_place key nonce ad buf tag) a (buf', tag') = SealInPlaceMet C key nonce ad buf tag a buf' tag'
  CallMet (ask_open key nonce ad ct tag out) a out' = OpenMet C key nonce ad ct tag out a out'
  CallMet (ask_open_in_place key nonce ad buf tag) a buf' = OpenInPlaceMet C key nonce ad buf tag a buf'
  CallMet (ask_stream key nonce out) a out' = StreamMet C key nonce out a out'
  CallMet (ask_stream_xor key nonce buf) a buf' = StreamXorMet C key nonce buf a buf'
  CallMet (ask_mac key nonce data' tag) a tag' = MacMet C M key nonce data' tag a tag'
  CallMet (ask_mac_check key nonce data' tag) a l = MacCheckMet C M key nonce data' tag a
  CallMet (ask_seal_start key nonce ad size) a s' = SealStartMet C key nonce ad size a s'
  CallMet (ask_open_start key nonce ad size room) a s' = OpenStartMet C key nonce ad size room a s'
  CallMet (ask_mac_start key nonce size) a s' = MacStartMet C key nonce size a s'
  CallMet (on s (ask_seal_piece msg out)) a (s', out') = SealPieceMet C s msg out a s' out'
  CallMet (on s (ask_seal_piece_in_place buf)) a (s', buf') = SealPieceInPlaceMet C s buf a s' buf'
  CallMet (on s (ask_open_piece ct plain)) a (s', plain') = OpenPieceMet C s ct plain a s' plain'
  CallMet (on s (ask_mac_piece data')) a s' = MacPieceMet C s data' a s'
  CallMet (on s (ask_seal_finish tag)) a (s', tag') = SealFinishMet C s tag a s' tag'
  CallMet (on s (ask_open_finish tag plain)) a (n, s', plain') = OpenFinishMet C s tag plain a n s' plain'
  CallMet (on s (ask_mac_finish tag)) a (s', tag') = MacFinishMet C M s tag a s' tag'
  CallMet (on s (ask_mac_finish_check tag)) a s' = MacFinishCheckMet C M s tag a s'
  CallMet (on s (ask_abort plain)) a (s', plain') = AbortMet C s plain a s' plain'

  -- its order of refusals, each with the test that must pass. Where a call checks a tag, 7 comes last: the tag is the one that is due
  abbrev pub rungs_of : AnyCall S → List Rung
  -- seal and open: 1, 2, 3, 4, 5, 6, then 7; in place, the room is the buffer itself
  rungs_of (ask_seal key nonce ad msg out tag) = one_shot_rungs size (length tag) (length key) (length nonce) (length ad) (length msg) (length out)
  rungs_of (ask_seal_in_place key nonce ad buf tag) = one_shot_rungs size (length tag) (length key) (length nonce) (length ad) (length buf) (length buf)
  rungs_of (ask_open key nonce ad ct tag out) =
      one_shot_rungs size (length tag) (length key) (length nonce) (length ad) (length ct) (length out)
      ++ (7, same tag (open_tag C key nonce ad ct (length tag))) ∷ []
  rungs_of (ask_open_in_place key nonce ad buf tag) =
      one_shot_rungs size (length tag) (length key) (length nonce) (length ad) (length buf) (length buf)
      ++ (7, same tag (open_tag C key nonce ad buf (length tag))) ∷ []
  -- stream: 2, 3
  rungs_of (ask_stream key nonce out) = stream_rungs size (length key) (length nonce)
  rungs_of (ask_stream_xor key nonce buf) = stream_rungs size (length key) (length nonce)
  -- MAC: 1, 2, 3, 5, 7
  rungs_of (ask_mac key nonce data' tag) = mac_rungs size (length tag) (length key) (length nonce) (length data')
  rungs_of (ask_mac_check key nonce data' tag) =
      mac_rungs size (length tag) (length key) (length nonce) (length data') ++ (7, same tag (mac_tag C M key nonce data' (length tag))) ∷ []
  -- session start: 1, 2, 3, 4; MAC start: 1, 2, 3
  rungs_of (ask_seal_start key nonce ad n) = start_rungs size n (length key) (length nonce) (length ad)
  rungs_of (ask_open_start key nonce ad n room) = start_rungs size n (length key) (length nonce) (length ad)
  rungs_of (ask_mac_start key nonce n) = mac_start_rungs size n (length key) (length nonce)
  -- sealing piece: 8, 9, 5; in place: 8, 5; opening piece: 8, 10, 6, 5; MAC piece: 8, 5
  rungs_of (on s (ask_seal_piece msg out)) = seal_piece_rungs (live rate sealing s) (length msg) (length out) s.msg_length
  rungs_of (on s (ask_seal_piece_in_place buf)) = piece_rungs (live rate sealing s) (length buf) s.msg_length
  rungs_of (on s (ask_open_piece ct plain)) =
      open_piece_rungs (live rate opening s) (length plain) s.room s.written (length ct) s.msg_length
  rungs_of (on s (ask_mac_piece data')) = piece_rungs (live rate macing s) (length data') s.msg_length
  -- sealing or MAC finish: 8, 1; opening finish: 8, 10, 1, 7; MAC check at the end: 8, 1, 7
  rungs_of (on s (ask_seal_finish tag)) = finish_rungs (live rate sealing s) (length tag) s.tag_size
  rungs_of (on s (ask_open_finish tag plain)) =
      open_finish_rungs (live rate opening s) (length plain) s.room (length tag) s.tag_size ++ (7, same tag (session_tag C s)) ∷ []
  rungs_of (on s (ask_mac_finish tag)) = finish_rungs (live rate macing s) (length tag) s.tag_size
  rungs_of (on s (ask_mac_finish_check tag)) = finish_rungs (live rate macing s) (length tag) s.tag_size ++ (7, same tag (session_mac C M s)) ∷ []
  -- abort: 8, then 10 for an opener
  rungs_of (on s (ask_abort plain)) = abort_rungs (abort_live C s) (if_opening s (eqb (length plain) s.room) true)

  -- what every refusal but 7 leaves: all as it was lent. A refused start hands back a session that is over, and a refused finish the count 0
  abbrev pub untouched : (c : AnyCall S) → Leaves c
  untouched (ask_seal key nonce ad msg out tag) = (out, tag)
  untouched (ask_seal_in_place key nonce ad buf tag) = (buf, tag)
  untouched (ask_open key nonce ad ct tag out) = out
  untouched (ask_open_in_place key nonce ad buf tag) = buf
  untouched (ask_stream key nonce out) = out
  untouched (ask_stream_xor key nonce buf) = buf
  untouched (ask_mac key nonce data' tag) = tag
  untouched (ask_mac_check key nonce data' tag) = tt
  untouched (ask_seal_start key nonce ad n) = ended C
  untouched (ask_open_start key nonce ad n room) = ended C
  untouched (ask_mac_start key nonce n) = ended C
  untouched (on s (ask_seal_piece msg out)) = (s, out)
  untouched (on s (ask_seal_piece_in_place buf)) = (s, buf)
  untouched (on s (ask_open_piece ct plain)) = (s, plain)
  untouched (on s (ask_mac_piece data')) = s
  untouched (on s (ask_seal_finish tag)) = (s, tag)
  untouched (on s (ask_open_finish tag plain)) = (0, s, plain)
  untouched (on s (ask_mac_finish tag)) = (s, tag)
  untouched (on s (ask_mac_finish_check tag)) = s
  untouched (on s (ask_abort plain)) = (s, plain)
