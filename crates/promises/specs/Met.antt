-- The contract of each exported call, stated once, for any cipher: what it was lent, and what it answered and left (with a prime). The
-- functions' `ensures` cite these, and so do the theorems on calls and on traces.
-- Assumes nothing.
use Rattle.std.specs.Prelude.{ℕ, ◌≡◌, List}
use Rattle.promises.specs.Cipher.{Cipher, Mac}
use Rattle.promises.specs.OneShot.{SealLeft, Left, seal_of, seal_in_place_of, open_of, open_in_place_of, stream_of, stream_xor_of, mac_of, mac_check_of}
use Rattle.promises.specs.SessionCalls.{Handed, Wrote, Opened}
use Rattle.promises.specs.Session.{Session}
use Rattle.promises.specs.SessionCalls as session

module _ {S : Type 0} (C : Cipher S) where
  -- ---- the one-shots

  abbrev pub SealMet : (key nonce ad msg out tag : List ℕ) (answer : ℕ) (out' tag' : List ℕ) → Type 0
  SealMet key nonce ad msg out tag answer out' tag' =
      ◌≡◌ {A = SealLeft} (record { answer = answer; out = out'; tag = tag' }) (seal_of C key nonce ad msg out tag)

  abbrev pub SealInPlaceMet : (key nonce ad buf tag : List ℕ) (answer : ℕ) (buf' tag' : List ℕ) → Type 0
  SealInPlaceMet key nonce ad buf tag answer buf' tag' =
      ◌≡◌ {A = SealLeft} (record { answer = answer; out = buf'; tag = tag' }) (seal_in_place_of C key nonce ad buf tag)

  abbrev pub OpenMet : (key nonce ad ct tag out : List ℕ) (answer : ℕ) (out' : List ℕ) → Type 0
  OpenMet key nonce ad ct tag out answer out' =
      ◌≡◌ {A = Left} (record { answer = answer; out = out' }) (open_of C key nonce ad ct tag out)

  abbrev pub OpenInPlaceMet : (key nonce ad buf tag : List ℕ) (answer : ℕ) (buf' : List ℕ) → Type 0
  OpenInPlaceMet key nonce ad buf tag answer buf' =
      ◌≡◌ {A = Left} (record { answer = answer; out = buf' }) (open_in_place_of C key nonce ad buf tag)

  abbrev pub StreamMet : (key nonce out : List ℕ) (answer : ℕ) (out' : List ℕ) → Type 0
  StreamMet key nonce out answer out' = ◌≡◌ {A = Left} (record { answer = answer; out = out' }) (stream_of C key nonce out)

  abbrev pub StreamXorMet : (key nonce buf : List ℕ) (answer : ℕ) (buf' : List ℕ) → Type 0
  StreamXorMet key nonce buf answer buf' = ◌≡◌ {A = Left} (record { answer = answer; out = buf' }) (stream_xor_of C key nonce buf)

  -- ---- the starts

  abbrev pub SealStartMet : (key nonce ad : List ℕ) (size : ℕ) (answer : ℕ) → Session S → Type 0
  SealStartMet key nonce ad size answer s' =
      ◌≡◌ {A = Handed S} (record { answer = answer; session = s' }) (session.seal_start C key nonce ad size)

  abbrev pub OpenStartMet : (key nonce ad : List ℕ) (size room : ℕ) (answer : ℕ) → Session S → Type 0
  OpenStartMet key nonce ad size room answer s' =
      ◌≡◌ {A = Handed S} (record { answer = answer; session = s' }) (session.open_start C key nonce ad size room)

  abbrev pub MacStartMet : (key nonce : List ℕ) (size : ℕ) (answer : ℕ) → Session S → Type 0
  MacStartMet key nonce size answer s' =
      ◌≡◌ {A = Handed S} (record { answer = answer; session = s' }) (session.mac_start C key nonce size)

  -- ---- the calls on a session: s is the session that is lent, s' the one that is left

  abbrev pub SealPieceMet : Session S → (msg out : List ℕ) (answer : ℕ) → Session S → (out' : List ℕ) → Type 0
  SealPieceMet s msg out answer s' out' =
      ◌≡◌ {A = Wrote S} (record { answer = answer; session = s'; out = out' }) (session.seal_piece C s msg out)

  abbrev pub SealPieceInPlaceMet : Session S → (buf : List ℕ) (answer : ℕ) → Session S → (buf' : List ℕ) → Type 0
  SealPieceInPlaceMet s buf answer s' buf' =
      ◌≡◌ {A = Wrote S} (record { answer = answer; session = s'; out = buf' }) (session.seal_piece_in_place C s buf)

  abbrev pub OpenPieceMet : Session S → (ct plain : List ℕ) (answer : ℕ) → Session S → (plain' : List ℕ) → Type 0
  OpenPieceMet s ct plain answer s' plain' =
      ◌≡◌ {A = Wrote S} (record { answer = answer; session = s'; out = plain' }) (session.open_piece C s ct plain)

  abbrev pub MacPieceMet : Session S → (data' : List ℕ) (answer : ℕ) → Session S → Type 0
  MacPieceMet s data' answer s' = ◌≡◌ {A = Handed S} (record { answer = answer; session = s' }) (session.mac_piece C s data')

  abbrev pub SealFinishMet : Session S → (tag : List ℕ) (answer : ℕ) → Session S → (tag' : List ℕ) → Type 0
  SealFinishMet s tag answer s' tag' =
      ◌≡◌ {A = Wrote S} (record { answer = answer; session = s'; out = tag' }) (session.seal_finish C s tag)

  abbrev pub OpenFinishMet : Session S → (tag plain : List ℕ) (answer count : ℕ) → Session S → (plain' : List ℕ) → Type 0
  OpenFinishMet s tag plain answer count s' plain' =
      ◌≡◌ {A = Opened S} (record { answer = answer; count = count; session = s'; out = plain' }) (session.open_finish C s tag plain)

  abbrev pub AbortMet : Session S → (plain : List ℕ) (answer : ℕ) → Session S → (plain' : List ℕ) → Type 0
  AbortMet s plain answer s' plain' =
      ◌≡◌ {A = Wrote S} (record { answer = answer; session = s'; out = plain' }) (session.abort C s plain)

-- ---- the MAC: its one-shots, and the finishes of its sessions

module _ {S : Type 0} (C : Cipher S) (M : Mac S) where
  abbrev pub MacMet : (key nonce data' tag : List ℕ) (answer : ℕ) (tag' : List ℕ) → Type 0
  MacMet key nonce data' tag answer tag' = ◌≡◌ {A = Left} (record { answer = answer; out = tag' }) (mac_of C M key nonce data' tag)

  abbrev pub MacCheckMet : (key nonce data' tag : List ℕ) (answer : ℕ) → Type 0
  MacCheckMet key nonce data' tag answer = answer ≡ mac_check_of C M key nonce data' tag

  abbrev pub MacFinishMet : Session S → (tag : List ℕ) (answer : ℕ) → Session S → (tag' : List ℕ) → Type 0
  MacFinishMet s tag answer s' tag' =
      ◌≡◌ {A = Wrote S} (record { answer = answer; session = s'; out = tag' }) (session.mac_finish C M s tag)

  abbrev pub MacFinishCheckMet : Session S → (tag : List ℕ) (answer : ℕ) → Session S → Type 0
  MacFinishCheckMet s tag answer s' =
      ◌≡◌ {A = Handed S} (record { answer = answer; session = s' }) (session.mac_finish_check C M s tag)
