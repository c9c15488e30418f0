-- A refusal changes nothing: whatever an exported call answers but 0 and 7, its buffers and its session are as they were lent, a session that
-- was not started is over, and a number handed back is 0.
-- Assumes nothing.
use Prim.Native.Nat.{ℕ}
use mathlib.Core.Path.{◌≡◌, refl, ap, ◌∙◌}
use mathlib.Core.Logic.{⊎_elim, ◌≢◌}
use mathlib.Core.List.{List}
use Rattle.promises.specs.Cipher.{Cipher, Mac}
use Rattle.promises.specs.OneShot.{SealLeft, Left}
use Rattle.promises.specs.SessionCalls.{Handed, Wrote, Opened}
use Rattle.promises.specs.Session.{Session}
use Rattle.promises.specs.Trace.{ask_seal_piece, ask_seal_piece_in_place, ask_open_piece, ask_mac_piece}
use Rattle.promises.specs.Trace.{ask_seal_finish, ask_open_finish, ask_mac_finish, ask_mac_finish_check, ask_abort}
use Rattle.promises.specs.AnyCall.{AnyCall, ask_seal, ask_seal_in_place, ask_open, ask_open_in_place, ask_stream, ask_stream_xor, ask_mac, ask_mac_check}
use Rattle.promises.specs.AnyCall.{ask_seal_start, ask_open_start, ask_mac_start, on, Leaves, CallMet, untouched}
use Rattle.promises.proofs.SealAnswers.{seal_refused}
use Rattle.promises.proofs.OpenAnswers.{open_refused}
use Rattle.promises.proofs.StreamAnswers.{stream_refused, stream_xor_refused}
use Rattle.promises.proofs.MacAnswers.{mac_refused}
use Rattle.promises.proofs.SessionCalls as calls
use Rattle.promises.proofs.ExactlyOne.{promised, the_promised}

module _ {S : Type 0} (C : Cipher S) (M : Mac S) where
  abbrev sealed : SealLeft → List ℕ × List ℕ
  sealed x = (x.out, x.tag)

  abbrev left : Left → List ℕ
  left x = x.out

  abbrev handed : Handed S → Session S
  handed x = x.session

  abbrev wrote : Wrote S → Session S × List ℕ
  wrote x = (x.session, x.out)

  abbrev opened : Opened S → ℕ × Session S × List ℕ
  opened x = (x.count, x.session, x.out)

  promised-untouched : (c : AnyCall S) → (promised C M c).0 ≢ 0 → (promised C M c).0 ≢ 7 → (promised C M c).1 ≡ untouched C M c
  promised-untouched (ask_seal key nonce ad msg out tag) z w = ap sealed (seal_refused C key nonce ad msg out tag z)
  promised-untouched (ask_seal_in_place key nonce ad buf tag) z w = ap sealed (seal_refused C key nonce ad buf buf tag z)
  promised-untouched (ask_open key nonce ad ct tag out) z w = ap left (open_refused C key nonce ad ct tag out z w)
  promised-untouched (ask_open_in_place key nonce ad buf tag) z w = ap left (open_refused C key nonce ad buf tag buf z w)
  promised-untouched (ask_stream key nonce out) z w = ap left (stream_refused C key nonce out z)
  promised-untouched (ask_stream_xor key nonce buf) z w = ap left (stream_xor_refused C key nonce buf z)
  promised-untouched (ask_mac key nonce data' tag) z w = ap left (mac_refused C M key nonce data' tag z)
  promised-untouched (ask_mac_check key nonce data' tag) z w = refl
  promised-untouched (ask_seal_start key nonce ad n) z w = calls.seal_start_refused C key nonce ad n z
  promised-untouched (ask_open_start key nonce ad n room) z w = calls.open_start_refused C key nonce ad n room z
  promised-untouched (ask_mac_start key nonce n) z w = calls.mac_start_refused C key nonce n z
  promised-untouched (on s (ask_seal_piece msg out)) z w = ap wrote (calls.seal_piece_refused C s msg out z)
  promised-untouched (on s (ask_seal_piece_in_place buf)) z w = ap wrote (calls.seal_piece_in_place_refused C s buf z)
  promised-untouched (on s (ask_open_piece ct plain)) z w = ap wrote (calls.open_piece_refused C s ct plain z)
  promised-untouched (on s (ask_mac_piece data')) z w = ap handed (calls.mac_piece_refused C s data' z)
  promised-untouched (on s (ask_seal_finish tag)) z w = ap wrote (calls.seal_finish_refused C s tag z)
  promised-untouched (on s (ask_open_finish tag plain)) z w = ap opened (calls.open_finish_refused C s tag plain (⊎_elim z w))
  promised-untouched (on s (ask_mac_finish tag)) z w = ap wrote (calls.mac_finish_refused C M s tag z)
  promised-untouched (on s (ask_mac_finish_check tag)) z w = ap handed (calls.mac_finish_check_refused C M s tag (⊎_elim z w))
  promised-untouched (on s (ask_abort plain)) z w = ap wrote (calls.abort_refused C s plain z)

  pub refused_untouched : (c : AnyCall S) (a : ℕ) (l : Leaves c) → CallMet C M c a l → a ≢ 0 → a ≢ 7 → l ≡ untouched C M c
  refused_untouched c a l m z w =
      let e = the_promised C M c a l m in
      let answers = ap (λ (o : ℕ × Leaves c). o.0) e in
      ap (λ (o : ℕ × Leaves c). o.1) e ∙ promised-untouched c (λ h. z (answers ∙ h)) (λ h. w (answers ∙ h))
