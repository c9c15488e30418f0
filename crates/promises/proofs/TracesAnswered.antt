-- Any call on any session, whatever it holds, is answered. So there is a trace of any calls in any order (ExactlyMade.antt).
-- Assumes nothing.
use mathlib.Core.Path.{◌≡◌, refl}
use Rattle.promises.specs.Cipher.{Cipher, Mac}
use Rattle.promises.specs.Session.{Session}
use Rattle.promises.specs.SessionCalls as session
use Rattle.promises.specs.Trace

module _ {S : Type 0} (C : Cipher S) (M : Mac S) where
  pub answered : (s : Session S) (q : Trace.Ask) → (c : Trace.Made) × (s' : Session S) × (Trace.asked c ≡ q) × Trace.Met C M s c s'
  answered s (Trace.ask_seal_piece msg out) = let r = session.seal_piece C s msg out in (Trace.seal_piece msg out r.answer r.out, r.session, refl, refl)
  answered s (Trace.ask_seal_piece_in_place buf) = let r = session.seal_piece_in_place C s buf in (Trace.seal_piece_in_place buf r.answer r.out, r.session, refl, refl)
  answered s (Trace.ask_open_piece ct plain) = let r = session.open_piece C s ct plain in (Trace.open_piece ct plain r.answer r.out, r.session, refl, refl)
  answered s (Trace.ask_mac_piece data') = let r = session.mac_piece C s data' in (Trace.mac_piece data' r.answer, r.session, refl, refl)
  answered s (Trace.ask_seal_finish tag) = let r = session.seal_finish C s tag in (Trace.seal_finish tag r.answer r.out, r.session, refl, refl)
  answered s (Trace.ask_open_finish tag plain) = let r = session.open_finish C s tag plain in (Trace.open_finish tag plain r.answer r.count r.out, r.session, refl, refl)
  answered s (Trace.ask_mac_finish tag) = let r = session.mac_finish C M s tag in (Trace.mac_finish tag r.answer r.out, r.session, refl, refl)
  answered s (Trace.ask_mac_finish_check tag) = let r = session.mac_finish_check C M s tag in (Trace.mac_finish_check tag r.answer, r.session, refl, refl)
  answered s (Trace.ask_abort plain) = let r = session.abort C s plain in (Trace.abort plain r.answer r.out, r.session, refl, refl)
