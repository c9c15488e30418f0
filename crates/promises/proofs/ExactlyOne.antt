-- Any exported call, whatever it is lent, has an outcome that meets its contract, and only one: the promise computes it.
-- Assumes nothing.
use Prim.Native.Nat.{ℕ}
use mathlib.Core.Path.{◌≡◌, refl, sym, ap, ◌∙◌}
use Rattle.promises.specs.Cipher.{Cipher, Mac}
use Rattle.promises.specs.OneShot.{SealLeft, Left, seal_of, seal_in_place_of, open_of, open_in_place_of, stream_of, stream_xor_of, mac_of, mac_check_of}
use Rattle.promises.specs.SessionCalls.{Handed, Wrote, Opened}
use Rattle.promises.specs.SessionCalls as session
use Rattle.promises.specs.Trace.{ask_seal_piece, ask_seal_piece_in_place, ask_open_piece, ask_mac_piece}
use Rattle.promises.specs.Trace.{ask_seal_finish, ask_open_finish, ask_mac_finish, ask_mac_finish_check, ask_abort}
use Rattle.promises.specs.AnyCall.{AnyCall, ask_seal, ask_seal_in_place, ask_open, ask_open_in_place, ask_stream, ask_stream_xor, ask_mac, ask_mac_check}
use Rattle.promises.specs.AnyCall.{ask_seal_start, ask_open_start, ask_mac_start, on, Leaves, CallMet}

module _ {S : Type 0} (C : Cipher S) (M : Mac S) where
  -- what a call answers, and what it leaves beside that
  abbrev pub promised : (c : AnyCall S) → ℕ × Leaves c
  promised (ask_seal key nonce ad msg out tag) = let r = seal_of C key nonce ad msg out tag in (r.answer, (r.out, r.tag))
  promised (ask_seal_in_place key nonce ad buf tag) = let r = seal_in_place_of C key nonce ad buf tag in (r.answer, (r.out, r.tag))
  promised (ask_open key nonce ad ct tag out) = let r = open_of C key nonce ad ct tag out in (r.answer, r.out)
  promised (ask_open_in_place key nonce ad buf tag) = let r = open_in_place_of C key nonce ad buf tag in (r.answer, r.out)
  promised (ask_stream key nonce out) = let r = stream_of C key nonce out in (r.answer, r.out)
  promised (ask_stream_xor key nonce buf) = let r = stream_xor_of C key nonce buf in (r.answer, r.out)
  promised (ask_mac key nonce data' tag) = let r = mac_of C M key nonce data' tag in (r.answer, r.out)
  promised (ask_mac_check key nonce data' tag) = let r = mac_check_of C M key nonce data' tag in (r, tt)
  promised (ask_seal_start key nonce ad n) = let r = session.seal_start C key nonce ad n in (r.answer, r.session)
  promised (ask_open_start key nonce ad n room) = let r = session.open_start C key nonce ad n room in (r.answer, r.session)
  promised (ask_mac_start key nonce n) = let r = session.mac_start C key nonce n in (r.answer, r.session)
  promised (on s (ask_seal_piece msg out)) = let r = session.seal_piece C s msg out in (r.answer, (r.session, r.out))
  promised (on s (ask_seal_piece_in_place buf)) = let r = session.seal_piece_in_place C s buf in (r.answer, (r.session, r.out))
  promised (on s (ask_open_piece ct plain)) = let r = session.open_piece C s ct plain in (r.answer, (r.session, r.out))
  promised (on s (ask_mac_piece data')) = let r = session.mac_piece C s data' in (r.answer, r.session)
  promised (on s (ask_seal_finish tag)) = let r = session.seal_finish C s tag in (r.answer, (r.session, r.out))
  promised (on s (ask_open_finish tag plain)) = let r = session.open_finish C s tag plain in (r.answer, (r.count, r.session, r.out))
  promised (on s (ask_mac_finish tag)) = let r = session.mac_finish C M s tag in (r.answer, (r.session, r.out))
  promised (on s (ask_mac_finish_check tag)) = let r = session.mac_finish_check C M s tag in (r.answer, r.session)
  promised (on s (ask_abort plain)) = let r = session.abort C s plain in (r.answer, (r.session, r.out))

  promised_met : (c : AnyCall S) → CallMet C M c (promised c).0 (promised c).1
  promised_met (ask_seal key nonce ad msg out tag) = refl
  promised_met (ask_seal_in_place key nonce ad buf tag) = refl
  promised_met (ask_open key nonce ad ct tag out) = refl
  promised_met (ask_open_in_place key nonce ad buf tag) = refl
  promised_met (ask_stream key nonce out) = refl
  promised_met (ask_stream_xor key nonce buf) = refl
  promised_met (ask_mac key nonce data' tag) = refl
  promised_met (ask_mac_check key nonce data' tag) = refl
  promised_met (ask_seal_start key nonce ad n) = refl
  promised_met (ask_open_start key nonce ad n room) = refl
  promised_met (ask_mac_start key nonce n) = refl
  promised_met (on s (ask_seal_piece msg out)) = refl
  promised_met (on s (ask_seal_piece_in_place buf)) = refl
  promised_met (on s (ask_open_piece ct plain)) = refl
  promised_met (on s (ask_mac_piece data')) = refl
  promised_met (on s (ask_seal_finish tag)) = refl
  promised_met (on s (ask_open_finish tag plain)) = refl
  promised_met (on s (ask_mac_finish tag)) = refl
  promised_met (on s (ask_mac_finish_check tag)) = refl
  promised_met (on s (ask_abort plain)) = refl

  pub the_promised : (c : AnyCall S) (a : ℕ) (l : Leaves c) → CallMet C M c a l → ◌≡◌ {A = ℕ × Leaves c} (a, l) (promised c)
  the_promised (ask_seal key nonce ad msg out tag) a l m = ap (λ (r : SealLeft). (r.answer, (r.out, r.tag))) m
  the_promised (ask_seal_in_place key nonce ad buf tag) a l m = ap (λ (r : SealLeft). (r.answer, (r.out, r.tag))) m
  the_promised (ask_open key nonce ad ct tag out) a l m = ap (λ (r : Left). (r.answer, r.out)) m
  the_promised (ask_open_in_place key nonce ad buf tag) a l m = ap (λ (r : Left). (r.answer, r.out)) m
  the_promised (ask_stream key nonce out) a l m = ap (λ (r : Left). (r.answer, r.out)) m
  the_promised (ask_stream_xor key nonce buf) a l m = ap (λ (r : Left). (r.answer, r.out)) m
  the_promised (ask_mac key nonce data' tag) a l m = ap (λ (r : Left). (r.answer, r.out)) m
  the_promised (ask_mac_check key nonce data' tag) a l m = ap (λ (r : ℕ). (r, tt)) m
  the_promised (ask_seal_start key nonce ad n) a l m = ap (λ (r : Handed S). (r.answer, r.session)) m
  the_promised (ask_open_start key nonce ad n room) a l m = ap (λ (r : Handed S). (r.answer, r.session)) m
  the_promised (ask_mac_start key nonce n) a l m = ap (λ (r : Handed S). (r.answer, r.session)) m
  the_promised (on s (ask_seal_piece msg out)) a l m = ap (λ (r : Wrote S). (r.answer, (r.session, r.out))) m
  the_promised (on s (ask_seal_piece_in_place buf)) a l m = ap (λ (r : Wrote S). (r.answer, (r.session, r.out))) m
  the_promised (on s (ask_open_piece ct plain)) a l m = ap (λ (r : Wrote S). (r.answer, (r.session, r.out))) m
  the_promised (on s (ask_mac_piece data')) a l m = ap (λ (r : Handed S). (r.answer, r.session)) m
  the_promised (on s (ask_seal_finish tag)) a l m = ap (λ (r : Wrote S). (r.answer, (r.session, r.out))) m
  the_promised (on s (ask_open_finish tag plain)) a l m = ap (λ (r : Opened S). (r.answer, (r.count, r.session, r.out))) m
  the_promised (on s (ask_mac_finish tag)) a l m = ap (λ (r : Wrote S). (r.answer, (r.session, r.out))) m
  the_promised (on s (ask_mac_finish_check tag)) a l m = ap (λ (r : Handed S). (r.answer, r.session)) m
  the_promised (on s (ask_abort plain)) a l m = ap (λ (r : Wrote S). (r.answer, (r.session, r.out))) m

  pub call_answered : (c : AnyCall S) → (a : ℕ) × (l : Leaves c) × CallMet C M c a l
  call_answered c = ((promised c).0, (promised c).1, promised_met c)

  pub call_one_answer : (c : AnyCall S) (a a₂ : ℕ) (l l₂ : Leaves c) → CallMet C M c a l → CallMet C M c a₂ l₂ → (a ≡ a₂) × (l ≡ l₂)
  call_one_answer c a a₂ l l₂ m k =
      let same : ◌≡◌ {A = ℕ × Leaves c} (a, l) (a₂, l₂) = the_promised c a l m ∙ sym (the_promised c a₂ l₂ k) in
      (ap (λ (o : ℕ × Leaves c). o.0) same, ap (λ (o : ℕ × Leaves c). o.1) same)
