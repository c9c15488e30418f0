-- "The first that applies, in this order, is the answer": every exported call answers k exactly if rung k of its order fails and all before it
-- pass, and 0 exactly if all pass.
-- Assumes nothing.
use Prim.Native.Nat.{ℕ, zero, suc}
use mathlib.Core.Path.{◌≡◌, refl, sym, ap, ◌∙◌}
use mathlib.Core.Bool.{Bool, true, false}
use mathlib.Core.Logic.{◌↔◌}
use mathlib.Core.List.{List, [], ◌∷◌, ◌++◌}
use native.Mathlib.Omega.{arith}
use lib.ListN.{length}
use Rattle.answers.specs.Answers.{Rung, climb, FirstApplies}
use Rattle.answers.specs.Answers as answers
use Rattle.answers.proofs.Ladder.{Extends, numbered, climb_extends}
use Rattle.answers.proofs.FirstApplies.{climb_exactly}
use Rattle.lent.specs.Lent.{same}
use Rattle.promises.specs.Cipher.{Cipher, Mac}
use Rattle.promises.specs.Texts.{open_tag, mac_tag}
use Rattle.promises.specs.OneShot.{Left, on_done, verdict, open_of, mac_check_of}
use Rattle.promises.specs.SessionCalls.{Handed, Wrote, Opened}
use Rattle.promises.specs.Session.{Session, opening, live, session_tag, session_mac}
use Rattle.promises.specs.SessionCalls as session
use Rattle.promises.specs.Trace.{ask_seal_piece, ask_seal_piece_in_place, ask_open_piece, ask_mac_piece}
use Rattle.promises.specs.Trace.{ask_seal_finish, ask_open_finish, ask_mac_finish, ask_mac_finish_check, ask_abort}
use Rattle.promises.specs.AnyCall.{AnyCall, ask_seal, ask_seal_in_place, ask_open, ask_open_in_place, ask_stream, ask_stream_xor, ask_mac, ask_mac_check}
use Rattle.promises.specs.AnyCall.{ask_seal_start, ask_open_start, ask_mac_start, on, Leaves, CallMet, rungs_of}
use Rattle.promises.proofs.Ladder.{answer_on_done}
use Rattle.promises.proofs.SealAnswers.{seal_answer}
use Rattle.promises.proofs.StreamAnswers.{stream_answer, stream_xor_answer}
use Rattle.promises.proofs.MacAnswers.{mac_answer}
use Rattle.promises.proofs.ExactlyOne.{promised, the_promised}

-- ---- a promise that begins with a ladder, and ends with the verdict on a tag

module _ {A : Type 0} (answer : A → ℕ) (refused : ℕ → A) (done : A) (says : (a : ℕ) → answer (refused a) ≡ a) where
  goes_on : (short long rest : ℕ) → Extends short long rest → answer done ≡ rest → answer (on_done short refused done) ≡ long
  goes_on zero long rest e h = h ∙ sym (e.past refl)
  goes_on (suc a) long rest e h = says (suc a) ∙ sym (e.refused (λ z. omega arith))

  then_7 : (rs : List Rung) (t : Bool) → numbered rs ≡ true → answer done ≡ climb ((7, t) ∷ [])
      → answer (on_done (climb rs) refused done) ≡ climb (rs ++ (7, t) ∷ [])
  then_7 rs t n h = goes_on (climb rs) (climb (rs ++ (7, t) ∷ [])) (climb ((7, t) ∷ [])) (climb_extends rs ((7, t) ∷ []) n) h

verdict_climbs : (t : Bool) (msg ct out : List ℕ) → (verdict t msg ct out).answer ≡ climb ((7, t) ∷ [])
unfolding verdict
verdict_climbs true msg ct out = refl
verdict_climbs false msg ct out = refl

module _ {S : Type 0} (C : Cipher S) (M : Mac S) where
  open C use {machine}
  open machine use {rate}

  released_climbs : (t : Bool) (s : Session S) (plain : List ℕ) → (session.released C t s plain).answer ≡ climb ((7, t) ∷ [])
  unfolding session.released
  released_climbs true s plain = refl
  released_climbs false s plain = refl

  -- ---- each call

  open_climbs : (key nonce ad ct tag out : List ℕ) → (open_of C key nonce ad ct tag out).answer ≡ climb (rungs_of C M (ask_open key nonce ad ct tag out))
  unfolding open_of answers.one_shot
  open_climbs key nonce ad ct tag out =
      then_7 (λ (x : Left). x.answer) _ _ (λ b. refl) (rungs_of C M (ask_seal key nonce ad ct out tag))
      (same tag (open_tag C key nonce ad ct (length tag))) refl (verdict_climbs _ _ _ _)

  promised_climbs : (c : AnyCall S) → (promised C M c).0 ≡ climb (rungs_of C M c)
  unfolding mac_check_of session.seal_start session.open_start session.mac_start session.seal_piece session.seal_piece_in_place session.open_piece
      session.mac_piece session.seal_finish session.open_finish session.mac_finish session.mac_finish_check session.abort answers.one_shot answers.stream
      answers.mac answers.start answers.mac_start answers.seal_piece answers.piece answers.open_piece answers.finish answers.open_finish answers.abort
  promised_climbs (ask_seal key nonce ad msg out tag) = seal_answer C key nonce ad msg out tag
  promised_climbs (ask_seal_in_place key nonce ad buf tag) = seal_answer C key nonce ad buf buf tag
  promised_climbs (ask_open key nonce ad ct tag out) = open_climbs key nonce ad ct tag out
  promised_climbs (ask_open_in_place key nonce ad buf tag) = open_climbs key nonce ad buf tag buf
  promised_climbs (ask_stream key nonce out) = stream_answer C key nonce out
  promised_climbs (ask_stream_xor key nonce buf) = stream_xor_answer C key nonce buf
  promised_climbs (ask_mac key nonce data' tag) = mac_answer C M key nonce data' tag
  promised_climbs (ask_mac_check key nonce data' tag) =
      then_7 (λ b. b) _ _ (λ b. refl) (rungs_of C M (ask_mac key nonce data' tag)) (same tag (mac_tag C M key nonce data' (length tag))) refl refl
  promised_climbs (ask_seal_start key nonce ad n) = answer_on_done (λ (x : Handed S). x.answer) _ _ (λ b. refl) refl _
  promised_climbs (ask_open_start key nonce ad n room) = answer_on_done (λ (x : Handed S). x.answer) _ _ (λ b. refl) refl _
  promised_climbs (ask_mac_start key nonce n) = answer_on_done (λ (x : Handed S). x.answer) _ _ (λ b. refl) refl _
  promised_climbs (on s (ask_seal_piece msg out)) = answer_on_done (λ (x : Wrote S). x.answer) _ _ (λ b. refl) refl _
  promised_climbs (on s (ask_seal_piece_in_place buf)) = answer_on_done (λ (x : Wrote S). x.answer) _ _ (λ b. refl) refl _
  promised_climbs (on s (ask_open_piece ct plain)) = answer_on_done (λ (x : Wrote S). x.answer) _ _ (λ b. refl) refl _
  promised_climbs (on s (ask_mac_piece data')) = answer_on_done (λ (x : Handed S). x.answer) _ _ (λ b. refl) refl _
  promised_climbs (on s (ask_seal_finish tag)) = answer_on_done (λ (x : Wrote S). x.answer) _ _ (λ b. refl) refl _
  promised_climbs (on s (ask_open_finish tag plain)) =
      then_7 (λ (x : Opened S). x.answer) _ _ (λ b. refl)
      (answers.open_finish_rungs (live rate opening s) (length plain) s.room (length tag) s.tag_size) (same tag (session_tag C s)) refl
      (released_climbs _ _ _)
  promised_climbs (on s (ask_mac_finish tag)) = answer_on_done (λ (x : Wrote S). x.answer) _ _ (λ b. refl) refl _
  promised_climbs (on s (ask_mac_finish_check tag)) =
      then_7 (λ (x : Handed S). x.answer) _ _ (λ b. refl) (rungs_of C M (on s (ask_mac_finish tag))) (same tag (session_mac C M s)) refl refl
  promised_climbs (on s (ask_abort plain)) = answer_on_done (λ (x : Wrote S). x.answer) _ _ (λ b. refl) refl _

  -- no two rungs of one order have the same number
  rungs_numbered : (c : AnyCall S) → numbered (rungs_of C M c) ≡ true
  rungs_numbered (ask_seal key nonce ad msg out tag) = refl
  rungs_numbered (ask_seal_in_place key nonce ad buf tag) = refl
  rungs_numbered (ask_open key nonce ad ct tag out) = refl
  rungs_numbered (ask_open_in_place key nonce ad buf tag) = refl
  rungs_numbered (ask_stream key nonce out) = refl
  rungs_numbered (ask_stream_xor key nonce buf) = refl
  rungs_numbered (ask_mac key nonce data' tag) = refl
  rungs_numbered (ask_mac_check key nonce data' tag) = refl
  rungs_numbered (ask_seal_start key nonce ad n) = refl
  rungs_numbered (ask_open_start key nonce ad n room) = refl
  rungs_numbered (ask_mac_start key nonce n) = refl
  rungs_numbered (on s (ask_seal_piece msg out)) = refl
  rungs_numbered (on s (ask_seal_piece_in_place buf)) = refl
  rungs_numbered (on s (ask_open_piece ct plain)) = refl
  rungs_numbered (on s (ask_mac_piece data')) = refl
  rungs_numbered (on s (ask_seal_finish tag)) = refl
  rungs_numbered (on s (ask_open_finish tag plain)) = refl
  rungs_numbered (on s (ask_mac_finish tag)) = refl
  rungs_numbered (on s (ask_mac_finish_check tag)) = refl
  rungs_numbered (on s (ask_abort plain)) = refl

  call_climbs : (c : AnyCall S) (a : ℕ) (l : Leaves c) → CallMet C M c a l → a ≡ climb (rungs_of C M c)
  call_climbs c a l m = ap (λ (o : ℕ × Leaves c). o.0) (the_promised C M c a l m) ∙ promised_climbs c

  pub first_applies : (c : AnyCall S) (a : ℕ) (l : Leaves c) → CallMet C M c a l → (k : ℕ) → (a ≡ k) ↔ FirstApplies (rungs_of C M c) k
  first_applies c a l m k =
      let e = call_climbs c a l m in
      let x = climb_exactly (rungs_of C M c) (rungs_numbered c) k in
      ((λ h. x.0 (sym e ∙ h)), λ f. e ∙ x.1 f)
