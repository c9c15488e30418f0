-- Demand 1, for every cipher.
-- Assumes nothing.
use Prim.Native.Nat.{ℕ, ◌≤◌}
use mathlib.Core.Path.{◌≡◌, refl, sym, ap, ◌∙◌}
use mathlib.Core.Bool.{Bool, true, false}
use mathlib.Core.Logic.{◌⊎◌, inl, inr, ◌≢◌}
use mathlib.Core.List.{List}
use native.Mathlib.Nat.{le_refl, le_trans}
use native.Mathlib.Omega.{arith}
use lib.Dec.{leb}
use lib.ListN.{length, get_or, length-append}
use borrow.Author.Tests.{leb-true, leb-false}
use Rattle.promises.specs.Cipher.{Cipher, Mac}
use Rattle.promises.specs.OneShot.{Left}
use Rattle.promises.specs.Trace.{Calls, taken, input, Refused, OpenSession}
use Rattle.promises.specs.Demands.{Demand1, FirstOf, all_of, and_more}
use Rattle.promises.proofs.OpenAnswers.{open_erases}
use Rattle.promises.proofs.InPlace.{open_in_place_erases}
use Rattle.promises.proofs.ExactlyOne.{call_answered, call_one_answer}
use Rattle.promises.proofs.ExactlyFirst.{first_applies}
use Rattle.promises.proofs.ExactlyRefused.{refused_untouched}
use Rattle.promises.proofs.ExactlyMade.{in_any_order}
use Rattle.promises.proofs.MadeCalls.{ended_is_over, over_answers_8}
use Rattle.promises.proofs.Traces.{trace_then}
use Rattle.promises.proofs.TracesHeld.{seal_session_record, open_session_record, mac_session_record}
use Rattle.promises.proofs.TracesAborting.{seal_session_aborts, mac_session_aborts, open_session_aborts}
use Rattle.promises.proofs.TracesOtherRoom.{other_room_answers}
use Rattle.promises.proofs.TracesInterleaved.{each_is_a_trace}
use Rattle.promises.proofs.TracesErasing as erasing

first_taken : {ps cs : Calls} → FirstOf ps cs → length (taken ps) ≤ length (taken cs)
first_taken {ps} all_of = le_refl (length (taken ps))
first_taken (and_more {cs} c f) = le_trans (first_taken f) (omega (arith, length-append (taken cs) (input c)))

module _ {S : Type 0} (C : Cipher S) (M : Mac S) where
  -- a byte that changed lies among those that were written
  module _ {key nonce ad p₀ p : List ℕ} {n : ℕ} {cs : Calls} (t : OpenSession C M key nonce ad n p₀ cs p) (r : Refused cs) where
    wiped : erasing.Overwritten C M key nonce ad n p₀ (length (taken cs)) p
    wiped = erasing.open_session_overwritten C M key nonce ad n p₀ t r

    other_byte : (i : ℕ) → (get_or p i 0 ≡ 0) ⊎ (get_or p i 0 ≡ get_or p₀ i 0)
    other_byte i = go (leb (length (taken cs)) i) refl
      where
        go : (b : Bool) → leb (length (taken cs)) i ≡ b → (get_or p i 0 ≡ 0) ⊎ (get_or p i 0 ≡ get_or p₀ i 0)
        go true e = inr (wiped.other_bytes i (leb-true (length (taken cs)) i e))
        go false e = inl (wiped.written_bytes i (omega (arith, leb-false (length (taken cs)) i e)))

    changed_byte : {ps : Calls} → FirstOf ps cs → {q : List ℕ} → OpenSession C M key nonce ad n p₀ ps q → (i : ℕ) → get_or q i 0 ≢ get_or p₀ i 0 → get_or p i 0 ≡ 0
    changed_byte {ps} f u i d = go (leb (length (taken ps)) i) refl
      where
        go : (b : Bool) → leb (length (taken ps)) i ≡ b → get_or p i 0 ≡ 0
        go true e = absurd (d (erasing.open_session_untouched C M key nonce ad n p₀ u i (leb-true (length (taken ps)) i e)))
        go false e = wiped.written_bytes i (omega (arith, leb-false (length (taken ps)) i e, first_taken f))

  pub demand_1 : Demand1 C M
  demand_1 = record {
    answered = call_answered C M;
    one_answer = call_one_answer C M;
    any_order = in_any_order C M;
    any_copy = trace_then C M;
    any_sessions = each_is_a_trace C M;
    first_applies = first_applies C M;
    refused = refused_untouched C M;
    ends = ended_is_over C M;
    over = over_answers_8 C M;
    sealing_record = seal_session_record C M;
    opening_record = open_session_record C M;
    mac_record = mac_session_record C M;
    abort_sealing = seal_session_aborts C M;
    abort_mac = mac_session_aborts C M;
    abort_opening = open_session_aborts C M;
    other_room = other_room_answers C M;
    wrong_tag = λ key nonce ad ct tag out r out' m z.
        ap (λ (x : Left). x.out) m ∙ open_erases C key nonce ad ct tag out (sym (ap (λ (x : Left). x.answer) m) ∙ z);
    wrong_tag_in_place = λ key nonce ad buf tag r buf' m z.
        ap (λ (x : Left). x.out) m ∙ open_in_place_erases C key nonce ad buf tag (sym (ap (λ (x : Left). x.answer) m) ∙ z);
    session_wrong_tag = λ t r f u i d. changed_byte t r f u i d;
    session_other_bytes = λ t r i. other_byte t r i;
    session_erased = λ t r. ((wiped t r).in_buffer, (wiped t r).buffer_is);
  }
