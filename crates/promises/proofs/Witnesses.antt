-- None of the demands is idle: each field that takes something as given is applied to an instance of it, over any cipher, under one key, nonce,
-- associated data and tag size and with one message of more than a block (WitnessKey.antt). The instances are general (WitnessCalls, WitnessSealing,
-- WitnessOpening, WitnessMac): they are there for every key, message and cut.
-- Assumes nothing.
use Prim.Native.Nat.{ℕ, zero, ◌+◌, ◌-◌, ◌≤◌, ◌<◌, zero-le}
use mathlib.Core.Path.{◌≡◌, refl, sym, ◌∙◌}
use mathlib.Core.Logic.{◌⊎◌, inl, inr, ◌≢◌}
use mathlib.Core.List.{List, [], ◌∷◌}
use native.Mathlib.Nat.{le_refl}
use native.Mathlib.Omega.{arith}
use lib.Dec.{eqb, lit<}
use lib.ListN.{length, take, drop, replicate, length-replicate, take-append-drop}
use Rattle.machine.specs.Bytes.{zeros, Bytes}
use Rattle.machine.proofs.ByteLists.{bytes-append}
use Rattle.answers.specs.Answers.{limit}
use Rattle.promises.specs.Cipher.{Cipher, Mac}
use Rattle.promises.specs.Allowed.{Allowed}
use Rattle.promises.specs.Texts.{onto, ciphertext, seal_tag, mac_tag}
use Rattle.promises.specs.Session.{Session, pick}
use Rattle.promises.specs.AnyCall.{ask_seal, ask_open, on}
use Rattle.promises.specs.Trace.{Made, seal_finish, Calls, none, ◌▸◌, Trace, at_start, made, ask_seal_piece, ask_mac_piece, ask_mac_finish}
use Rattle.promises.specs.Interleaved.{Interleaving, nothing, and_then, Interleaved, not_yet, one_more}
use Rattle.promises.specs.Demands.{Demand1, Demand2, Demand3, SealedAs, all_of, and_more}
use Rattle.promises.proofs.Texts.{ciphertext-length, seal_tag-length, mac_tag-length}
use Rattle.promises.proofs.Other.{other, other_length, other_differs}
use Rattle.promises.proofs.Traces.{trace_before}
use Rattle.promises.proofs.WitnessCalls as calls
use Rattle.promises.proofs.WitnessSealing as sealings
use Rattle.promises.proofs.WitnessOpening as openings
use Rattle.promises.proofs.WitnessOpening.{unlike, unlike_room, unlike_first}
use Rattle.promises.proofs.WitnessMac as macs
use Rattle.promises.proofs.WitnessKey.{some_key, some_nonce, some_data, first_part, second_part, some_message}
use Rattle.promises.proofs.WitnessKey.{Mixed, some_key-mixed, some_nonce-mixed, first_part-length, some_message-length, bytes-replicate}

-- What a field says of an instance, in the end. None of these is a function, so that a field which is brought to one has been given all that it takes.
pub data Said : Type 1 where
  same : {A : Type 0} {x y : A} → x ≡ y → Said
  differ : {A : Type 0} {x y : A} → x ≢ y → Said
  one_of : {A B : Type 0} → A ⊎ B → Said
  all_bytes : (xs : List ℕ) → Bytes xs → Said
  traced : {S : Type 0} {C : Cipher S} {M : Mac S} {s₀ s : Session S} {cs : Calls} → Trace C M s₀ cs s → Said

module _ {S : Type 0} (C : Cipher S) (M : Mac S) where
  -- two sessions whose calls take turns
  abbrev two : Session S → Session S → ℕ → Session S
  two s u j = pick (eqb j 0) s u

  abbrev turns : (a b c d : Made) → Interleaving
  turns a b c d = and_then (and_then (and_then (and_then nothing 0 a) 1 c) 0 b) 1 d

  in_turns : {s s' u u' : Session S} {a b c d : Made} → Trace C M s (none ▸ a ▸ b) s' → Trace C M u (none ▸ c ▸ d) u'
      → (last : ℕ → Session S) × Interleaved C M (two s u) (turns a b c d) last
  in_turns (made {s' = s₂} (made {s' = s₁} at_start a ma) b mb) (made {s' = u₂} (made {s' = u₁} at_start c mc) d md) =
      (_, one_more (one_more (one_more (one_more not_yet 0 a s₁ ma) 1 c u₁ mc) 0 b s₂ mb) 1 d u₂ md)

module _ {S : Type 0} (C : Cipher S) (M : Mac S) (keyed : zero < C.size) (in-limit : C.machine.rate < limit) where
  open C use {size, machine}

  -- ---- what is fixed

  abbrev key : List ℕ
  key = some_key size

  abbrev nonce : List ℕ
  nonce = some_nonce size

  abbrev p : List ℕ
  p = first_part machine.rate

  abbrev msg : List ℕ
  msg = some_message machine.rate

  pub some_allowed : (ad : List ℕ) → length ad ≤ limit → Allowed C key nonce ad 16
  some_allowed ad fits = record { key_size = length-replicate size 1; nonce_size = length-replicate size 2; ad_fits = fits; tag_size_ok = refl }

  long : length msg ≡ machine.rate + 1
  long = some_message-length machine.rate machine.rate_positive

  -- neither all 00 nor all ff; and more than a block, of which the first piece is a part
  pub chosen : Mixed key × Mixed nonce × (length p < machine.rate) × (machine.rate < length msg)
  chosen = (some_key-mixed size keyed, some_nonce-mixed size keyed, first_part-length machine.rate machine.rate_positive, omega (arith, long))

  within : length msg ≤ limit
  within = omega (arith, long)

  some : zero < length msg
  some = omega (arith, long)

  fixed : Allowed C key nonce some_data 16
  fixed = some_allowed some_data (omega arith)

  -- ---- the instances

  abbrev ct : List ℕ
  ct = ciphertext C key nonce some_data msg

  abbrev due : List ℕ
  due = seal_tag C key nonce some_data msg 16

  ct_long : length ct ≡ length msg
  ct_long = ciphertext-length C key nonce some_data msg

  -- the message sealed in two pieces, in one, and another of the same length
  sealing : sealings.TwoPieces C M key nonce some_data 16 fixed p second_part
  sealing = sealings.seals_in_two C M key nonce some_data 16 fixed p second_part within

  whole : sealings.OnePiece C M key nonce some_data 16 fixed msg
  whole = sealings.seals_in_one C M key nonce some_data 16 fixed msg within

  another : sealings.OnePiece C M key nonce some_data 16 fixed (other msg)
  another = sealings.seals_in_one C M key nonce some_data 16 fixed (other msg) (rw (other_length msg) within)

  -- its ciphertext opened in two, cut elsewhere, into a buffer whose first byte is not the message's
  opening : openings.TwoPieces C M key nonce some_data 16 fixed (unlike msg) msg (take 1 ct) (drop 1 ct)
  opening =
      openings.opens_in_two C M key nonce some_data 16 fixed (unlike msg) msg (take 1 ct) (drop 1 ct) (take-append-drop 1 ct) within
      (omega (arith, unlike_room msg))

  other_room : openings.OtherRoom C M key nonce some_data 16 fixed (0 ∷ msg) msg ct due
  other_room = openings.opens_nothing C M key nonce some_data 16 fixed (0 ∷ msg) msg ct due (λ e. omega arith)

  macing : macs.TwoPieces C M key nonce 16 (some_allowed [] zero-le) p second_part
  macing = macs.macs_in_two C M key nonce 16 (some_allowed [] zero-le) p second_part within

  -- ---- demand 1

  pub said_1 : Demand1 C M → List Said
  said_1 d =
      let sealed = calls.sealed_met C M key nonce some_data 16 fixed msg within msg (le_refl (length msg)) in
      let wrong = calls.refused_met C M key nonce some_data 16 fixed msg within in
      let room : length ct ≤ length (unlike msg) = omega (arith, ct_long, unlike_room msg) in
      let turns = in_turns C M whole.finished.trace another.finished.trace in
      -- the piece that was refused, the finish, and a piece behind the end of the opening that was refused
      let piece = trace_before C M (trace_before C M sealing.sealed.trace).1 in
      let finish = trace_before C M sealing.finished.trace in
      let later = openings.opens_no_more C M key nonce some_data 16 fixed (unlike msg) opening.refused.2 (inr (inr refl)) msg in
      -- two copies of a MAC session: one is finished, and one takes more
      let copy = d.any_order macing.maced.last (ask_mac_finish (zeros 16) ∷ []) in
      let copy₂ = d.any_order macing.maced.last (ask_mac_piece msg ∷ ask_mac_finish (zeros 16) ∷ []) in
      let changed = openings.first_changed C M key nonce some_data 16 fixed (unlike msg) opening some (unlike_first msg some) in
      let first = d.first_applies (ask_open key nonce some_data ct (other due) (unlike msg)) 7 (onto (replicate (length ct) 0xaa) (unlike msg)) (wrong (unlike msg) room) 7 in
      same (d.one_answer (ask_seal key nonce some_data msg msg (zeros 16)) 0 0 (onto ct msg, due) (onto ct msg, due) sealed sealed).0 ∷
      traced (d.any_copy macing.maced.trace copy.3) ∷
      traced (d.any_copy macing.maced.trace copy₂.3) ∷
      traced (d.any_sessions turns.1 0) ∷
      traced (d.any_sessions turns.1 1) ∷
      same (first.1 (first.0 refl)) ∷
      same (d.refused (on piece.0 (ask_seal_piece (0 ∷ second_part) second_part)) 9 (_, second_part) piece.2 (λ e. omega arith) (λ e. omega arith)) ∷
      same (d.ends finish.0 sealing.finished.last (seal_finish (zeros 16) 0 due) finish.2 refl) ∷
      same (d.over later.trace (inr (inr refl))).0 ∷
      same (d.sealing_record sealing.sealed (sealings.starts C M key nonce some_data 16 fixed sealing.sealed) sealing.going).msg_length_is ∷
      same (d.opening_record opening.opened (openings.starts C M key nonce some_data 16 fixed (unlike msg) opening.opened) opening.going).msg_length_is ∷
      same (d.mac_record macing.maced (macs.starts C M key nonce 16 (some_allowed [] zero-le) macing.maced) macing.going).msg_length_is ∷
      same (d.abort_sealing sealing.aborted (sealings.starts C M key nonce some_data 16 fixed sealing.aborted) sealing.going).0 ∷
      same (d.abort_mac macing.aborted (macs.starts C M key nonce 16 (some_allowed [] zero-le) macing.aborted) macing.going).0 ∷
      same (d.abort_opening opening.aborted.1 (openings.starts C M key nonce some_data 16 fixed (unlike msg) opening.aborted.1) opening.going opening.own) ∷
      same (d.other_room key nonce some_data 16 (length (0 ∷ msg)) other_room.first other_room.start_met other_room.trace other_room.lent_other).0 ∷
      same (d.wrong_tag key nonce some_data ct (other due) (unlike msg) 7 _ (wrong (unlike msg) room) refl) ∷
      same (d.wrong_tag_in_place key nonce some_data ct (other due) 7 _ (wrong ct (le_refl (length ct))) refl) ∷
      same (d.session_wrong_tag later (inl (inr refl)) (and_more _ (and_more _ all_of)) opening.opened 0 changed) ∷
      same (d.session_wrong_tag opening.aborted.1 (inr refl) (and_more _ all_of) opening.opened 0 changed) ∷
      one_of (d.session_other_bytes later (inl (inr refl)) 0) ∷
      same (d.session_erased later (inl (inr refl))).1 ∷
      []

  -- ---- demand 2

  pub said_2 : Demand2 C M → List Said
  said_2 d =
      let sealed = calls.sealed_met C M key nonce some_data 16 fixed msg within msg (le_refl (length msg)) in
      let opened = calls.opened_met C M key nonce some_data 16 fixed msg within ct (le_refl (length ct)) in
      let streamed = calls.streamed C M key nonce some_data 16 fixed msg in
      let xored = calls.xored C M key nonce some_data 16 fixed in
      let maced = calls.maced C M key nonce some_data 16 fixed in
      same (d.seal_is_encrypt key nonce some_data msg msg (zeros 16) 0 (onto ct msg) due sealed refl).0 ∷
      same (d.open_is_decrypt key nonce some_data ct due ct 0 (onto msg ct) opened refl).0 ∷
      same (d.stream_is_stream key nonce msg 0 _ streamed refl) ∷
      same (d.stream_xor_is_xor key nonce msg 0 _ (xored msg) refl) ∷
      same (d.stream_xor_back key nonce msg 0 _ 0 _ (xored msg) refl (xored _)).1 ∷
      same (d.mac_is_01s key nonce msg (zeros 16) 0 _ (maced msg within) refl some) ∷
      same (d.mac_of_nothing key nonce (zeros 16) 0 _ (maced [] zero-le) refl) ∷
      same (d.sealed key nonce some_data 16 fixed (calls.sealed C M key nonce some_data 16 fixed msg within msg (le_refl (length msg))).0) ∷
      same ((d.streamed key nonce fixed.key_size fixed.nonce_size msg 0 _).0 streamed) ∷
      same ((d.streamed key nonce fixed.key_size fixed.nonce_size msg 0 _).1 (xored msg)) ∷
      same (d.maced key nonce 16 (some_allowed [] zero-le) msg (zeros 16) 0 _ (maced msg within) refl within) ∷
      []

  -- ---- demand 3

  pub said_3 : Demand3 C M key nonce some_data 16 → List Said
  said_3 d =
      let room : length ct ≤ length (unlike msg) = omega (arith, ct_long, unlike_room msg) in
      let own : length due ≡ 16 = seal_tag-length C key nonce some_data msg 16 refl in
      let form = calls.has_form C M key nonce some_data 16 fixed msg within in
      let form₂ = calls.has_form C M key nonce some_data 16 fixed (other msg) (rw (other_length msg) within) in
      let sealed = calls.sealed_met C M key nonce some_data 16 fixed msg within msg (le_refl (length msg)) in
      let opened = calls.opened_met C M key nonce some_data 16 fixed msg within ct (le_refl (length ct)) in
      -- calls of open: two with the right tag, one with another
      let o = calls.opened C M key nonce some_data 16 fixed msg within (unlike msg) room in
      let o₂ = calls.opened C M key nonce some_data 16 fixed msg within ct (le_refl (length ct)) in
      let q = calls.refused C M key nonce some_data 16 fixed msg within (unlike msg) room in
      let o-form : SealedAs C key nonce some_data 16 msg o.0.ct o.0.tag = rw (o.1, o.2) form in
      let bk = bytes-replicate size 1 (lit< tt) in
      let bn = bytes-replicate size 2 (lit< tt) in
      let ba : Bytes some_data = (lit< tt, (lit< tt, (lit< tt, tt))) in
      let bm = bytes-append p second_part (bytes-replicate (machine.rate - 1) 6 (lit< tt)) (lit< tt, (lit< tt, tt)) in
      let maced = calls.maced C M key nonce some_data 16 fixed in
      let checked = calls.checked C M key nonce some_data 16 fixed msg within in
      let check_refused = calls.check_refused C M key nonce some_data 16 fixed msg within in
      let mac = mac_tag C M key nonce msg 16 in
      let mac-own : length mac ≡ 16 = mac_tag-length C M key nonce msg 16 refl in
      same (d.has_form msg within).2.as_long ∷
      same (d.one_form msg ct due ct due form form).0 ∷
      differ (d.differ msg ct due (other msg) _ _ form form₂ (λ e. other_differs msg some (sym e))) ∷
      same ((d.accepts o.0).0 o.3).1.as_long ∷
      same (d.yields o.0 msg o-form).1 ∷
      same ((d.refuses q.0).1 ((d.refuses q.0).0 q.3)) ∷
      one_of (d.verdict o.0) ∷
      one_of (d.verdict q.0) ∷
      same (d.one_tag o.0 o₂.0 o.3 o₂.3 (o.1 ∙ sym o₂.1)) ∷
      same (d.seal_in_place msg (zeros 16) 0 _ due sealed refl within).1.as_long ∷
      same ((d.open_in_place ct due 0 _ opened own (rw ct_long within)).1 msg form) ∷
      all_bytes ct (d.bytes_sealed bk bn ba msg ct due form bm).0 ∷
      all_bytes msg (d.bytes_opened bk bn ba msg ct due form (d.bytes_sealed bk bn ba msg ct due form bm).0) ∷
      same (d.seal_so_far sealing.sealed) ∷
      same (d.open_so_far opening.opened refl) ∷
      same (d.seal_finished sealing.finished sealing.going refl).1.as_long ∷
      same ((d.mac_finished macing.finished macing.going refl).1 (zeros 16) 0 mac (rw macing.took (maced msg within)) refl).1 ∷
      same ((d.open_finished opening.released.2 opening.going opening.own o.0 (o.1 ∙ sym opening.took) o.2).1 refl).1 ∷
      same (d.open_finished opening.refused.2 opening.going opening.own q.0 (q.1 ∙ sym opening.took) q.2).0 ∷
      same ((d.open_finish_accepts opening.released.2 opening.going own opening.own).0 refl).1.as_long ∷
      same (d.open_finish_yields opening.released.2 refl).3 ∷
      same (d.mac_check macing.checked macing.going mac-own 0 (rw macing.took checked)) ∷
      same (d.mac_check macing.refused macing.going (other_length mac ∙ mac-own) 7 (rw macing.took check_refused)) ∷
      same ((d.mac_accepts msg (zeros 16) 0 _ (maced msg within) refl within mac 0 checked mac-own).0.0 refl) ∷
      one_of (d.mac_accepts msg (zeros 16) 0 _ (maced msg within) refl within (other mac) 7 check_refused (other_length mac ∙ mac-own)).1 ∷
      same (d.recut_seals sealing.finished refl whole.finished refl sealing.took).1 ∷
      differ (d.recut_differ sealing.sealed another.sealed (λ e. other_differs msg some (sym e ∙ sealing.took))) ∷
      same (d.recut_opens sealing.finished refl opening.released.2 opening.going opening.own (opening.took ∙ sym sealing.gave) refl).2 ∷
      same (d.joined_opens sealing.finished refl o.0 (o.1 ∙ sym sealing.gave) o.2).1 ∷
      []
