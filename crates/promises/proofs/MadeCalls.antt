-- What one call leaves of a session, whatever that holds, by the call's answer: a refusal leaves all as it was, an end leaves the session that is
-- over, and of a session that is over every call answers 8.
-- Assumes nothing.
use Prim.Native.Nat.{ℕ, suc}
use mathlib.Core.Path.{◌≡◌, refl, sym, ap, subst, ◌∙◌}
use mathlib.Core.Bool.{Bool, true, false}
use mathlib.Core.Logic.{inl, inr, ◌≢◌}
use mathlib.Core.List.{List}
use native.Mathlib.Nat.{suc-ne-zero}
use lib.Dec.{eqb}
use lib.ListN.{length}
use Rattle.answers.specs.Answers as answers
use Rattle.lent.specs.Lent.{same}
use Rattle.promises.specs.Cipher.{Cipher, Mac}
use Rattle.promises.specs.SessionCalls.{Handed, Wrote, Opened}
use Rattle.promises.specs.Session.{sealing, opening, macing, Session, live, abort_live, if_opening, ended, session_tag}
use Rattle.promises.specs.SessionCalls as session
use Rattle.promises.specs.Trace.{Made, seal_piece, seal_piece_in_place, open_piece, mac_piece, seal_finish, open_finish, mac_finish, mac_finish_check, abort}
use Rattle.promises.specs.Trace.{Calls, ◌▸◌, answer_of, LeftAlone, Ended, Over, Met, Trace, at_start, made}
use Rattle.promises.proofs.SessionLive.{ended_not_live, ended_not_abortable}
use Rattle.promises.proofs.SessionLadders as ladder
use Rattle.promises.proofs.SessionCalls as calls
use Rattle.promises.proofs.SessionCalls.{on_done-cases, Ends}

module _ {S : Type 0} (C : Cipher S) (M : Mac S) where
  open C use {machine}
  open machine use {rate}

  -- ---- a refusal: neither 0 nor 7

  not_ends : {a : ℕ} → a ≢ 0 → a ≢ 7 → Ends a → ⊥
  not_ends z n (inl e) = z e
  not_ends z n (inr e) = n e

  pub refused_alone : (s s' : Session S) (c : Made) → Met C M s c s' → answer_of c ≢ 0 → answer_of c ≢ 7 → LeftAlone c × (s' ≡ s)
  refused_alone s s' (seal_piece msg out a out') m z n =
      let e = m ∙ calls.seal_piece_refused C s msg out (λ h. z (ap (λ (r : Wrote S). r.answer) m ∙ h)) in
      (ap (λ (r : Wrote S). r.out) e, ap (λ (r : Wrote S). r.session) e)
  refused_alone s s' (seal_piece_in_place buf a buf') m z n =
      let e = m ∙ calls.seal_piece_in_place_refused C s buf (λ h. z (ap (λ (r : Wrote S). r.answer) m ∙ h)) in
      (ap (λ (r : Wrote S). r.out) e, ap (λ (r : Wrote S). r.session) e)
  refused_alone s s' (open_piece ct plain a plain') m z n =
      let e = m ∙ calls.open_piece_refused C s ct plain (λ h. z (ap (λ (r : Wrote S). r.answer) m ∙ h)) in
      (ap (λ (r : Wrote S). r.out) e, ap (λ (r : Wrote S). r.session) e)
  refused_alone s s' (mac_piece data' a) m z n =
      let e = m ∙ calls.mac_piece_refused C s data' (λ h. z (ap (λ (r : Handed S). r.answer) m ∙ h)) in
      (tt, ap (λ (r : Handed S). r.session) e)
  refused_alone s s' (seal_finish tag a tag') m z n =
      let e = m ∙ calls.seal_finish_refused C s tag (λ h. z (ap (λ (r : Wrote S). r.answer) m ∙ h)) in
      (ap (λ (r : Wrote S). r.out) e, ap (λ (r : Wrote S). r.session) e)
  refused_alone s s' (open_finish tag plain a k plain') m z n =
      let same = ap (λ (r : Opened S). r.answer) m in
      let e = m ∙ calls.open_finish_refused C s tag plain (not_ends (λ h. z (same ∙ h)) (λ h. n (same ∙ h))) in
      ((ap (λ (r : Opened S). r.out) e, ap (λ (r : Opened S). r.count) e), ap (λ (r : Opened S). r.session) e)
  refused_alone s s' (mac_finish tag a tag') m z n =
      let e = m ∙ calls.mac_finish_refused C M s tag (λ h. z (ap (λ (r : Wrote S). r.answer) m ∙ h)) in
      (ap (λ (r : Wrote S). r.out) e, ap (λ (r : Wrote S). r.session) e)
  refused_alone s s' (mac_finish_check tag a) m z n =
      let same = ap (λ (r : Handed S). r.answer) m in
      let e = m ∙ calls.mac_finish_check_refused C M s tag (not_ends (λ h. z (same ∙ h)) (λ h. n (same ∙ h))) in
      (tt, ap (λ (r : Handed S). r.session) e)
  refused_alone s s' (abort plain a plain') m z n =
      let e = m ∙ calls.abort_refused C s plain (λ h. z (ap (λ (r : Wrote S). r.answer) m ∙ h)) in
      (ap (λ (r : Wrote S). r.out) e, ap (λ (r : Wrote S). r.session) e)

  -- ---- an end leaves the session that is over

  module _ (s : Session S) where
    seal_finish_ends : (tag : List ℕ) → (session.seal_finish C s tag).answer ≡ 0 → (session.seal_finish C s tag).session ≡ ended C
    unfolding session.seal_finish
    seal_finish_ends tag =
        on_done-cases (λ (r : Wrote S). r.answer ≡ 0 → r.session ≡ ended C) (answers.finish (live rate sealing s) (length tag) s.tag_size) _ _
        (λ b e h. absurd (suc-ne-zero b h)) (λ e h. refl)

    mac_finish_ends : (tag : List ℕ) → (session.mac_finish C M s tag).answer ≡ 0 → (session.mac_finish C M s tag).session ≡ ended C
    unfolding session.mac_finish
    mac_finish_ends tag =
        on_done-cases (λ (r : Wrote S). r.answer ≡ 0 → r.session ≡ ended C) (answers.finish (live rate macing s) (length tag) s.tag_size) _ _
        (λ b e h. absurd (suc-ne-zero b h)) (λ e h. refl)

    -- no ladder answers 7
    no_end : (a b : ℕ) → a ≡ suc b → a ≢ 7 → Ends (suc b) → ⊥
    no_end a b e n (inl z) = suc-ne-zero b z
    no_end a b e n (inr z) = n (e ∙ z)

    mac_finish_check_ends : (tag : List ℕ) → Ends (session.mac_finish_check C M s tag).answer → (session.mac_finish_check C M s tag).session ≡ ended C
    unfolding session.mac_finish_check
    mac_finish_check_ends tag =
        let a = answers.finish (live rate macing s) (length tag) s.tag_size in
        on_done-cases (λ (r : Handed S). Ends r.answer → r.session ≡ ended C) a _ _
        (λ b e h. absurd (no_end a b e (ladder.finish_not_7 (live rate macing s) (length tag) s.tag_size) h)) (λ e h. refl)

    open_finish_ends : (tag plain : List ℕ) → Ends (session.open_finish C s tag plain).answer → (session.open_finish C s tag plain).session ≡ ended C
    unfolding session.open_finish session.released
    open_finish_ends tag plain =
        let a = answers.open_finish (live rate opening s) (length plain) s.room (length tag) s.tag_size in
        on_done-cases (λ (r : Opened S). Ends r.answer → r.session ≡ ended C) a _ _
        (λ b e h. absurd (no_end a b e (ladder.open_finish_not_7 (live rate opening s) (length plain) s.room (length tag) s.tag_size) h))
        (λ e h. verdict (same tag (session_tag C s)))
      where
        verdict : (t : Bool) → (session.released C t s plain).session ≡ ended C
        verdict true = refl
        verdict false = refl

    abort_ends : (plain : List ℕ) → (session.abort C s plain).answer ≡ 0 → (session.abort C s plain).session ≡ ended C
    unfolding session.abort
    abort_ends plain =
        on_done-cases (λ (r : Wrote S). r.answer ≡ 0 → r.session ≡ ended C)
        (answers.abort (abort_live C s) (if_opening s (eqb (length plain) s.room) true)) _ _
        (λ b e h. absurd (suc-ne-zero b h)) (λ e h. refl)

  ends_as : {a b : ℕ} → a ≡ b → Ends a → Ends b
  ends_as e (inl z) = inl (sym e ∙ z)
  ends_as e (inr z) = inr (sym e ∙ z)

  pub ended_is_over : (s s' : Session S) (c : Made) → Met C M s c s' → Ended c → s' ≡ ended C
  ended_is_over s s' (seal_piece msg out a out') m z = absurd z
  ended_is_over s s' (seal_piece_in_place buf a buf') m z = absurd z
  ended_is_over s s' (open_piece ct plain a plain') m z = absurd z
  ended_is_over s s' (mac_piece data' a) m z = absurd z
  ended_is_over s s' (seal_finish tag a tag') m z =
      ap (λ (r : Wrote S). r.session) m ∙ seal_finish_ends s tag (sym (ap (λ (r : Wrote S). r.answer) m) ∙ z)
  ended_is_over s s' (open_finish tag plain a k plain') m z =
      ap (λ (r : Opened S). r.session) m ∙ open_finish_ends s tag plain (ends_as (ap (λ (r : Opened S). r.answer) m) z)
  ended_is_over s s' (mac_finish tag a tag') m z =
      ap (λ (r : Wrote S). r.session) m ∙ mac_finish_ends s tag (sym (ap (λ (r : Wrote S). r.answer) m) ∙ z)
  ended_is_over s s' (mac_finish_check tag a) m z =
      ap (λ (r : Handed S). r.session) m ∙ mac_finish_check_ends s tag (ends_as (ap (λ (r : Handed S). r.answer) m) z)
  ended_is_over s s' (abort plain a plain') m z =
      ap (λ (r : Wrote S). r.session) m ∙ abort_ends s plain (sym (ap (λ (r : Wrote S). r.answer) m) ∙ z)

  -- ---- of a session that is over every call answers 8, and nothing changes

  abbrev Eight : Made → Session S → Type 0
  Eight c s' = (answer_of c ≡ 8) × LeftAlone c × (s' ≡ ended C)

  over_alone : (s' : Session S) (c : Made) → Met C M (ended C) c s' → Eight c s'
  over_alone s' (seal_piece msg out a out') m =
      let e = m ∙ calls.seal_piece-over C (ended C) msg out (ended_not_live C sealing) in
      (ap (λ (r : Wrote S). r.answer) e, ap (λ (r : Wrote S). r.out) e, ap (λ (r : Wrote S). r.session) e)
  over_alone s' (seal_piece_in_place buf a buf') m =
      let e = m ∙ calls.seal_piece_in_place-over C (ended C) buf (ended_not_live C sealing) in
      (ap (λ (r : Wrote S). r.answer) e, ap (λ (r : Wrote S). r.out) e, ap (λ (r : Wrote S). r.session) e)
  over_alone s' (open_piece ct plain a plain') m =
      let e = m ∙ calls.open_piece-over C (ended C) ct plain (ended_not_live C opening) in
      (ap (λ (r : Wrote S). r.answer) e, ap (λ (r : Wrote S). r.out) e, ap (λ (r : Wrote S). r.session) e)
  over_alone s' (mac_piece data' a) m =
      let e = m ∙ calls.mac_piece-over C (ended C) data' (ended_not_live C macing) in
      (ap (λ (r : Handed S). r.answer) e, tt, ap (λ (r : Handed S). r.session) e)
  over_alone s' (seal_finish tag a tag') m =
      let e = m ∙ calls.seal_finish-over C (ended C) tag (ended_not_live C sealing) in
      (ap (λ (r : Wrote S). r.answer) e, ap (λ (r : Wrote S). r.out) e, ap (λ (r : Wrote S). r.session) e)
  over_alone s' (open_finish tag plain a k plain') m =
      let e = m ∙ calls.open_finish-over C (ended C) tag plain (ended_not_live C opening) in
      (ap (λ (r : Opened S). r.answer) e, (ap (λ (r : Opened S). r.out) e, ap (λ (r : Opened S). r.count) e), ap (λ (r : Opened S). r.session) e)
  over_alone s' (mac_finish tag a tag') m =
      let e = m ∙ calls.mac_finish-over C M (ended C) tag (ended_not_live C macing) in
      (ap (λ (r : Wrote S). r.answer) e, ap (λ (r : Wrote S). r.out) e, ap (λ (r : Wrote S). r.session) e)
  over_alone s' (mac_finish_check tag a) m =
      let e = m ∙ calls.mac_finish_check-over C M (ended C) tag (ended_not_live C macing) in
      (ap (λ (r : Handed S). r.answer) e, tt, ap (λ (r : Handed S). r.session) e)
  over_alone s' (abort plain a plain') m =
      let e = m ∙ calls.abort-over C (ended C) plain (ended_not_abortable C) in
      (ap (λ (r : Wrote S). r.answer) e, ap (λ (r : Wrote S). r.out) e, ap (λ (r : Wrote S). r.session) e)

  at-over : {s s' : Session S} (c : Made) → s ≡ ended C → Met C M s c s' → Eight c s'
  at-over {s} {s'} c e = subst (λ (x : Session S). Met C M x c s' → Eight c s') (sym e) (over_alone s' c)

  -- so behind an end
  pub stays-over : {s₀ s : Session S} {cs : Calls} → Trace C M s₀ cs s → Over cs → s ≡ ended C
  stays-over at_start z = elim z [ ]
  stays-over (made {s = s} {s' = s'} t c m) (inl o) = (at-over c (stays-over t o) m).2
  stays-over (made {s = s} {s' = s'} t c m) (inr z) = ended_is_over s s' c m z

  pub over_answers_8 : {s₀ s : Session S} {cs : Calls} {c : Made} → Trace C M s₀ (cs ▸ c) s → Over cs → (answer_of c ≡ 8) × LeftAlone c
  over_answers_8 (made t c m) o = let e = at-over c (stays-over t o) m in (e.0, e.1)
