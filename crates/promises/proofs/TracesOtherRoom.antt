-- An opening that was started with another room than its buffer's length: each call that takes the buffer answers 10, each other call 8, and
-- nothing is ever changed.
-- Assumes nothing.
use Prim.Native.Nat.{ℕ}
use mathlib.Core.Path.{◌≡◌, refl, sym, ap, subst, ◌∙◌}
use mathlib.Core.Bool.{Bool, true, false}
use mathlib.Core.Logic.{inl, inr, ◌≢◌}
use mathlib.Core.List.{List}
use native.Mathlib.Omega.{arith}
use lib.Dec.{lit≤}
use lib.ListN.{length, length-replicate}
use borrow.Author.Tests.{eq-eqb, ne_eqb}
use Rattle.machine.specs.Bytes.{zeros}
use Rattle.answers.specs.Answers as answers
use Rattle.promises.specs.Cipher.{Cipher, Mac}
use Rattle.promises.specs.SessionCalls.{Handed, Wrote, Opened}
use Rattle.promises.specs.Session.{sealing, opening, macing, live, abort_live, Session}
use Rattle.promises.specs.SessionCalls as session
use Rattle.promises.specs.Met.{OpenStartMet}
use Rattle.promises.specs.Trace.{Made, seal_piece, seal_piece_in_place, open_piece, mac_piece, seal_finish, open_finish, mac_finish, mac_finish_check, abort}
use Rattle.promises.specs.Trace.{Calls, none, ◌▸◌, answer_of, LeftAlone, Going, Ended, Met, Trace, at_start, made}
use Rattle.promises.specs.Trace.{Keeps, OneBuffer, at_first, kept, LentOther, AllLentOther, AnswersOther, OpenSession}
use Rattle.promises.proofs.SessionLive.{live_facts, one_kind, facts_abort_live}
use Rattle.promises.proofs.SessionCalls as calls
use Rattle.promises.proofs.MadeCalls.{refused_alone}
use Rattle.promises.proofs.TracesOpening.{open_session_live}

module _ {S : Type 0} (C : Cipher S) (M : Mac S) where
  open C use {machine}
  open machine use {rate}

  -- ---- one call on a live opening

  module _ (s : Session S) (l : live rate opening s ≡ true) where
    not_live : (kind : ℕ) → kind ≢ opening → live rate kind s ≡ false
    not_live kind different = go (live rate kind s) refl
      where
        go : (b : Bool) → live rate kind s ≡ b → b ≡ false
        go true e = absurd (different (one_kind rate s kind opening e l))
        go false e = refl

    module _ (plain : List ℕ) (other : length plain ≢ s.room) where
      open_piece-other : (ct : List ℕ) → (session.open_piece C s ct plain).answer ≡ 10
      unfolding session.open_piece answers.open_piece
      open_piece-other ct = rw (l, ne_eqb (length plain) s.room other)

      open_finish-other : (tag : List ℕ) → (session.open_finish C s tag plain).answer ≡ 10
      unfolding session.open_finish answers.open_finish
      open_finish-other tag = rw (l, ne_eqb (length plain) s.room other)

      abort-other : (session.abort C s plain).answer ≡ 10
      unfolding session.abort answers.abort
      abort-other =
          let f = live_facts rate s opening l in
          let is : abort_live C s ≡ true = facts_abort_live C s (rw f.kind_is (lit≤ tt)) f.formed in
          rw (is, eq-eqb s.mark opening f.kind_is, ne_eqb (length plain) s.room other)

    answers_other : (s' : Session S) (c : Made) → Met C M s c s' → LentOther s.room c → AnswersOther c
    answers_other s' (seal_piece msg out a out') m o =
        ap (λ (r : Wrote S). r.answer) (m ∙ calls.seal_piece-over C s msg out (not_live sealing (λ e. omega arith)))
    answers_other s' (seal_piece_in_place buf a buf') m o =
        ap (λ (r : Wrote S). r.answer) (m ∙ calls.seal_piece_in_place-over C s buf (not_live sealing (λ e. omega arith)))
    answers_other s' (open_piece ct plain a plain') m o = ap (λ (r : Wrote S). r.answer) m ∙ open_piece-other plain o ct
    answers_other s' (mac_piece data' a) m o = ap (λ (r : Handed S). r.answer) (m ∙ calls.mac_piece-over C s data' (not_live macing (λ e. omega arith)))
    answers_other s' (seal_finish tag a tag') m o =
        ap (λ (r : Wrote S). r.answer) (m ∙ calls.seal_finish-over C s tag (not_live sealing (λ e. omega arith)))
    answers_other s' (open_finish tag plain a k plain') m o = ap (λ (r : Opened S). r.answer) m ∙ open_finish-other plain o tag
    answers_other s' (mac_finish tag a tag') m o =
        ap (λ (r : Wrote S). r.answer) (m ∙ calls.mac_finish-over C M s tag (not_live macing (λ e. omega arith)))
    answers_other s' (mac_finish_check tag a) m o =
        ap (λ (r : Handed S). r.answer) (m ∙ calls.mac_finish_check-over C M s tag (not_live macing (λ e. omega arith)))
    answers_other s' (abort plain a plain') m o = ap (λ (r : Wrote S). r.answer) m ∙ abort-other plain o

  -- such an answer is a refusal
  refusal : (c : Made) → AnswersOther c → (answer_of c ≢ 0) × (answer_of c ≢ 7)
  refusal (seal_piece msg out a out') e = ((λ z. omega (arith, sym e ∙ z)), λ z. omega (arith, sym e ∙ z))
  refusal (seal_piece_in_place buf a buf') e = ((λ z. omega (arith, sym e ∙ z)), λ z. omega (arith, sym e ∙ z))
  refusal (open_piece ct plain a plain') e = ((λ z. omega (arith, sym e ∙ z)), λ z. omega (arith, sym e ∙ z))
  refusal (mac_piece data' a) e = ((λ z. omega (arith, sym e ∙ z)), λ z. omega (arith, sym e ∙ z))
  refusal (seal_finish tag a tag') e = ((λ z. omega (arith, sym e ∙ z)), λ z. omega (arith, sym e ∙ z))
  refusal (open_finish tag plain a k plain') e = ((λ z. omega (arith, sym e ∙ z)), λ z. omega (arith, sym e ∙ z))
  refusal (mac_finish tag a tag') e = ((λ z. omega (arith, sym e ∙ z)), λ z. omega (arith, sym e ∙ z))
  refusal (mac_finish_check tag a) e = ((λ z. omega (arith, sym e ∙ z)), λ z. omega (arith, sym e ∙ z))
  refusal (abort plain a plain') e = ((λ z. omega (arith, sym e ∙ z)), λ z. omega (arith, sym e ∙ z))

  -- and ends nothing
  ends_nothing : (c : Made) → answer_of c ≢ 0 → answer_of c ≢ 7 → Ended c → ⊥
  ends_nothing (seal_piece msg out a out') z n e = e
  ends_nothing (seal_piece_in_place buf a buf') z n e = e
  ends_nothing (open_piece ct plain a plain') z n e = e
  ends_nothing (mac_piece data' a) z n e = e
  ends_nothing (seal_finish tag a tag') z n e = z e
  ends_nothing (open_finish tag plain a k plain') z n (inl e) = z e
  ends_nothing (open_finish tag plain a k plain') z n (inr e) = n e
  ends_nothing (mac_finish tag a tag') z n e = z e
  ends_nothing (mac_finish_check tag a) z n (inl e) = z e
  ends_nothing (mac_finish_check tag a) z n (inr e) = n e
  ends_nothing (abort plain a plain') z n e = z e

  -- ---- all calls: the buffer that was meant, of `room` bytes, is never lent

  module _ (key nonce ad : List ℕ) (n room : ℕ) (first : Session S) (start : OpenStartMet C key nonce ad n room 0 first) where
    meant : List ℕ
    meant = zeros room

    long : length meant ≡ room
    unfolding meant
    long = length-replicate room 0

    keeps : (c : Made) → LentOther room c → Keeps (length meant) meant c meant
    keeps (seal_piece msg out a out') o = refl
    keeps (seal_piece_in_place buf a buf') o = refl
    keeps (open_piece ct plain a plain') o = inr ((λ e. o (e ∙ long)), refl)
    keeps (mac_piece data' a) o = refl
    keeps (seal_finish tag a tag') o = refl
    keeps (open_finish tag plain a k plain') o = inr ((λ e. o (e ∙ long)), refl)
    keeps (mac_finish tag a tag') o = refl
    keeps (mac_finish_check tag a) o = refl
    keeps (abort plain a plain') o = inr ((λ e. o (e ∙ long)), refl)

    one : (cs : Calls) → AllLentOther room cs → OneBuffer meant cs meant
    one none o = at_first
    one (cs ▸ c) o = kept (one cs o.0) c (keeps c o.1)

    session_of : {cs : Calls} {s : Session S} → Trace C M first cs s → AllLentOther room cs → OpenSession C M key nonce ad n meant cs meant
    session_of {cs} {s} t o = record {
      started = 0;
      first = first;
      last = s;
      start_met = subst (λ (k : ℕ). OpenStartMet C key nonce ad n k 0 first) (sym long) start;
      trace = t;
      buffer = one cs o;
    }

    last_answers : {cs : Calls} {s : Session S} (s' : Session S) (c : Made) → Trace C M first cs s → Going cs → Met C M s c s' → AllLentOther room (cs ▸ c)
        → AnswersOther c
    unfolding session_of
    last_answers {cs} {s} s' c t g m o =
        let l = open_session_live C M key nonce ad n meant (session_of t o.0) refl g in
        answers_other s l.0 s' c m (subst (λ (k : ℕ). LentOther k c) (sym (l.1 ∙ long)) o.1)

    -- it goes on
    goes_on : {cs : Calls} {s : Session S} → Trace C M first cs s → AllLentOther room cs → Going cs
    goes_on at_start o = tt
    goes_on (made {s' = s'} t c m) o =
        let g = goes_on t o.0 in
        let r = refusal c (last_answers s' c t g m o) in
        (g, ends_nothing c r.0 r.1)

    pub other_room_answers : {cs : Calls} {c : Made} {s : Session S} → Trace C M first (cs ▸ c) s → AllLentOther room (cs ▸ c) → AnswersOther c × LeftAlone c
    other_room_answers (made {s = s} {s' = s'} t c m) o =
        let a = last_answers s' c t (goes_on t o.0) m o in
        let r = refusal c a in
        (a, (refused_alone C M s s' c m r.0 r.1).0)
