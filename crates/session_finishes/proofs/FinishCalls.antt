-- Finishes and aborts: what a ladder that answers 0 lets the work ask, and what makes a call's outcome the promised one. `l` is what the
-- code found of the session, `a` the answer that it then came to, `g` what it hands back of a session that is over.
-- Assumes nothing.
use Prim.Native.Nat.{ℕ, ◌≤◌}
use native.Mathlib.Omega.{arith}
use mathlib.Core.Path.{◌≡◌, refl, sym, ap, ◌∙◌}
use mathlib.Core.Bool.{Bool, true, false, true≢false}
use mathlib.Core.List.{List}
use lib.ListN.{length}
use lib.Dec.{eqb}
use borrow.Author.Tests.{eqb-true, eq-eqb}
use Rattle.machine.specs.Bytes.{zeros}
use Rattle.answers.specs.Answers as answers
use Rattle.answers.proofs.Answers.{FinishOk, OpenFinishOk, AbortOk, finish_ok, open_finish_ok, abort_ok}
use Rattle.lent.specs.Lent.{same, wiped}
use Rattle.lent.proofs.Wiped.{wiped-fits}
use Rattle.promises.specs.Cipher.{Cipher}
use Rattle.promises.specs.Texts.{onto}
use Rattle.promises.specs.SessionCalls.{Handed, Wrote, Opened}
use Rattle.promises.specs.Session.{pick, opening, Session, if_opening, well_formed, live, ended, abort_live}
use Rattle.promises.specs.SessionCalls.{released, open_finish, abort}
use Rattle.promises.specs.Session.{session_tag}
use Rattle.promises.proofs.SessionLive.{live_facts, opening_facts, abort_live_facts}
use Rattle.promises.proofs.Ladder.{does}
use Rattle.promises.proofs.Onto.{onto-zeros}
use Rattle.session.proofs.LiveFacts.{live_formed}

module _ {S : Type 0} (C : Cipher S) where
  open C use {machine}
  open machine use {rate}

  -- what a call hands back of a session that it ends
  abbrev Over : Handed S → ℕ → Type 0
  Over g a = g ≡ record { answer = a; session = ended C }

  -- ---- a finish of any kind: what its work asks

  module _ (kind : ℕ) (s : Session S) (tag : List ℕ) (l : Bool) (a : ℕ)
      (is_live : l ≡ live rate kind s) (answer : a ≡ answers.finish l (length tag) s.tag_size) where
    ladder : a ≡ answers.finish (live rate kind s) (length tag) s.tag_size
    ladder = answer ∙ ap (λ (k : Bool). answers.finish k (length tag) s.tag_size) is_live

    pub finish-asks : a ≡ 0 → (well_formed rate s ≡ true) × (length tag ≡ s.tag_size)
    finish-asks h =
        let o : FinishOk (live rate kind s) (length tag) s.tag_size = finish_ok (sym ladder ∙ h) in
        (live_formed C s kind o.is_live, o.own_size)

  -- ---- what an opener erases

  erasing : (t : Bool) (n : ℕ) (plain : List ℕ) → (t ≡ true → n ≤ length plain) → pick t (wiped n 0 plain) plain ≡ pick t (onto (zeros n) plain) plain
  erasing true n plain h = wiped-fits n 0 plain (h refl) ∙ sym (onto-zeros n plain)
  erasing false n plain h = refl

  -- ---- opening

  module _ (s : Session S) (tag plain : List ℕ) (l : Bool) (a : ℕ)
      (is_live : l ≡ live rate opening s)
      (answer : a ≡ answers.open_finish l (length plain) s.room (length tag) s.tag_size) where
    open_ladder : a ≡ answers.open_finish (live rate opening s) (length plain) s.room (length tag) s.tag_size
    open_ladder = answer ∙ ap (λ (k : Bool). answers.open_finish k (length plain) s.room (length tag) s.tag_size) is_live

    open_ok : a ≡ 0 → OpenFinishOk (live rate opening s) (length plain) s.room (length tag) s.tag_size
    open_ok h = open_finish_ok (sym open_ladder ∙ h)

    module _ (h : a ≡ 0) where
      pub open_asks : (well_formed rate s ≡ true) × (length tag ≡ s.tag_size)
      open_asks = (live_formed C s opening (open_ok h).is_live, (open_ok h).own_size)

      -- what was written lies in the buffer
      open_within : s.written ≤ length plain
      open_within = let f = opening_facts rate s (open_ok h).is_live in omega (arith, f.within_room, (open_ok h).same_buffer)

      module _ (m : Bool) (verdict : m ≡ same tag (session_tag C s)) (t : Session S) (over : t ≡ ended C) where
        pub open_erased : m ≡ false → (o : List ℕ) → o ≡ if_opening s (wiped s.written 0 plain) plain
            → ◌≡◌ {A = Opened S} (record { answer = 7; count = 0; session = t; out = o }) (open_finish C s tag plain)
        unfolding open_finish released
        open_erased e o eo =
            let k : eqb s.mark opening ≡ true = eq-eqb s.mark opening (live_facts rate s opening (open_ok h).is_live).kind_is in
            let w : o ≡ onto (zeros s.written) plain
            = eo ∙ erasing (eqb s.mark opening) s.written plain (λ _. open_within) ∙ ap (λ (x : Bool). pick x (onto (zeros s.written) plain) plain) k in
            does _ a _ _ _ open_ladder h
            ((λ k. record { answer = 7; count = 0; session = over k; out = w k }) ∙ ap (λ (v : Bool). released C v s plain) (sym e ∙ verdict))

  -- ---- abort

  -- of an opener the lent buffer has what was written
  picked : (t x : Bool) → pick t x true ≡ true → t ≡ true → x ≡ true
  picked true x h e = h
  picked false x h e = absurd (true≢false (sym e))

  module _ (s : Session S) (plain : List ℕ) (l same_buffer : Bool) (a : ℕ)
      (is_live : l ≡ abort_live C s) (is_lent : same_buffer ≡ if_opening s (eqb (length plain) s.room) true)
      (answer : a ≡ answers.abort l same_buffer) where
    abort-ladder : a ≡ answers.abort (abort_live C s) (if_opening s (eqb (length plain) s.room) true)
    abort-ladder = answer ∙ (λ k. answers.abort (is_live k) (is_lent k))

    module _ (h : a ≡ 0) where
      abort_within : eqb s.mark opening ≡ true → s.written ≤ length plain
      abort_within e =
          let o : AbortOk (abort_live C s) (if_opening s (eqb (length plain) s.room) true) = abort_ok (sym abort-ladder ∙ h) in
          let f = (abort_live_facts C s o.is_live).1.where_opening (eqb-true s.mark opening e) in
          let b : length plain ≡ s.room = eqb-true (length plain) s.room (picked _ (eqb (length plain) s.room) o.is_lent e) in
          omega (arith, f.within_room)

      pub abort_done : (g : Handed S) (o : List ℕ) → Over g 0 → o ≡ if_opening s (wiped s.written 0 plain) plain
          → ◌≡◌ {A = Wrote S} (record { answer = g.answer; session = g.session; out = o }) (abort C s plain)
      unfolding abort
      abort_done g o eg eo =
          let w = eo ∙ erasing (eqb s.mark opening) s.written plain abort_within in
          does _ a _ _ _ abort-ladder h (λ k. record { answer = (eg k).answer; session = (eg k).session; out = w k })
