-- A session that was started for a MAC, by what can be seen of its calls: its finish gives the one-shot's tag of all that was taken, and its
-- check answers as the one-shot's.
-- Assumes nothing.
use Prim.Native.Nat.{ℕ}
use mathlib.Core.Path.{◌≡◌, refl, sym, ap, subst, ◌∙◌}
use mathlib.Core.Bool.{true}
use mathlib.Core.Logic.{◌⊎◌, inl, inr, ◌≢◌}
use mathlib.Core.List.{List, []}
use native.Mathlib.Nat.{suc-ne-zero}
use native.Mathlib.Omega.{arith}
use lib.ListN.{length}
use Rattle.answers.specs.Answers as answers
use Rattle.answers.proofs.Answers.{ok_mac_start}
use Rattle.promises.specs.Cipher.{Cipher, Mac}
use Rattle.promises.specs.Allowed.{Allowed}
use Rattle.promises.specs.Texts.{mac_tag}
use Rattle.promises.specs.OneShot.{Left, mac_of, mac_check_of}
use Rattle.promises.specs.SessionCalls.{Handed, mac_start}
use Rattle.promises.specs.Session.{macing, opening, Session, live, ended}
use Rattle.promises.specs.SessionCalls as session
use Rattle.promises.specs.Met.{MacMet, MacCheckMet}
use Rattle.promises.specs.Run.{World, Result, wrote, hands, mac_run}
use Rattle.promises.specs.Run as call
use Rattle.promises.specs.Trace.{Made, mac_finish, mac_finish_check, Calls, ◌▸◌, taken, Going, Trace, MacSession}
use Rattle.promises.proofs.SessionCalls.{on_done-cases}
use Rattle.promises.proofs.RunsMac as mac
use Rattle.promises.proofs.RunsMac.{MacLive, MacStands, mac_live_live, mac_run_stands}
use Rattle.promises.proofs.Traces.{IsRun, world, going_goes, trace_is_run_any, trace_before}

module _ {S : Type 0} (C : Cipher S) (M : Mac S) (key nonce : List ℕ) (n : ℕ) where
  open C use {size, machine}
  open machine use {rate}

  abbrev From : Calls → Type 0
  From cs = MacSession C M key nonce n cs

  start_mark : (mac_start C key nonce n).session.mark ≢ opening
  unfolding mac_start ended session.started
  start_mark =
      on_done-cases (λ (r : Handed S). r.session.mark ≢ opening) (answers.mac_start size n (length key) (length nonce)) _ _
      (λ b e z. omega arith) (λ e z. omega arith)

  -- with the right sizes it answers 0
  pub mac_session_starts : {cs : Calls} (t : From cs) → Allowed C key nonce [] n → t.started ≡ 0
  unfolding mac_start
  mac_session_starts t a =
      let goes : answers.mac_start size n (length key) (length nonce) ≡ 0 =
      ok_mac_start (record { tag_size_ok = a.tag_size_ok; key_size = a.key_size; nonce_size = a.nonce_size }) in
      let answers_0 : (mac_start C key nonce n).answer ≡ 0 = rw goes in
      ap (λ (r : Handed S). r.answer) t.start_met ∙ answers_0

  start_done : (mac_start C key nonce n).answer ≡ 0 → (mac_start C key nonce n).session.mark ≡ macing
  unfolding mac_start session.started
  start_done =
      on_done-cases (λ (r : Handed S). r.answer ≡ 0 → r.session.mark ≡ macing) (answers.mac_start size n (length key) (length nonce)) _ _
      (λ b e h. absurd (suc-ne-zero b h)) (λ e h. refl)

  first_is : {cs : Calls} (t : From cs) → t.first ≡ (mac_start C key nonce n).session
  first_is t = ap (λ (r : Handed S). r.session) t.start_met

  at-end : {cs : Calls} (t : From cs) → IsRun C M (mac_start C key nonce n).session [] cs t.last []
  at-end {cs} t = trace_is_run_any C M [] start_mark (subst (λ (s : Session S). Trace C M s cs t.last) (first_is t) t.trace)

  -- until a call has ended it, it is live
  module _ {cs : Calls} (t : From cs) (done : t.started ≡ 0) (going : Going cs) where
    pub still_live : MacLive C M key nonce n (world C M t.last [] cs)
    unfolding ended mac_run
    still_live = go (subst (MacStands C M key nonce n) (at-end t).stands (mac_run_stands C M key nonce n [] (at-end t).run_of))
      where
        mark : t.last.mark ≡ macing
        mark =
            (going_goes C M t.trace going).0
            ∙ ap (λ (s : Session S). s.mark) (first_is t)
            ∙ start_done (sym (ap (λ (r : Handed S). r.answer) t.start_met) ∙ done)

        go : MacLive C M key nonce n (world C M t.last [] cs) ⊎ (t.last ≡ ended C) → MacLive C M key nonce n (world C M t.last [] cs)
        go (inl l) = l
        go (inr e) = absurd (omega (arith, sym mark ∙ ap (λ (s : Session S). s.mark) e))

    pub mac_session_live : live rate macing t.last ≡ true
    mac_session_live = mac_live_live C M key nonce n (world C M t.last [] cs) still_live

  abbrev pub before : {cs : Calls} {c : Made} (t : From (cs ▸ c)) → From cs
  before t = let b = trace_before C M t.trace in
      record { started = t.started; first = t.first; last = b.0; start_met = t.start_met; trace = b.1 }

  -- the finish of a live session with its own tag size, and the one-shot on the joined data
  module _ {cs : Calls} (tag : List ℕ) (a : ℕ) (tag' : List ℕ) (t : From (cs ▸ mac_finish tag a tag')) where
    pub mac_session_finishes : t.started ≡ 0 → Going cs → length tag ≡ n
        → (a ≡ 0) × (tag' ≡ mac_tag C M key nonce (taken cs) n)
        × ((tag_buf : List ℕ) (r : ℕ) (tag_buf' : List ℕ) → MacMet C M key nonce (taken cs) tag_buf r tag_buf' → length tag_buf ≡ n → (r ≡ a) × (tag_buf' ≡ tag'))
    unfolding mac_run hands
    mac_session_finishes done going e =
        let i = at-end (before t) in
        let l = mac_session_live (before t) done going in
        let f : ◌≡◌ {A = Result} (record { answer = a; count = 0; out = tag' }) (record { answer = 0; count = 0; out = mac_tag C M key nonce (taken cs) n }) =
        ap (wrote C M) (trace_before C M t.trace).2
        ∙ subst (λ (w : World S). live rate macing w.session ≡ true → hands C M w (call.mac_finish tag) ≡ record { answer = 0; count = 0; out = mac_tag C M key nonce w.taken n })
        i.stands (λ m. mac.mac_run-finish C M key nonce n [] i.run_of m tag e) l in
        let zero = ap (λ (r : Result). r.answer) f in
        let tag_is = ap (λ (r : Result). r.out) f in (
          zero,
          tag_is,
          λ tag_buf r tag_buf' m size.
              let shot = m ∙ subst (λ (w : World S). live rate macing w.session ≡ true
              → mac_of C M key nonce w.taken tag_buf ≡ record { answer = 0; out = mac_tag C M key nonce w.taken n })
              i.stands (λ k. mac.mac_run-one_shot C M key nonce n [] i.run_of k tag_buf size
              ∙ ap (λ (r : Result). record { answer = 0; out = r.out }) (mac.mac_run-finish C M key nonce n [] i.run_of k tag_buf size)) l in
              (ap (λ (x : Left). x.answer) shot ∙ sym zero, ap (λ (x : Left). x.out) shot ∙ sym tag_is),
        )

  -- and its check
  module _ {cs : Calls} (tag : List ℕ) (a : ℕ) (t : From (cs ▸ mac_finish_check tag a)) where
    pub mac_session_checks : t.started ≡ 0 → Going cs → length tag ≡ n → (r : ℕ) → MacCheckMet C M key nonce (taken cs) tag r → a ≡ r
    unfolding mac_run hands
    mac_session_checks done going e r m =
        let i = at-end (before t) in
        ap (λ (x : Handed S). x.answer) (trace_before C M t.trace).2
        ∙ subst (λ (w : World S). live rate macing w.session ≡ true → (hands C M w (call.mac_finish_check tag)).answer ≡ mac_check_of C M key nonce w.taken tag)
        i.stands (λ l. mac.mac_run_check_one_shot C M key nonce n [] i.run_of l tag e) (mac_session_live (before t) done going)
        ∙ sym m
