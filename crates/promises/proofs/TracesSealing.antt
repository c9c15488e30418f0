-- A session that was started to seal, by what can be seen of its calls: at any time what was given is the definition's ciphertext of what was
-- taken; it goes on until a finish or an abort ends it; and its finish gives the one-shot's tag of all that was taken.
-- Assumes nothing.
use Prim.Native.Nat.{ℕ, ◌+◌, ◌≤◌}
use mathlib.Core.Path.{◌≡◌, refl, sym, ap, subst, ◌∙◌}
use mathlib.Core.Bool.{true, true≢false}
use mathlib.Core.Logic.{◌⊎◌, inl, inr, ◌≢◌}
use mathlib.Core.List.{List, []}
use native.Mathlib.Nat.{suc-ne-zero}
use native.Mathlib.Omega.{arith}
use lib.ListN.{length}
use Rattle.answers.specs.Answers as answers
use Rattle.answers.proofs.Answers.{StartOk, start_ok, ok_start, finish_ok}
use Rattle.promises.specs.Cipher.{Cipher, Mac}
use Rattle.promises.specs.Texts.{ciphertext, seal_tag}
use Rattle.promises.specs.SessionCalls.{Handed, Wrote, seal_start}
use Rattle.promises.specs.Session.{sealing, opening, Session, live, ended}
use Rattle.promises.specs.SessionCalls as session
use Rattle.promises.specs.Run.{World, Result, wrote, hands, seal_run}
use Rattle.promises.specs.Run as call
use Rattle.promises.specs.Trace.{Made, seal_piece, seal_piece_in_place, seal_finish, Calls, ◌▸◌, taken, given, Going, Met, Trace, SealSession}
use Rattle.promises.specs.Allowed.{Allowed}
use Rattle.promises.proofs.Texts.{ciphertext_injective, seal_tag-length}
use Rattle.promises.proofs.Forms.{SealedForm}
use Rattle.promises.proofs.SessionLive.{ended_not_live}
use Rattle.promises.proofs.SessionCalls.{on_done-cases}
use Rattle.promises.proofs.SessionAt.{session_at}
use Rattle.promises.proofs.RunsSealing.{SealLive, SealStands, seal_live_live, seal_run_stands, seal_run-piece, seal_run_piece_in_place, seal_run-finish}
use Rattle.promises.proofs.Traces.{IsRun, world, going_goes, trace_is_run_any, trace_before}

module _ {S : Type 0} (C : Cipher S) (M : Mac S) (key nonce ad : List ℕ) (n : ℕ) where
  open C use {size, machine}
  open machine use {rate}

  abbrev From : Calls → Type 0
  From cs = SealSession C M key nonce ad n cs

  -- ---- the start

  start_mark : (seal_start C key nonce ad n).session.mark ≢ opening
  unfolding seal_start ended session.started
  start_mark =
      on_done-cases (λ (r : Handed S). r.session.mark ≢ opening) (answers.start size n (length key) (length nonce) (length ad)) _ _
      (λ b e z. omega arith) (λ e z. omega arith)

  start_done : (seal_start C key nonce ad n).answer ≡ 0 → ((seal_start C key nonce ad n).session.mark ≡ sealing) × StartOk size n (length key) (length nonce) (length ad)
  unfolding seal_start session.started
  start_done =
      on_done-cases (λ (r : Handed S). r.answer ≡ 0 → (r.session.mark ≡ sealing) × StartOk size n (length key) (length nonce) (length ad))
      (answers.start size n (length key) (length nonce) (length ad)) _ _
      (λ b e h. absurd (suc-ne-zero b h)) (λ e h. (refl, start_ok e))

  -- with the right sizes it answers 0
  pub seal_session_starts : {cs : Calls} (t : From cs) → Allowed C key nonce ad n → t.started ≡ 0
  unfolding seal_start
  seal_session_starts t a =
      let goes : answers.start size n (length key) (length nonce) (length ad) ≡ 0 =
      ok_start (record { tag_size_ok = a.tag_size_ok; key_size = a.key_size; nonce_size = a.nonce_size; ad_fits = a.ad_fits }) in
      let answers_0 : (seal_start C key nonce ad n).answer ≡ 0 = rw goes in
      ap (λ (r : Handed S). r.answer) t.start_met ∙ answers_0

  first_is : {cs : Calls} (t : From cs) → t.first ≡ (seal_start C key nonce ad n).session
  first_is t = ap (λ (r : Handed S). r.session) t.start_met

  -- ---- the run

  at-end : {cs : Calls} (t : From cs) → IsRun C M (seal_start C key nonce ad n).session [] cs t.last []
  at-end {cs} t =
      trace_is_run_any C M [] start_mark (subst (λ (s : Session S). Trace C M s cs t.last) (first_is t) t.trace)

  seal_session_stands : {cs : Calls} (t : From cs) → SealStands C M key nonce ad n (world C M t.last [] cs)
  unfolding seal_run
  seal_session_stands {cs} t =
      subst (SealStands C M key nonce ad n) (at-end t).stands (seal_run_stands C M key nonce ad n [] (at-end t).run_of)

  -- ---- whatever was called: what was given is the ciphertext of what was taken

  pub seal_session_given : {cs : Calls} (t : From cs) → given cs ≡ ciphertext C key nonce ad (taken cs)
  seal_session_given t = (seal_session_stands t).given_is

  -- a live one holds what was taken
  lives : {cs : Calls} (t : From cs) → live rate sealing t.last ≡ true → SealLive C M key nonce ad n (world C M t.last [] cs)
  lives {cs} t l = go (seal_session_stands t).live_or_over
    where
      go : SealLive C M key nonce ad n (world C M t.last [] cs) ⊎ (t.last ≡ ended C) → SealLive C M key nonce ad n (world C M t.last [] cs)
      go (inl k) = k
      go (inr e) = absurd (true≢false (sym l ∙ ap (live rate sealing) e ∙ ended_not_live C sealing))

  -- ---- until a call has ended it, it is live

  module _ {cs : Calls} (t : From cs) (done : t.started ≡ 0) (going : Going cs) where
    pub still_live : SealLive C M key nonce ad n (world C M t.last [] cs)
    unfolding ended
    still_live = go (seal_session_stands t).live_or_over
      where
        mark : t.last.mark ≡ sealing
        mark =
            (going_goes C M t.trace going).0
            ∙ ap (λ (s : Session S). s.mark) (first_is t)
            ∙ (start_done (sym (ap (λ (r : Handed S). r.answer) t.start_met) ∙ done)).0

        go : SealLive C M key nonce ad n (world C M t.last [] cs) ⊎ (t.last ≡ ended C) → SealLive C M key nonce ad n (world C M t.last [] cs)
        go (inl l) = l
        go (inr e) = absurd (omega (arith, sym mark ∙ ap (λ (s : Session S). s.mark) e))

    pub seal_session_live : live rate sealing t.last ≡ true
    seal_session_live = seal_live_live C M key nonce ad n (world C M t.last [] cs) still_live

  abbrev pub before : {cs : Calls} {c : Made} (t : From (cs ▸ c)) → From cs
  before t = let b = trace_before C M t.trace in
      record { started = t.started; first = t.first; last = b.0; start_met = t.start_met; trace = b.1 }

  -- ---- a piece within the limit is accepted

  module _ {cs : Calls} (msg out : List ℕ) (a : ℕ) (out' : List ℕ) (t : From (cs ▸ seal_piece msg out a out')) (done : t.started ≡ 0) (going : Going cs)
      (fits : length (taken cs) + length msg ≤ answers.limit) where
    pub seal_session_piece : length msg ≡ length out → a ≡ 0
    unfolding seal_run hands
    seal_session_piece e =
        let i = at-end (before t) in
        ap (λ (r : Wrote S). r.answer) (trace_before C M t.trace).2
        ∙ subst (λ (w : World S). live rate sealing w.session ≡ true → length w.taken + length msg ≤ answers.limit → (hands C M w (call.seal_piece msg out)).answer ≡ 0) i.stands
        (λ l f. (seal_run-piece C M key nonce ad n [] i.run_of l msg f out e).answers) (seal_session_live (before t) done going) fits

  module _ {cs : Calls} (buf : List ℕ) (a : ℕ) (buf' : List ℕ) (t : From (cs ▸ seal_piece_in_place buf a buf')) (done : t.started ≡ 0) (going : Going cs)
      (fits : length (taken cs) + length buf ≤ answers.limit) where
    pub seal_session_piece_in_place : a ≡ 0
    unfolding seal_run hands
    seal_session_piece_in_place =
        let i = at-end (before t) in
        ap (λ (r : Wrote S). r.answer) (trace_before C M t.trace).2
        ∙ subst (λ (w : World S). live rate sealing w.session ≡ true → length w.taken + length buf ≤ answers.limit → (hands C M w (call.seal_piece_in_place buf)).answer ≡ 0) i.stands
        (λ l f. (seal_run_piece_in_place C M key nonce ad n [] i.run_of l buf f).answers) (seal_session_live (before t) done going) fits

  -- ---- the finish

  module _ {cs : Calls} (tag : List ℕ) (a : ℕ) (tag' : List ℕ) (t : From (cs ▸ seal_finish tag a tag')) where
    abbrev s : Session S
    s = (before t).last

    met : Met C M s (seal_finish tag a tag') t.last
    met = (trace_before C M t.trace).2

    finishes : live rate sealing s ≡ true → length tag ≡ n
        → ◌≡◌ {A = Result} (record { answer = a; count = 0; out = tag' }) (record { answer = 0; count = 0; out = seal_tag C key nonce ad (taken cs) n })
    unfolding seal_run hands
    finishes l e =
        let i = at-end (before t) in
        ap (wrote C M) met
        ∙ subst (λ (w : World S). live rate sealing w.session ≡ true → hands C M w (call.seal_finish tag) ≡ record { answer = 0; count = 0; out = seal_tag C key nonce ad w.taken n })
        i.stands (λ m. seal_run-finish C M key nonce ad n [] i.run_of m tag e) l

    -- answered 0, it had a live session and a tag buffer of its size
    was-live : a ≡ 0 → (live rate sealing s ≡ true) × (length tag ≡ s.tag_size)
    unfolding session.seal_finish
    was-live z =
        on_done-cases (λ (r : Wrote S). r.answer ≡ 0 → (live rate sealing s ≡ true) × (length tag ≡ s.tag_size))
        (answers.finish (live rate sealing s) (length tag) s.tag_size) _ _
        (λ b e h. absurd (suc-ne-zero b h)) (λ e h. ((finish_ok e).is_live, (finish_ok e).own_size))
        (sym (ap (λ (r : Wrote S). r.answer) met) ∙ z)

    pub seal_session_finishes : t.started ≡ 0 → Going cs → length tag ≡ n → (a ≡ 0) × (tag' ≡ seal_tag C key nonce ad (taken cs) n)
    seal_session_finishes done going e =
        let f = finishes (seal_session_live (before t) done going) e in
        (ap (λ (r : Result). r.answer) f, ap (λ (r : Result). r.out) f)

    -- with 0: what was given and the tag are the sealed form of what was taken, at the tag size of the start
    pub seal_session_form : a ≡ 0 → (length tag' ≡ n) × SealedForm C key nonce ad (taken cs) (given cs) tag'
    unfolding session_at
    seal_session_form z =
        let w = was-live z in
        let l = lives (before t) w.0 in
        let size_is : s.tag_size ≡ n = ap (λ (r : Session S). r.tag_size) l.session_is in
        let tag_is : tag' ≡ seal_tag C key nonce ad (taken cs) n = ap (λ (r : Result). r.out) (finishes w.0 (w.1 ∙ size_is)) in
        let long : length tag' ≡ n = ap length tag_is ∙ seal_tag-length C key nonce ad (taken cs) n l.sizes.tag_size_ok in (
          long,
          record {
            within = l.within;
            text = seal_session_given (before t);
            tagged = tag_is ∙ ap (seal_tag C key nonce ad (taken cs)) (sym long);
          },
        )

  -- ---- two sessions

  -- that took the same bytes gave the same ciphertext and the same tag, however these were cut
  module _ {cs ds : Calls} (tag : List ℕ) (a : ℕ) (tag' : List ℕ) (tag₂ : List ℕ) (a₂ : ℕ) (tag₂' : List ℕ)
      (t : From (cs ▸ seal_finish tag a tag')) (u : From (ds ▸ seal_finish tag₂ a₂ tag₂')) (z : a ≡ 0) (z₂ : a₂ ≡ 0) where
    pub seal_sessions_agree : taken cs ≡ taken ds → (given cs ≡ given ds) × (tag' ≡ tag₂')
    seal_sessions_agree e =
        let f = seal_session_form tag a tag' t z in
        let g = seal_session_form tag₂ a₂ tag₂' u z₂ in (
          f.1.text ∙ ap (ciphertext C key nonce ad) e ∙ sym g.1.text,
          f.1.tagged ∙ (λ i. seal_tag C key nonce ad (e i) ((f.0 ∙ sym g.0) i)) ∙ sym g.1.tagged,
        )

  -- that took different bytes gave different ciphertexts
  pub seal_sessions_differ : {cs ds : Calls} (t : From cs) (u : From ds) → taken cs ≢ taken ds → given cs ≢ given ds
  seal_sessions_differ {cs} {ds} t u d e =
      d (ciphertext_injective C key nonce ad (taken cs) (taken ds) (sym (seal_session_given t) ∙ e ∙ seal_session_given u))
