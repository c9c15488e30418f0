-- A session that was started to open into one buffer, by what can be seen of its calls: the buffer starts with the definition's plaintext of
-- what was taken; a finish answers as the one-shot does on all that was taken, 0 exactly to a sealed form; after a wrong tag or an abort
-- every byte that was written is 0, whatever is called later.
-- Assumes nothing.
use Prim.Native.Nat.{ℕ, ◌+◌, ◌≤◌}
use mathlib.Core.Path.{◌≡◌, refl, sym, ap, subst, ◌∙◌}
use mathlib.Core.Bool.{true}
use mathlib.Core.Logic.{inl, inr, ◌↔◌}
use mathlib.Core.List.{List, ◌++◌}
use native.Mathlib.Nat.{suc-ne-zero}
use native.Mathlib.Omega.{arith}
use lib.ListN.{length, take}
use Rattle.answers.specs.Answers as answers
use Rattle.answers.proofs.Answers.{ok_start}
use Rattle.promises.specs.Cipher.{Cipher, Mac}
use Rattle.promises.specs.Texts.{onto, ciphertext, plaintext, seal_tag}
use Rattle.promises.specs.OneShot.{Left, open_of}
use Rattle.promises.specs.SessionCalls.{Handed, Wrote, Opened, open_start}
use Rattle.promises.specs.Session.{opening, Session, live, ended}
use Rattle.promises.specs.SessionCalls as session
use Rattle.promises.specs.Met.{OpenMet}
use Rattle.promises.specs.Run.{Call, World, Result, counted, hands, open_run}
use Rattle.promises.specs.Run as call
use Rattle.promises.specs.Trace.{Made, open_piece, open_finish}
use Rattle.promises.specs.Trace.{Calls, ◌▸◌, counts, taken, Going, Lent, Met, Trace, OpenSession}
use Rattle.promises.specs.Allowed.{Allowed}
use Rattle.promises.proofs.Texts.{plaintext-length, ciphertext-length, seal_tag-length}
use Rattle.promises.proofs.Onto.{take-onto}
use Rattle.promises.proofs.Forms.{SealedForm}
use Rattle.promises.proofs.SessionCalls.{on_done-cases, Ends}
use Rattle.promises.proofs.RunsOpening.{OpenLive, OpenStands, going, released, erased_all, open_live_live, open_run_stands, open_run-piece}
use Rattle.promises.proofs.RunsVerdict as verdict
use Rattle.promises.proofs.Traces.{IsRun, world, goes, going_goes, opener}
use Rattle.promises.proofs.Traces.{open_piece-lent, open_finish-lent, trace_is_run, trace_before, buffer_before}

module _ {S : Type 0} (C : Cipher S) (M : Mac S) (key nonce ad : List ℕ) (n : ℕ) (p₀ : List ℕ) where
  open C use {size, machine}
  open machine use {rate}

  abbrev From : Calls → List ℕ → Type 0
  From cs p = OpenSession C M key nonce ad n p₀ cs p

  abbrev pub start : Handed S
  start = open_start C key nonce ad n (length p₀)

  -- ---- the start

  pub start_room : start.session.mark ≡ opening → start.session.room ≡ length p₀
  unfolding open_start ended session.started
  start_room =
      on_done-cases (λ (r : Handed S). r.session.mark ≡ opening → r.session.room ≡ length p₀)
      (answers.start size n (length key) (length nonce) (length ad)) _ _
      (λ b e z. absurd (omega (arith, z))) (λ e z. refl)

  start_done : start.answer ≡ 0 → start.session.mark ≡ opening
  unfolding open_start session.started
  start_done =
      on_done-cases (λ (r : Handed S). r.answer ≡ 0 → r.session.mark ≡ opening)
      (answers.start size n (length key) (length nonce) (length ad)) _ _
      (λ b e h. absurd (suc-ne-zero b h)) (λ e h. refl)

  -- with the right sizes it answers 0
  pub open_session_starts : {cs : Calls} {p : List ℕ} (t : From cs p) → Allowed C key nonce ad n → t.started ≡ 0
  unfolding open_start
  open_session_starts t a =
      let goes : answers.start size n (length key) (length nonce) (length ad) ≡ 0 =
      ok_start (record { tag_size_ok = a.tag_size_ok; key_size = a.key_size; nonce_size = a.nonce_size; ad_fits = a.ad_fits }) in
      let answers_0 : (open_start C key nonce ad n (length p₀)).answer ≡ 0 = rw goes in
      ap (λ (r : Handed S). r.answer) t.start_met ∙ answers_0

  first_is : {cs : Calls} {p : List ℕ} (t : From cs p) → t.first ≡ start.session
  first_is t = ap (λ (r : Handed S). r.session) t.start_met

  pub from_start : {cs : Calls} {p : List ℕ} (t : From cs p) → Trace C M start.session cs t.last
  from_start {cs} t = subst (λ (s : Session S). Trace C M s cs t.last) (first_is t) t.trace

  -- ---- the run

  pub at-end : {cs : Calls} {p : List ℕ} (t : From cs p) → IsRun C M start.session p₀ cs t.last p
  at-end t = trace_is_run C M start_room (from_start t) t.buffer

  pub run_is : {cs : Calls} {s : Session S} {p : List ℕ} (i : IsRun C M start.session p₀ cs s p) → open_run C M key nonce ad n p₀ i.run_of ≡ world C M s p cs
  unfolding open_run
  run_is i = i.stands

  -- a session of the opening kind is live, and holds what was taken
  lives : {cs : Calls} {s : Session S} {p : List ℕ} (i : IsRun C M start.session p₀ cs s p) → s.mark ≡ opening → OpenLive C M key nonce ad n p₀ (world C M s p cs)
  unfolding ended
  lives {cs} {s} {p} i o =
      go (subst (OpenStands C M key nonce ad n p₀ i.run_of) (run_is i) (open_run_stands C M key nonce ad n p₀ i.run_of))
    where
      over : s ≡ ended C → ⊥
      over e = omega (arith, sym o ∙ ap (λ (t : Session S). t.mark) e)

      go : OpenStands C M key nonce ad n p₀ i.run_of (world C M s p cs) → OpenLive C M key nonce ad n p₀ (world C M s p cs)
      go (going l) = l
      go (released e r q) = absurd (over e)
      go (erased_all e q) = absurd (over e)

  -- until a call has ended it, it is of that kind
  still_opening : {cs : Calls} {p : List ℕ} (t : From cs p) → t.started ≡ 0 → Going cs → t.last.mark ≡ opening
  still_opening t done g =
      (going_goes C M t.trace g).0
      ∙ ap (λ (s : Session S). s.mark) (first_is t)
      ∙ start_done (sym (ap (λ (r : Handed S). r.answer) t.start_met) ∙ done)

  pub still_live : {cs : Calls} {p : List ℕ} (t : From cs p) → t.started ≡ 0 → Going cs → OpenLive C M key nonce ad n p₀ (world C M t.last p cs)
  still_live t done g = lives (at-end t) (still_opening t done g)

  -- and live, with the room of its start
  pub open_session_live : {cs : Calls} {p : List ℕ} (t : From cs p) → t.started ≡ 0 → Going cs
      → (live rate opening t.last ≡ true) × (t.last.room ≡ length p₀)
  open_session_live {cs} {p} t done g = (
    open_live_live C M key nonce ad n p₀ (world C M t.last p cs) (still_live t done g),
    (going_goes C M t.trace g).1
        ∙ ap (λ (s : Session S). s.room) (first_is t)
        ∙ start_room (start_done (sym (ap (λ (r : Handed S). r.answer) t.start_met) ∙ done)),
  )

  -- ---- the buffer: the plaintext of what was taken, and behind it the bytes of the start

  pub record Holds (xs buf : List ℕ) : Type 0 where
    pub within : length xs ≤ answers.limit
    pub in_room : length xs ≤ length p₀
    pub buffer_is : buf ≡ onto (plaintext C key nonce ad xs) p₀

  holds : (cs : Calls) (s : Session S) (p : List ℕ) → OpenLive C M key nonce ad n p₀ (world C M s p cs) → Holds (taken cs) p
  holds cs s p l = record { within = l.within; in_room = l.written.in_room; buffer_is = l.written.plain_is }

  -- at any time until a call ends the session
  pub open_session_holds : {cs : Calls} {p : List ℕ} (t : From cs p) → t.started ≡ 0 → Going cs → Holds (taken cs) p
  open_session_holds {cs} {p} t done g = holds cs t.last p (still_live t done g)

  -- after every accepted piece
  module _ {cs : Calls} (ct b : List ℕ) (a : ℕ) (b' : List ℕ) {p : List ℕ} (t : From (cs ▸ open_piece ct b a b') p) where
    pub open_session_piece_holds : a ≡ 0 → (b' ≡ p) × Holds (taken cs ++ ct) b'
    open_session_piece_holds z =
        let m = trace_before C M t.trace in
        let lent = open_piece-lent C M m.0 ct b (inl (sym (ap (λ (r : Wrote S). r.answer) m.2) ∙ z)) in
        let mark : t.last.mark ≡ opening = (goes C M m.0 t.last (open_piece ct b a b') m.2 (λ e. e)).0 ∙ lent.0 in
        let first = opener C M m.1 lent.0 in
        let room : length b ≡ length p₀ =
        lent.1 ∙ first.1 ∙ ap (λ (s : Session S). s.room) (first_is t) ∙ start_room (sym (ap (λ (s : Session S). s.mark) (first_is t)) ∙ first.0) in
        let same : b' ≡ p = one room (buffer_before t.buffer).2 in
        let h : Holds (taken cs ++ counts a ct) p = holds (cs ▸ open_piece ct b a b') t.last p (lives (at-end t) mark) in
        (same, subst (λ (q : List ℕ). Holds (taken cs ++ ct) q) (sym same) (subst (λ (k : ℕ). Holds (taken cs ++ counts k ct) p) z h))
      where
        one : {q : List ℕ} → length b ≡ length p₀ → Lent (length p₀) q b b' p → b' ≡ p
        one e (inl l) = sym l.1
        one e (inr l) = absurd (l.0 e)

  -- ---- a finish, or an abort, that is lent the opening's buffer

  abbrev pub before : {cs : Calls} {c : Made} {p : List ℕ} (t : From (cs ▸ c) p) → From cs (buffer_before t.buffer).0
  before t =
      let m = trace_before C M t.trace in
      record { started = t.started; first = t.first; last = m.0; start_met = t.start_met; trace = m.1; buffer = (buffer_before t.buffer).1 }

  lent_one : (q b b' p : List ℕ) → length b ≡ length p₀ → Lent (length p₀) q b b' p → (b ≡ q) × (p ≡ b')
  lent_one q b b' p e (inl l) = l
  lent_one q b b' p e (inr l) = absurd (l.0 e)

  -- a piece for which there is room, within the limit, is accepted
  module _ {cs : Calls} (ct b : List ℕ) (a : ℕ) (b' : List ℕ) {p : List ℕ} (t : From (cs ▸ open_piece ct b a b') p) where
    pub open_session_piece : t.started ≡ 0 → Going cs → length b ≡ length p₀ → length (taken cs) + length ct ≤ length p₀
        → length (taken cs) + length ct ≤ answers.limit → a ≡ 0
    unfolding hands
    open_session_piece done g e room fits =
        let i = at-end (before t) in
        let l = open_live_live C M key nonce ad n p₀ (world C M (before t).last (buffer_before t.buffer).0 cs) (lives i (still_opening (before t) done g)) in
        let lent = lent_one (buffer_before t.buffer).0 b b' p e (buffer_before t.buffer).2 in
        ap (λ (r : Wrote S). r.answer) (trace_before C M t.trace).2
        ∙ ap (λ (q : List ℕ). (session.open_piece C (before t).last ct q).answer) lent.0
        ∙ subst (λ (w : World S). live rate opening w.session ≡ true → length w.taken + length ct ≤ length p₀ → length w.taken + length ct ≤ answers.limit
        → (hands C M w (call.open_piece ct)).answer ≡ 0) (run_is i)
        (λ m r f. (open_run-piece C M key nonce ad n p₀ i.run_of m ct r f).answers) l room fits

  module _ {cs : Calls} (tag b : List ℕ) (a k : ℕ) (b' : List ℕ) {p : List ℕ} (t : From (cs ▸ open_finish tag b a k b') p) where
    abbrev s : Session S
    s = (before t).last

    abbrev q : List ℕ
    q = (buffer_before t.buffer).0

    met : Met C M s (open_finish tag b a k b') t.last
    met = (trace_before C M t.trace).2

    -- an answer of 0 or 7 says that the session was live, and lent its own buffer
    was-opening : Ends a → (s.mark ≡ opening) × (length b ≡ length p₀)
    was-opening z =
        let lent = open_finish-lent C M s tag b (subst Ends (ap (λ (r : Opened S). r.answer) met) z) in
        let first = opener C M (trace_before C M t.trace).1 lent.0 in (
          lent.0,
          lent.1 ∙ first.1 ∙ ap (λ (r : Session S). r.room) (first_is t)
              ∙ start_room (sym (ap (λ (r : Session S). r.mark) (first_is t)) ∙ first.0),
        )

    module _ (o : s.mark ≡ opening) (e : length b ≡ length p₀) where
      held : OpenLive C M key nonce ad n p₀ (world C M s q cs)
      held = lives (at-end (before t)) o

      is_live : live rate opening s ≡ true
      is_live = open_live_live C M key nonce ad n p₀ (world C M s q cs) held

      its_own : (b ≡ q) × (p ≡ b')
      its_own = lent_one q b b' p e (buffer_before t.buffer).2

      handed : ◌≡◌ {A = Result} (record { answer = a; count = k; out = b' }) (hands C M (world C M s q cs) (call.open_finish tag))
      unfolding hands
      handed = ap (counted C M) (met ∙ ap (session.open_finish C s tag) its_own.0)

      at-run : (P : World S → Type 0) → ((ds : List Call) → P (open_run C M key nonce ad n p₀ ds)) → P (world C M s q cs)
      at-run P h = subst P (run_is (at-end (before t))) (h (at-end (before t)).run_of)

      -- it answers as the one-shot does on all that was taken
      as_one_shot : length tag ≡ n → (buf : List ℕ) → length (taken cs) ≤ length buf → a ≡ (open_of C key nonce ad (taken cs) tag buf).answer
      as_one_shot size_is buf room =
          ap (λ (r : Result). r.answer) handed
          ∙ at-run (λ (w : World S). live rate opening w.session ≡ true → length w.taken ≤ length buf
          → (hands C M w (call.open_finish tag)).answer ≡ (open_of C key nonce ad w.taken tag buf).answer)
          (λ ds l r. verdict.open_run_same_answer C M key nonce ad n p₀ ds l tag size_is buf r) is_live room

      accepts : (a ≡ 0) ↔ ((msg : List ℕ) × (taken cs ≡ ciphertext C key nonce ad msg) × (tag ≡ seal_tag C key nonce ad msg n))
      accepts =
          let answered = ap (λ (r : Result). r.answer) handed in
          let both = at-run (λ (w : World S). live rate opening w.session ≡ true → ((hands C M w (call.open_finish tag)).answer ≡ 0)
          ↔ ((msg : List ℕ) × (w.taken ≡ ciphertext C key nonce ad msg) × (tag ≡ seal_tag C key nonce ad msg n)))
          (λ ds l. verdict.open_run_accepts C M key nonce ad n p₀ ds l tag) is_live in
          ((λ z. both.0 (sym answered ∙ z)), λ m. answered ∙ both.1 m)

      yields : (msg : List ℕ) → taken cs ≡ ciphertext C key nonce ad msg → take (length (taken cs)) q ≡ msg
      yields =
          at-run (λ (w : World S). live rate opening w.session ≡ true → (msg : List ℕ) → w.taken ≡ ciphertext C key nonce ad msg → take (length w.taken) w.plain ≡ msg)
          (λ ds l. verdict.open_run_yields C M key nonce ad n p₀ ds l) is_live

      releases : a ≡ 0 → ◌≡◌ {A = Result} (record { answer = a; count = k; out = b' }) (record { answer = 0; count = length (taken cs); out = q })
      releases z =
          handed
          ∙ at-run (λ (w : World S). live rate opening w.session ≡ true → (hands C M w (call.open_finish tag)).answer ≡ 0
          → hands C M w (call.open_finish tag) ≡ record { answer = 0; count = length w.taken; out = w.plain })
          (λ ds l. verdict.open_run-released C M key nonce ad n p₀ ds l tag) is_live (sym (ap (λ (r : Result). r.answer) handed) ∙ z)

    -- ---- accepted exactly if sealed, and then the message is released

    -- the buffer is the message's, whose length is handed back; what was taken and the tag are its sealed form
    pub record ReleasedAs (msg : List ℕ) : Type 0 where
      pub form : SealedForm C key nonce ad msg (taken cs) tag
      pub tag_size_ok : length tag ≡ n
      pub count_is : k ≡ length msg
      pub in_room : length msg ≤ length p₀
      pub buffer_is : b' ≡ onto msg p₀
      pub now_is : p ≡ b'

    pub open_session_released : a ≡ 0 → (msg : List ℕ) × ReleasedAs msg
    open_session_released z =
        let o = was-opening (inl z) in
        let l = held o.0 o.1 in
        let m = (accepts o.0 o.1).0 z in
        let msg = m.0 in
        let r = releases o.0 o.1 z in
        let long : length (taken cs) ≡ length msg = ap length m.1 ∙ ciphertext-length C key nonce ad msg in
        let text : plaintext C key nonce ad (taken cs) ≡ msg =
        sym (take-onto (plaintext C key nonce ad (taken cs)) p₀ (length (taken cs)) (plaintext-length C key nonce ad (taken cs)))
        ∙ ap (take (length (taken cs))) (sym l.written.plain_is) ∙ yields o.0 o.1 msg m.1 in
        let size_is : length tag ≡ n = ap length m.2 ∙ seal_tag-length C key nonce ad msg n l.sizes.tag_size_ok in (
          msg,
          record {
            form = record { within = subst (λ (j : ℕ). j ≤ answers.limit) long l.within; text = m.1; tagged = m.2 ∙ ap (seal_tag C key nonce ad msg) (sym size_is) };
            tag_size_ok = size_is;
            count_is = ap (λ (x : Result). x.count) r ∙ long;
            in_room = subst (λ (j : ℕ). j ≤ length p₀) long l.written.in_room;
            buffer_is = ap (λ (x : Result). x.out) r ∙ l.written.plain_is ∙ ap (λ (x : List ℕ). onto x p₀) text;
            now_is = (its_own o.0 o.1).1;
          },
        )

    module _ (done : t.started ≡ 0) (g : Going cs) (own : length b ≡ length p₀) where
      pub open_session_accepts : (a ≡ 0) ↔ ((msg : List ℕ) × (length tag ≡ n) × SealedForm C key nonce ad msg (taken cs) tag)
      open_session_accepts = (
        (λ z. let r = open_session_released z in (r.0, r.1.tag_size_ok, r.1.form)),
        λ m. (accepts (still_opening (before t) done g) own).1 (m.0, m.2.text, m.2.tagged ∙ ap (seal_tag C key nonce ad m.0) m.1),
      )

      -- ---- the one-shot's verdict on the joined bytes
      pub open_session_verdict : length tag ≡ n → (out : List ℕ) (r : ℕ) (out' : List ℕ) → OpenMet C key nonce ad (taken cs) tag out r out'
          → length (taken cs) ≤ length out → a ≡ r
      open_session_verdict size_is out r out' m room =
          as_one_shot (still_opening (before t) done g) own size_is out room ∙ sym (ap (λ (x : Left). x.answer) m)
