-- A trace is a run: calls that each met their contract and continued the session last handed back bring a session where the run of Run.antt
-- brings it, with the same results. A call that was lent another buffer than the opening's own changes nothing and has no part in the run.
-- Assumes nothing.
use Prim.Native.Nat.{ℕ, zero, suc}
use mathlib.Core.Path.{◌≡◌, refl, sym, ap, subst, ◌∙◌}
use mathlib.Core.Bool.{Bool, true, false, true≢false}
use mathlib.Core.Logic.{◌⊎◌, inl, inr, ⊎_elim, ◌≢◌}
use mathlib.Core.List.{List, [], ◌∷◌, ◌++◌, append-nil}
use native.Mathlib.Nat.{suc-ne-zero}
use native.Mathlib.Omega.{arith}
use lib.Dec.{eqb}
use lib.ListN.{length}
use borrow.Author.Tests.{eqb-true, eq-eqb}
use Rattle.answers.specs.Answers as answers
use Rattle.answers.proofs.Answers.{open_piece_ok, open_finish_ok, abort_ok}
use Rattle.lent.specs.Lent.{same}
use Rattle.promises.specs.Cipher.{Cipher, Mac}
use Rattle.promises.specs.OneShot.{on_done}
use Rattle.promises.specs.SessionCalls.{Handed, Wrote, Opened}
use Rattle.promises.specs.Session.{sealing, opening, macing, Session, live, abort_live, if_opening, pick, ended, session_tag}
use Rattle.promises.specs.SessionCalls as session
use Rattle.promises.specs.Run.{Call, World, Result, begun, took, left, wrote, handed, counted, step, hands, run, results}
use Rattle.promises.specs.Run as call
use Rattle.promises.specs.Trace.{Made, seal_piece, seal_piece_in_place, open_piece, mac_piece, seal_finish, open_finish, mac_finish, mac_finish_check, abort}
use Rattle.promises.specs.Trace.{Calls, none, ◌▸◌, ◌then◌, counts, input, output, taken, given, Ended, Going, Lent, Keeps, OneBuffer, at_first, kept}
use Rattle.promises.specs.Trace.{Met, Trace, at_start, made}
use Rattle.promises.proofs.SessionLive.{live_facts}
use Rattle.promises.proofs.SessionLadders as ladder
use Rattle.promises.proofs.SessionCalls as calls
use Rattle.promises.proofs.SessionCalls.{on_done-cases, Ends}
use Rattle.promises.proofs.Runs.{run_snoc, results-append}

-- ---- what a call that was made handed back, as a run has it

abbrev pub result : Made → Result
result (seal_piece msg out a out') = record { answer = a; count = 0; out = out' }
result (seal_piece_in_place buf a buf') = record { answer = a; count = 0; out = buf' }
result (open_piece ct plain a plain') = record { answer = a; count = 0; out = plain' }
result (mac_piece data' a) = record { answer = a; count = 0; out = [] }
result (seal_finish tag a tag') = record { answer = a; count = 0; out = tag' }
result (open_finish tag plain a n plain') = record { answer = a; count = n; out = plain' }
result (mac_finish tag a tag') = record { answer = a; count = 0; out = tag' }
result (mac_finish_check tag a) = record { answer = a; count = 0; out = [] }
result (abort plain a plain') = record { answer = a; count = 0; out = plain' }

-- and the call of a run that it is
abbrev pub call_of : Made → Call
call_of (seal_piece msg out a out') = call.seal_piece msg out
call_of (seal_piece_in_place buf a buf') = call.seal_piece_in_place buf
call_of (open_piece ct plain a plain') = call.open_piece ct
call_of (mac_piece data' a) = call.mac_piece data'
call_of (seal_finish tag a tag') = call.seal_finish tag
call_of (open_finish tag plain a n plain') = call.open_finish tag
call_of (mac_finish tag a tag') = call.mac_finish tag
call_of (mac_finish_check tag a) = call.mac_finish_check tag
call_of (abort plain a plain') = call.abort

-- bytes that count, and bytes that do not
counted_in : (a : ℕ) (so_far more : List ℕ) → on_done a (λ (b : ℕ). so_far) (so_far ++ more) ≡ so_far ++ counts a more
counted_in zero so_far more = refl
counted_in (suc a) so_far more = sym (append-nil so_far)

counted_none : (a : ℕ) (so_far : List ℕ) → on_done a (λ (b : ℕ). so_far) (so_far ++ []) ≡ so_far ++ []
counted_none zero so_far = refl
counted_none (suc a) so_far = sym (append-nil so_far)

counts_refused : (a : ℕ) (xs : List ℕ) → a ≢ 0 → counts a xs ≡ []
counts_refused zero xs n = absurd (n refl)
counts_refused (suc a) xs n = refl

module _ {S : Type 0} (C : Cipher S) (M : Mac S) where
  open C use {machine}
  open machine use {rate}

  -- ---- what a call leaves of a session: its kind and its room, or a session that is over

  abbrev pub Goes : Session S → Session S → Type 0
  Goes s s' = (s'.mark ≡ s.mark) × (s'.room ≡ s.room)

  abbrev stays : (s s' : Session S) → s' ≡ s → Goes s s'
  stays s s' e = (ap (λ (t : Session S). t.mark) e, ap (λ (t : Session S). t.room) e)

  seal_piece_goes : (s : Session S) (msg out : List ℕ) → Goes s (session.seal_piece C s msg out).session
  unfolding session.seal_piece session.advanced
  seal_piece_goes s msg out =
      on_done-cases (λ (r : Wrote S). Goes s r.session) (answers.seal_piece (live rate sealing s) (length msg) (length out) s.msg_length) _ _
      (λ b e. (refl, refl)) (λ e. (refl, refl))

  seal_piece_in_place_goes : (s : Session S) (buf : List ℕ) → Goes s (session.seal_piece_in_place C s buf).session
  unfolding session.seal_piece_in_place session.advanced
  seal_piece_in_place_goes s buf =
      on_done-cases (λ (r : Wrote S). Goes s r.session) (answers.piece (live rate sealing s) (length buf) s.msg_length) _ _
      (λ b e. (refl, refl)) (λ e. (refl, refl))

  open_piece_goes : (s : Session S) (ct plain : List ℕ) → Goes s (session.open_piece C s ct plain).session
  unfolding session.open_piece session.advanced session.wrote_more
  open_piece_goes s ct plain =
      on_done-cases (λ (r : Wrote S). Goes s r.session)
      (answers.open_piece (live rate opening s) (length plain) s.room s.written (length ct) s.msg_length) _ _
      (λ b e. (refl, refl)) (λ e. (refl, refl))

  mac_piece_goes : (s : Session S) (data' : List ℕ) → Goes s (session.mac_piece C s data').session
  unfolding session.mac_piece session.advanced
  mac_piece_goes s data' =
      on_done-cases (λ (r : Handed S). Goes s r.session) (answers.piece (live rate macing s) (length data') s.msg_length) _ _
      (λ b e. (refl, refl)) (λ e. (refl, refl))

  abbrev wrote_left : {r r' : Wrote S} → r ≡ r' → r.session ≡ r'.session
  wrote_left e = ap (λ (r : Wrote S). r.session) e

  abbrev handed_left : {r r' : Handed S} → r ≡ r' → r.session ≡ r'.session
  handed_left e = ap (λ (r : Handed S). r.session) e

  -- a call that does not end a session keeps its kind
  pub goes : (s s' : Session S) (c : Made) → Met C M s c s' → (Ended c → ⊥) → Goes s s'
  goes s s' (seal_piece msg out a out') m n = subst (Goes s) (sym (wrote_left m)) (seal_piece_goes s msg out)
  goes s s' (seal_piece_in_place buf a buf') m n = subst (Goes s) (sym (wrote_left m)) (seal_piece_in_place_goes s buf)
  goes s s' (open_piece ct plain a plain') m n = subst (Goes s) (sym (wrote_left m)) (open_piece_goes s ct plain)
  goes s s' (mac_piece data' a) m n = subst (Goes s) (sym (handed_left m)) (mac_piece_goes s data')
  goes s s' (seal_finish tag a tag') m n =
      stays s s' (wrote_left (m ∙ calls.seal_finish_refused C s tag (λ z. n (ap (λ (r : Wrote S). r.answer) m ∙ z))))
  goes s s' (open_finish tag plain a k plain') m n =
      stays s s' (ap (λ (r : Opened S). r.session) (m ∙ calls.open_finish_refused C s tag plain
      (λ z. n (subst Ends (sym (ap (λ (r : Opened S). r.answer) m)) z))))
  goes s s' (mac_finish tag a tag') m n =
      stays s s' (wrote_left (m ∙ calls.mac_finish_refused C M s tag (λ z. n (ap (λ (r : Wrote S). r.answer) m ∙ z))))
  goes s s' (mac_finish_check tag a) m n =
      stays s s' (handed_left (m ∙ calls.mac_finish_check_refused C M s tag (λ z. n (subst Ends (sym (ap (λ (r : Handed S). r.answer) m)) z))))
  goes s s' (abort plain a plain') m n =
      stays s s' (wrote_left (m ∙ calls.abort_refused C s plain (λ z. n (ap (λ (r : Wrote S). r.answer) m ∙ z))))

  pub going_goes : {s₀ s : Session S} {cs : Calls} → Trace C M s₀ cs s → Going cs → Goes s₀ s
  going_goes at_start g = (refl, refl)
  going_goes (made {s = s} {s' = s'} t c m) g =
      let before = going_goes t g.0 in
      let now = goes s s' c m g.1 in
      (now.0 ∙ before.0, now.1 ∙ before.1)

  -- any call keeps it, or ends it
  abbrev Moves : Session S → Session S → Type 0
  Moves s s' = Goes s s' ⊎ (s' ≡ ended C)

  seal_finish_moves : (s : Session S) (tag : List ℕ) → Moves s (session.seal_finish C s tag).session
  unfolding session.seal_finish
  seal_finish_moves s tag =
      on_done-cases (λ (r : Wrote S). Moves s r.session) (answers.finish (live rate sealing s) (length tag) s.tag_size) _ _
      (λ b e. inl (refl, refl)) (λ e. inr refl)

  mac_finish_moves : (s : Session S) (tag : List ℕ) → Moves s (session.mac_finish C M s tag).session
  unfolding session.mac_finish
  mac_finish_moves s tag =
      on_done-cases (λ (r : Wrote S). Moves s r.session) (answers.finish (live rate macing s) (length tag) s.tag_size) _ _
      (λ b e. inl (refl, refl)) (λ e. inr refl)

  mac_finish_check_moves : (s : Session S) (tag : List ℕ) → Moves s (session.mac_finish_check C M s tag).session
  unfolding session.mac_finish_check
  mac_finish_check_moves s tag =
      on_done-cases (λ (r : Handed S). Moves s r.session) (answers.finish (live rate macing s) (length tag) s.tag_size) _ _
      (λ b e. inl (refl, refl)) (λ e. inr refl)

  open_finish_moves : (s : Session S) (tag plain : List ℕ) → Moves s (session.open_finish C s tag plain).session
  unfolding session.open_finish session.released
  open_finish_moves s tag plain =
      on_done-cases (λ (r : Opened S). Moves s r.session)
      (answers.open_finish (live rate opening s) (length plain) s.room (length tag) s.tag_size) _ _
      (λ b e. inl (refl, refl)) (λ e. verdict (same tag (session_tag C s)))
    where
      verdict : (t : Bool) → Moves s (session.released C t s plain).session
      verdict true = inr refl
      verdict false = inr refl

  abort_moves : (s : Session S) (plain : List ℕ) → Moves s (session.abort C s plain).session
  unfolding session.abort
  abort_moves s plain =
      on_done-cases (λ (r : Wrote S). Moves s r.session)
      (answers.abort (abort_live C s) (if_opening s (eqb (length plain) s.room) true)) _ _
      (λ b e. inl (refl, refl)) (λ e. inr refl)

  moves : (s s' : Session S) (c : Made) → Met C M s c s' → Moves s s'
  moves s s' (seal_piece msg out a out') m = inl (goes s s' (seal_piece msg out a out') m (λ z. z))
  moves s s' (seal_piece_in_place buf a buf') m = inl (goes s s' (seal_piece_in_place buf a buf') m (λ z. z))
  moves s s' (open_piece ct plain a plain') m = inl (goes s s' (open_piece ct plain a plain') m (λ z. z))
  moves s s' (mac_piece data' a) m = inl (goes s s' (mac_piece data' a) m (λ z. z))
  moves s s' (seal_finish tag a tag') m = subst (Moves s) (sym (wrote_left m)) (seal_finish_moves s tag)
  moves s s' (open_finish tag plain a k plain') m = subst (Moves s) (sym (ap (λ (r : Opened S). r.session) m)) (open_finish_moves s tag plain)
  moves s s' (mac_finish tag a tag') m = subst (Moves s) (sym (wrote_left m)) (mac_finish_moves s tag)
  moves s s' (mac_finish_check tag a) m = subst (Moves s) (sym (handed_left m)) (mac_finish_check_moves s tag)
  moves s s' (abort plain a plain') m = subst (Moves s) (sym (wrote_left m)) (abort_moves s plain)

  -- so an opening session was one from the start, with this room
  abbrev pub Opener : Session S → Session S → Type 0
  Opener s₀ s = s.mark ≡ opening → (s₀.mark ≡ opening) × (s.room ≡ s₀.room)

  pub opener : {s₀ s : Session S} {cs : Calls} → Trace C M s₀ cs s → Opener s₀ s
  unfolding ended
  opener at_start e = (e, refl)
  opener (made {s = s} {s' = s'} t c m) e =
      ⊎_elim (λ g. let before = opener t (sym g.0 ∙ e) in (before.0, g.1 ∙ before.1))
      (λ o. absurd (omega (arith, sym e ∙ ap (λ (r : Session S). r.mark) o)))
      (moves s s' c m)

  -- ---- the buffer of the run: a call that takes such a buffer is lent it, or another, which the session would not write

  abbrev LentTo : Session S → List ℕ → List ℕ → List ℕ → List ℕ → Type 0
  LentTo s p buf buf' p' = ((buf ≡ p) × (p' ≡ buf')) ⊎ ((s.mark ≡ opening → length buf ≢ s.room) × (p' ≡ p))

  abbrev Fits : Session S → List ℕ → Made → List ℕ → Type 0
  Fits s p (seal_piece msg out a out') p' = p' ≡ p
  Fits s p (seal_piece_in_place buf a buf') p' = p' ≡ p
  Fits s p (open_piece ct plain a plain') p' = LentTo s p plain plain' p'
  Fits s p (mac_piece data' a) p' = p' ≡ p
  Fits s p (seal_finish tag a tag') p' = p' ≡ p
  Fits s p (open_finish tag plain a n plain') p' = LentTo s p plain plain' p'
  Fits s p (mac_finish tag a tag') p' = p' ≡ p
  Fits s p (mac_finish_check tag a) p' = p' ≡ p
  Fits s p (abort plain a plain') p' = LentTo s p plain plain' p'

  -- a session that is no opening writes none
  fits_any : (s : Session S) (p : List ℕ) (c : Made) → s.mark ≢ opening → Fits s p c p
  fits_any s p (seal_piece msg out a out') n = refl
  fits_any s p (seal_piece_in_place buf a buf') n = refl
  fits_any s p (open_piece ct plain a plain') n = inr ((λ e. absurd (n e)), refl)
  fits_any s p (mac_piece data' a) n = refl
  fits_any s p (seal_finish tag a tag') n = refl
  fits_any s p (open_finish tag plain a k plain') n = inr ((λ e. absurd (n e)), refl)
  fits_any s p (mac_finish tag a tag') n = refl
  fits_any s p (mac_finish_check tag a) n = refl
  fits_any s p (abort plain a plain') n = inr ((λ e. absurd (n e)), refl)

  -- and of an opening all have the length of the first
  lent_to : (s : Session S) (room : ℕ) (p buf buf' p' : List ℕ) → (s.mark ≡ opening → s.room ≡ room) → Lent room p buf buf' p' → LentTo s p buf buf' p'
  lent_to s room p buf buf' p' r (inl e) = inl e
  lent_to s room p buf buf' p' r (inr e) = inr ((λ o n. e.0 (n ∙ r o)), e.1)

  fits_one : (s : Session S) (room : ℕ) (p : List ℕ) (c : Made) (p' : List ℕ) → (s.mark ≡ opening → s.room ≡ room) → Keeps room p c p' → Fits s p c p'
  fits_one s room p (seal_piece msg out a out') p' r k = k
  fits_one s room p (seal_piece_in_place buf a buf') p' r k = k
  fits_one s room p (open_piece ct plain a plain') p' r k = lent_to s room p plain plain' p' r k
  fits_one s room p (mac_piece data' a) p' r k = k
  fits_one s room p (seal_finish tag a tag') p' r k = k
  fits_one s room p (open_finish tag plain a n plain') p' r k = lent_to s room p plain plain' p' r k
  fits_one s room p (mac_finish tag a tag') p' r k = k
  fits_one s room p (mac_finish_check tag a) p' r k = k
  fits_one s room p (abort plain a plain') p' r k = lent_to s room p plain plain' p' r k

  data Walk (s₀ : Session S) (p₀ : List ℕ) : Calls → Session S → List ℕ → Type 0 where
    begins : Walk s₀ p₀ none s₀ p₀
    walks : {cs : Calls} {s s' : Session S} {p p' : List ℕ} → Walk s₀ p₀ cs s p → (c : Made) → Met C M s c s' → Fits s p c p'
        → Walk s₀ p₀ (cs ▸ c) s' p'

  walk_any : (p : List ℕ) {s₀ s : Session S} {cs : Calls} → s₀.mark ≢ opening → Trace C M s₀ cs s → Walk s₀ p cs s p
  walk_any p n at_start = begins
  walk_any p n (made {s = s} t c m) = walks (walk_any p n t) c m (fits_any s p c (λ e. n (opener t e).0))

  walk_one : {p₀ : List ℕ} {s₀ : Session S} {p : List ℕ} {s : Session S} {cs : Calls} → (s₀.mark ≡ opening → s₀.room ≡ length p₀) → Trace C M s₀ cs s → OneBuffer p₀ cs p
      → Walk s₀ p₀ cs s p
  walk_one r at_start at_first = begins
  walk_one {p₀ = p₀} r (made {s = s} t c m) (kept {p = p} {p' = p'} b _ k) =
      walks (walk_one {p = p} r t b) c m (fits_one s (length p₀) p c p' (λ e. let o = opener t e in o.1 ∙ r o.0) k)

  -- ---- one call

  -- accepted, a call that takes the opening's buffer was lent one of its length
  pub open_piece-lent : (s : Session S) (ct buf : List ℕ) → Ends (session.open_piece C s ct buf).answer → (s.mark ≡ opening) × (length buf ≡ s.room)
  unfolding session.open_piece
  open_piece-lent s ct buf =
      on_done-cases (λ (r : Wrote S). Ends r.answer → (s.mark ≡ opening) × (length buf ≡ s.room))
      (answers.open_piece (live rate opening s) (length buf) s.room s.written (length ct) s.msg_length) _ _
      (λ b e h. absurd (⊎_elim (λ z. suc-ne-zero b z)
      (λ z. ladder.open_piece_not_7 (live rate opening s) (length buf) s.room s.written (length ct) s.msg_length (e ∙ z)) h))
      (λ e h. let d = open_piece_ok e in ((live_facts rate s opening d.is_live).kind_is, d.same_buffer))

  pub open_finish-lent : (s : Session S) (tag buf : List ℕ) → Ends (session.open_finish C s tag buf).answer → (s.mark ≡ opening) × (length buf ≡ s.room)
  unfolding session.open_finish
  open_finish-lent s tag buf =
      let lad = answers.open_finish (live rate opening s) (length buf) s.room (length tag) s.tag_size in
      on_done-cases (λ (r : Opened S). Ends r.answer → (s.mark ≡ opening) × (length buf ≡ s.room)) lad _ _
      (λ b e h. absurd (⊎_elim (λ z. suc-ne-zero b z)
      (λ z. ladder.open_finish_not_7 (live rate opening s) (length buf) s.room (length tag) s.tag_size (e ∙ z)) h))
      (λ e h. let d = open_finish_ok e in ((live_facts rate s opening d.is_live).kind_is, d.same_buffer))

  abort-lent : (s : Session S) (buf : List ℕ) → s.mark ≡ opening → Ends (session.abort C s buf).answer → length buf ≡ s.room
  unfolding session.abort
  abort-lent s buf o =
      let t = if_opening s (eqb (length buf) s.room) true in
      on_done-cases (λ (r : Wrote S). Ends r.answer → length buf ≡ s.room) (answers.abort (abort_live C s) t) _ _
      (λ b e h. absurd (⊎_elim (λ z. suc-ne-zero b z) (λ z. ladder.abort_not_7 (abort_live C s) t (e ∙ z)) h))
      (λ e h. eqb-true (length buf) s.room (picked (eqb s.mark opening) (eqb (length buf) s.room) (abort_ok e).is_lent (eq-eqb s.mark opening o)))
    where
      picked : (t x : Bool) → pick t x true ≡ true → t ≡ true → x ≡ true
      picked true x h e = h
      picked false x h e = absurd (true≢false (sym e))

  -- where no opening is aborted, the buffer counts for nothing
  abbrev closes : Session S → ℕ → List ℕ → Wrote S
  closes s a b = on_done a (λ (k : ℕ). record { answer = k; session = s; out = b }) (record { answer = 0; session = ended C; out = b })

  closes_any : (s : Session S) (a : ℕ) (buf p : List ℕ) → closes s a p ≡ record { answer = (closes s a buf).answer; session = (closes s a buf).session; out = p }
  closes_any s zero buf p = refl
  closes_any s (suc a) buf p = refl

  abort_any : (s : Session S) (buf p : List ℕ) → eqb s.mark opening ≡ false
      → session.abort C s p ≡ record { answer = (session.abort C s buf).answer; session = (session.abort C s buf).session; out = p }
  unfolding session.abort
  abort_any s buf p h = rw h (closes_any s (answers.abort (abort_live C s) true) buf p)

  abbrev pub world : Session S → List ℕ → Calls → World S
  world s p cs = record { session = s; plain = p; taken = taken cs; given = given cs }

  -- what a call that was made is to the run: one of its calls; or refused, and none of them; or the abort of a session that opens nothing
  pub data Steps (w : World S) (c : Made) (w' : World S) : Type 0 where
    as_run : step C M w (call_of c) ≡ w' → hands C M w (call_of c) ≡ result c → Steps w c w'
    passed : w' ≡ w → (Ends (result c).answer → ⊥) → Steps w c w'
    closed : step C M w (call_of c) ≡ w' → (hands C M w (call_of c)).answer ≡ (result c).answer → Steps w c w'

  -- what was accepted, or ended the session, is a call of the run
  pub steps_as_run : {w w' : World S} {c : Made} → Steps w c w' → Ends (result c).answer
      → (step C M w (call_of c) ≡ w') × ((hands C M w (call_of c)).answer ≡ (result c).answer)
  steps_as_run (as_run e h) a = (e, ap (λ (r : Result). r.answer) h)
  steps_as_run (passed e n) a = absurd (n a)
  steps_as_run (closed e h) a = (e, h)

  module _ (cs : Calls) (s s' : Session S) (p p' : List ℕ) where
    abbrev w : World S
    w = world s p cs

    -- refused, a call that adds nothing
    nothing_more : (c : Made) → s' ≡ s → p' ≡ p → input c ≡ [] → output c ≡ [] → world s' p' (cs ▸ c) ≡ world s p cs
    nothing_more c e q i o =
        λ k. record { session = e k; plain = q k; taken = (ap (λ (xs : List ℕ). taken cs ++ xs) i ∙ append-nil (taken cs)) k; given = (ap (λ (xs : List ℕ). given cs ++ xs) o ∙ append-nil (given cs)) k }

    steps : (c : Made) → Met C M s c s' → Fits s p c p' → Steps w c (world s' p' (cs ▸ c))
    unfolding step hands
    steps (seal_piece msg out a out') m q =
        as_run
        (ap (λ (r : Wrote S). took C M w r.answer r.session p msg r.out) (sym m)
        ∙ λ k. record { session = s'; plain = sym q k; taken = counted_in a (taken cs) msg k; given = counted_in a (given cs) out' k })
        (ap (wrote C M) (sym m))
    steps (seal_piece_in_place buf a buf') m q =
        as_run
        (ap (λ (r : Wrote S). took C M w r.answer r.session p buf r.out) (sym m)
        ∙ λ k. record { session = s'; plain = sym q k; taken = counted_in a (taken cs) buf k; given = counted_in a (given cs) buf' k })
        (ap (wrote C M) (sym m))
    steps (open_piece ct buf a buf') m (inl (e, q)) =
        let n = sym (m ∙ ap (session.open_piece C s ct) e) in
        as_run
        (ap (λ (r : Wrote S). took C M w r.answer r.session r.out ct []) n
        ∙ λ k. record { session = s'; plain = sym q k; taken = counted_in a (taken cs) ct k; given = counted_none a (given cs) k })
        (ap (wrote C M) n)
    steps (open_piece ct buf a buf') m (inr (n, q)) =
        let answered = ap (λ (r : Wrote S). r.answer) m in
        let refused : Ends a → ⊥ = λ z. let l = open_piece-lent s ct buf (subst Ends answered z) in n l.0 l.1 in
        passed (nothing_more (open_piece ct buf a buf')
        (wrote_left (m ∙ calls.open_piece_refused C s ct buf (λ z. refused (inl (answered ∙ z))))) q (counts_refused a ct (λ z. refused (inl z))) refl) refused
    steps (mac_piece data' a) m q =
        as_run
        (ap (λ (r : Handed S). took C M w r.answer r.session p data' []) (sym m)
        ∙ λ k. record { session = s'; plain = sym q k; taken = counted_in a (taken cs) data' k; given = counted_none a (given cs) k })
        (ap (handed C M) (sym m))
    steps (seal_finish tag a tag') m q =
        as_run
        (λ k. record { session = wrote_left (sym m) k; plain = sym q k; taken = sym (append-nil (taken cs)) k; given = sym (append-nil (given cs)) k })
        (ap (wrote C M) (sym m))
    steps (open_finish tag buf a n buf') m (inl (e, q)) =
        let o = sym (m ∙ ap (session.open_finish C s tag) e) in
        as_run
        (ap (λ (r : Opened S). left C M w r.session r.out) o
        ∙ λ k. record { session = s'; plain = sym q k; taken = sym (append-nil (taken cs)) k; given = sym (append-nil (given cs)) k })
        (ap (counted C M) o)
    steps (open_finish tag buf a k buf') m (inr (n, q)) =
        let answered = ap (λ (r : Opened S). r.answer) m in
        let refused : Ends a → ⊥ = λ z. let l = open_finish-lent s tag buf (subst Ends answered z) in n l.0 l.1 in
        passed (nothing_more (open_finish tag buf a k buf')
        (ap (λ (r : Opened S). r.session) (m ∙ calls.open_finish_refused C s tag buf (λ z. refused (subst Ends (sym answered) z)))) q refl refl)
        refused
    steps (mac_finish tag a tag') m q =
        as_run
        (λ k. record { session = wrote_left (sym m) k; plain = sym q k; taken = sym (append-nil (taken cs)) k; given = sym (append-nil (given cs)) k })
        (ap (wrote C M) (sym m))
    steps (mac_finish_check tag a) m q =
        as_run
        (λ k. record { session = handed_left (sym m) k; plain = sym q k; taken = sym (append-nil (taken cs)) k; given = sym (append-nil (given cs)) k })
        (ap (handed C M) (sym m))
    steps (abort buf a buf') m (inl (e, q)) =
        let o = sym (m ∙ ap (session.abort C s) e) in
        as_run
        (ap (λ (r : Wrote S). left C M w r.session r.out) o
        ∙ λ k. record { session = s'; plain = sym q k; taken = sym (append-nil (taken cs)) k; given = sym (append-nil (given cs)) k })
        (ap (wrote C M) o)
    steps (abort buf a buf') m (inr (n, q)) = kinds (eqb s.mark opening) refl
      where
        answered : a ≡ (session.abort C s buf).answer
        answered = ap (λ (r : Wrote S). r.answer) m

        kinds : (t : Bool) → eqb s.mark opening ≡ t → Steps w (abort buf a buf') (world s' p' (cs ▸ abort buf a buf'))
        kinds true o =
            let mark = eqb-true s.mark opening o in
            let refused : Ends a → ⊥ = λ z. n mark (abort-lent s buf mark (subst Ends answered z)) in
            passed (nothing_more (abort buf a buf') (wrote_left (m ∙ calls.abort_refused C s buf (λ z. refused (inl (answered ∙ z))))) q refl refl) refused
        kinds false o =
            let i = abort_any s buf p o in
            closed
            (ap (λ (r : Wrote S). left C M w r.session r.out) i
            ∙ λ k. record { session = wrote_left (sym m) k; plain = sym q k; taken = sym (append-nil (taken cs)) k; given = sym (append-nil (given cs)) k })
            (ap (λ (r : Wrote S). r.answer) i ∙ sym answered)

  -- ---- all calls

  -- the results of the run beside the calls that were made
  pub data Answered : Calls → List Result → Type 0 where
    no_results : Answered none []
    result_is : {cs : Calls} {rs : List Result} (c : Made) → Answered cs rs → Answered (cs ▸ c) (rs ++ (result c ∷ []))
    -- a call that was lent another buffer than the opening's own, and refused
    left_out : {cs : Calls} {rs : List Result} (c : Made) → (Ends (result c).answer → ⊥) → Answered cs rs → Answered (cs ▸ c) rs
    -- an abort of a session that opens nothing: any buffer may be lent
    answer_is : {cs : Calls} {rs : List Result} (c : Made) (r : Result) → r.answer ≡ (result c).answer → Answered cs rs → Answered (cs ▸ c) (rs ++ (r ∷ []))

  pub record IsRun (s₀ : Session S) (p₀ : List ℕ) (cs : Calls) (s : Session S) (p : List ℕ) : Type 0 where
    pub run_of : List Call
    pub stands : run C M (begun C M s₀ p₀) run_of ≡ world s p cs
    pub answered : Answered cs (results C M (begun C M s₀ p₀) run_of)

  one_more : {s₀ s s' : Session S} {p₀ p p' : List ℕ} {cs : Calls} (c : Made) → IsRun s₀ p₀ cs s p → Steps (world s p cs) c (world s' p' (cs ▸ c))
      → IsRun s₀ p₀ (cs ▸ c) s' p'
  unfolding results
  one_more {s₀} {s} {s'} {p₀} {p} {p'} {cs} c i (as_run e h) =
      let w₀ = begun C M s₀ p₀ in
      let d = call_of c in
      record {
        run_of = i.run_of ++ (d ∷ []);
        stands = run_snoc C M w₀ i.run_of d ∙ ap (λ (v : World S). step C M v d) i.stands ∙ e;
        answered = subst (Answered (cs ▸ c))
            (ap (λ (r : Result). results C M w₀ i.run_of ++ (r ∷ [])) (sym (ap (λ (v : World S). hands C M v d) i.stands ∙ h))
            ∙ sym (results-append C M w₀ i.run_of (d ∷ [])))
            (result_is c i.answered);
      }
  one_more {s₀} {s} {s'} {p₀} {p} {p'} {cs} c i (passed e n) =
      record { run_of = i.run_of; stands = i.stands ∙ sym e; answered = left_out c n i.answered }
  one_more {s₀} {s} {s'} {p₀} {p} {p'} {cs} c i (closed e h) =
      let w₀ = begun C M s₀ p₀ in
      let d = call_of c in
      record {
        run_of = i.run_of ++ (d ∷ []);
        stands = run_snoc C M w₀ i.run_of d ∙ ap (λ (v : World S). step C M v d) i.stands ∙ e;
        answered = subst (Answered (cs ▸ c))
            (ap (λ (v : World S). results C M w₀ i.run_of ++ (hands C M v d ∷ [])) (sym i.stands)
            ∙ sym (results-append C M w₀ i.run_of (d ∷ [])))
            (answer_is c (hands C M (world s p cs) d) h i.answered);
      }

  walk_is_run : {s₀ : Session S} {p₀ : List ℕ} {s : Session S} {p : List ℕ} {cs : Calls} → Walk s₀ p₀ cs s p → IsRun s₀ p₀ cs s p
  unfolding run results
  walk_is_run begins = record { run_of = []; stands = refl; answered = no_results }
  walk_is_run (walks {cs = cs} {s = s} {s' = s'} {p = p} {p' = p'} t c m f) = one_more c (walk_is_run t) (steps cs s s' p p' c m f)

  -- a trace is a run: of an opening, which is lent one buffer
  pub trace_is_run : {s₀ s : Session S} {p₀ p : List ℕ} {cs : Calls} → (s₀.mark ≡ opening → s₀.room ≡ length p₀)
      → Trace C M s₀ cs s → OneBuffer p₀ cs p → IsRun s₀ p₀ cs s p
  trace_is_run r t b = walk_is_run (walk_one r t b)

  -- and of any other session, whatever buffers are lent
  pub trace_is_run_any : {s₀ s : Session S} {cs : Calls} (p : List ℕ) → s₀.mark ≢ opening → Trace C M s₀ cs s → IsRun s₀ p cs s p
  trace_is_run_any p n t = walk_is_run (walk_any p n t)

  -- calls on the session that others left are calls behind them
  pub trace_then : {s₀ s s' : Session S} {cs ds : Calls} → Trace C M s₀ cs s → Trace C M s ds s' → Trace C M s₀ (cs then ds) s'
  trace_then t at_start = t
  trace_then t (made u c m) = made (trace_then t u) c m

  pub trace_before : {s₀ s' : Session S} {cs : Calls} {c : Made} → Trace C M s₀ (cs ▸ c) s' → (s : Session S) × Trace C M s₀ cs s × Met C M s c s'
  trace_before (made {s = s} t c m) = (s, t, m)

pub buffer_before : {p₀ p' : List ℕ} {cs : Calls} {c : Made} → OneBuffer p₀ (cs ▸ c) p' → (p : List ℕ) × OneBuffer p₀ cs p × Keeps (length p₀) p c p'
buffer_before (kept {p = p} b c k) = (p, b, k)

module _ {S : Type 0} (C : Cipher S) (M : Mac S) where
  -- the call behind a trace
  pub trace_steps : {s₀ : Session S} {cs : Calls} (p₀ : List ℕ) (s s' : Session S) (p p' : List ℕ) (c : Made) → (s₀.mark ≡ opening → s₀.room ≡ length p₀)
      → Trace C M s₀ cs s → Met C M s c s' → Keeps (length p₀) p c p' → Steps C M (world C M s p cs) c (world C M s' p' (cs ▸ c))
  trace_steps {cs = cs} p₀ s s' p p' c r t m k =
      steps C M cs s s' p p' c m (fits_one C M s (length p₀) p c p' (λ e. let o = opener C M t e in o.1 ∙ r o.0) k)
