-- Erasing, by what can be seen of a session's calls: once a finish answered 7 or an abort answered 0, every byte that the opening wrote is 0
-- and every other byte of its buffer is as it was at the start, whatever was called before and is called later.
-- Assumes nothing.
use Prim.Native.Nat.{ℕ, ◌≤◌, ◌<◌}
use mathlib.Core.Path.{◌≡◌, sym, ap, subst, ◌∙◌}
use mathlib.Core.Logic.{inl, inr}
use mathlib.Core.List.{List, [], ◌∷◌, ◌++◌, append-nil}
use lib.ListN.{length, get_or}
use Rattle.machine.specs.Bytes.{zeros}
use Rattle.promises.specs.Cipher.{Cipher, Mac}
use Rattle.promises.specs.Texts.{onto}
use Rattle.promises.specs.SessionCalls.{open_start}
use Rattle.promises.specs.Session.{ended}
use Rattle.promises.specs.Run.{World, begun, step, hands, open_run}
use Rattle.promises.specs.Trace.{Made, seal_piece, seal_piece_in_place, open_piece, mac_piece, seal_finish, open_finish, mac_finish, mac_finish_check, abort, Calls, none, ◌▸◌, taken, Refused, OpenSession}
use Rattle.promises.proofs.SessionCalls.{Ends}
use Rattle.promises.proofs.Runs.{run_snoc, over-stays}
use Rattle.promises.proofs.RunsErasing as erasing
use Rattle.promises.proofs.RunsErasing.{Wiped}
use Rattle.promises.proofs.Traces.{Steps, as_run, passed, closed, steps_as_run, call_of, result, world, trace_before, buffer_before, trace_steps}
use Rattle.promises.proofs.TracesOpening.{before, start_room, from_start, at-end, run_is}

module _ {S : Type 0} (C : Cipher S) (M : Mac S) (key nonce ad : List ℕ) (n : ℕ) (p₀ : List ℕ) where
  abbrev From : Calls → List ℕ → Type 0
  From cs p = OpenSession C M key nonce ad n p₀ cs p

  -- ---- the last call of a session

  module _ {cs : Calls} {c : Made} {p : List ℕ} (t : From (cs ▸ c) p) where
    abbrev was : World S
    was = world C M (before C M key nonce ad n p₀ t).last (buffer_before t.buffer).0 cs

    abbrev now : World S
    now = world C M t.last p (cs ▸ c)

    steps_to : Steps C M was c now
    steps_to =
        trace_steps C M p₀ (before C M key nonce ad n p₀ t).last t.last (buffer_before t.buffer).0 p c (start_room C M key nonce ad n p₀)
        (from_start C M key nonce ad n p₀ (before C M key nonce ad n p₀ t)) (trace_before C M t.trace).2 (buffer_before t.buffer).2

    -- behind one that is over nothing changes
    stays-over : was.session ≡ ended C → now ≡ was
    stays-over e = go steps_to
      where
        go : Steps C M was c now → now ≡ was
        go (as_run f h) = sym f ∙ over-stays C M was e (call_of c)
        go (passed f h) = f
        go (closed f h) = sym f ∙ over-stays C M was e (call_of c)

    -- what was accepted, or ended the session, is the next call of the run
    runs_on : Ends (result c).answer → let i = at-end C M key nonce ad n p₀ (before C M key nonce ad n p₀ t) in
        (open_run C M key nonce ad n p₀ (i.run_of ++ (call_of c ∷ [])) ≡ now)
        × ((hands C M (open_run C M key nonce ad n p₀ i.run_of) (call_of c)).answer ≡ (result c).answer)
    unfolding open_run
    runs_on a =
        let i = at-end C M key nonce ad n p₀ (before C M key nonce ad n p₀ t) in
        let f = steps_as_run C M steps_to a in (
          run_snoc C M (begun C M (open_start C key nonce ad n (length p₀)).session p₀) i.run_of (call_of c)
              ∙ ap (λ (w : World S). step C M w (call_of c)) i.stands ∙ f.0,
          ap (λ (w : World S). (hands C M w (call_of c)).answer) i.stands ∙ f.1,
        )

    count_is : let i = at-end C M key nonce ad n p₀ (before C M key nonce ad n p₀ t) in
        length (open_run C M key nonce ad n p₀ i.run_of).taken ≡ length (taken cs ++ [])
    count_is =
        let i = at-end C M key nonce ad n p₀ (before C M key nonce ad n p₀ t) in
        ap (λ (w : World S). length w.taken) (run_is C M key nonce ad n p₀ i) ∙ ap length (sym (append-nil (taken cs)))

  wiped-at : {k j : ℕ} {w v : World S} → Wiped C M key nonce ad n p₀ k w → k ≡ j → w ≡ v → Wiped C M key nonce ad n p₀ j v
  wiped-at {k} {j} {w} {v} h e f = subst (Wiped C M key nonce ad n p₀ j) f (subst (λ (i : ℕ). Wiped C M key nonce ad n p₀ i w) e h)

  erased_by : (cs : Calls) {p : List ℕ} (t : From cs p) → Refused cs → Wiped C M key nonce ad n p₀ (length (taken cs)) (world C M t.last p cs)
  erased_by none t r = absurd r
  erased_by (cs ▸ c) {p} t (inl r) =
      let h = erased_by cs (before C M key nonce ad n p₀ t) r in
      let same = stays-over t h.over in
      subst (λ (v : World S). Wiped C M key nonce ad n p₀ (length v.taken) v) (sym same) h
  erased_by (cs ▸ open_finish tag b a k b') {p} t (inr z) =
      let i = at-end C M key nonce ad n p₀ (before C M key nonce ad n p₀ t) in
      let on = runs_on t (inr z) in
      wiped-at (erasing.wrong_tag_erases C M key nonce ad n p₀ i.run_of tag [] (on.1 ∙ z)) (count_is t) on.0
  erased_by (cs ▸ abort b a b') {p} t (inr z) =
      let i = at-end C M key nonce ad n p₀ (before C M key nonce ad n p₀ t) in
      let on = runs_on t (inl z) in
      wiped-at (erasing.abort_erases C M key nonce ad n p₀ i.run_of [] (on.1 ∙ z)) (count_is t) on.0
  erased_by (cs ▸ seal_piece msg out a out') {p} t (inr z) = elim z [ ]
  erased_by (cs ▸ seal_piece_in_place buf a buf') {p} t (inr z) = elim z [ ]
  erased_by (cs ▸ open_piece ct plain a plain') {p} t (inr z) = elim z [ ]
  erased_by (cs ▸ mac_piece data' a) {p} t (inr z) = elim z [ ]
  erased_by (cs ▸ seal_finish tag a tag') {p} t (inr z) = elim z [ ]
  erased_by (cs ▸ mac_finish tag a tag') {p} t (inr z) = elim z [ ]
  erased_by (cs ▸ mac_finish_check tag a) {p} t (inr z) = elim z [ ]

  -- ---- what is said of the calls and the buffer alone

  pub record Overwritten (wrote : ℕ) (p : List ℕ) : Type 0 where
    pub in_buffer : wrote ≤ length p₀
    pub buffer_is : p ≡ onto (zeros wrote) p₀
    pub same_length : length p ≡ length p₀
    pub written_bytes : (i : ℕ) → i < wrote → get_or p i 0 ≡ 0
    pub other_bytes : (i : ℕ) → wrote ≤ i → get_or p i 0 ≡ get_or p₀ i 0

  pub open_session_overwritten : {cs : Calls} {p : List ℕ} (t : From cs p) → Refused cs → Overwritten (length (taken cs)) p
  open_session_overwritten {cs} t r =
      let h = erased_by cs t r in
      record { in_buffer = h.in_buffer; buffer_is = h.buffer_is; same_length = h.same_length; written_bytes = h.written_bytes; other_bytes = h.other_bytes }

  -- what an opening has written, at any time, lies within the first bytes, as many as it has taken
  pub open_session_untouched : {cs : Calls} {p : List ℕ} (t : From cs p) (i : ℕ) → length (taken cs) ≤ i → get_or p i 0 ≡ get_or p₀ i 0
  open_session_untouched {cs} {p} t i h =
      let r = at-end C M key nonce ad n p₀ t in
      subst (λ (w : World S). length w.taken ≤ i → get_or w.plain i 0 ≡ get_or p₀ i 0) (run_is C M key nonce ad n p₀ r)
      (erasing.untouched C M key nonce ad n p₀ r.run_of i) h
