-- An abort of a session that goes on answers 0: one that seals or makes a MAC leaves the buffer that it is lent, and an opening is lent its own.
-- Assumes nothing.
use Prim.Native.Nat.{ℕ, ◌≤◌}
use mathlib.Core.Path.{◌≡◌, refl, sym, ap, ◌∙◌}
use mathlib.Core.Bool.{Bool, true, false}
use mathlib.Core.Logic.{◌≢◌}
use mathlib.Core.List.{List}
use native.Mathlib.Nat.{le_trans, le_of_eq}
use native.Mathlib.Omega.{arith}
use lib.Dec.{eqb, lit≤}
use lib.ListN.{length}
use borrow.Author.Tests.{eq-eqb, ne_eqb}
use Rattle.machine.specs.Bytes.{zeros}
use Rattle.answers.proofs.Answers.{ok_abort}
use Rattle.promises.specs.Cipher.{Cipher, Mac}
use Rattle.promises.specs.Texts.{onto}
use Rattle.promises.specs.SessionCalls.{Wrote}
use Rattle.promises.specs.Session.{sealing, opening, macing, pick, ended, live, Session}
use Rattle.promises.specs.SessionCalls as session
use Rattle.promises.specs.Trace.{abort, Calls, ◌▸◌, Going, SealSession, OpenSession, MacSession}
use Rattle.promises.proofs.Ladder.{does}
use Rattle.promises.proofs.SessionLive.{live_facts, facts_abort_live}
use Rattle.promises.proofs.Traces.{trace_before}
use Rattle.promises.proofs.TracesSealing as sealings
use Rattle.promises.proofs.TracesOpening as openings
use Rattle.promises.proofs.TracesMac as macs

module _ {S : Type 0} (C : Cipher S) where
  open C use {machine}
  open machine use {rate}

  -- ---- of a live session

  pub abort_leaves : (s : Session S) (kind : ℕ) → kind ≤ 2 → kind ≢ opening → live rate kind s ≡ true → (plain : List ℕ)
      → session.abort C s plain ≡ record { answer = 0; session = ended C; out = plain }
  unfolding session.abort
  abort_leaves s kind low different l plain =
      let f = live_facts rate s kind l in
      let other : eqb s.mark opening ≡ false = ne_eqb s.mark opening (λ e. different (sym f.kind_is ∙ e)) in
      let goes = ok_abort (record {
        is_live = facts_abort_live C s (le_trans (le_of_eq f.kind_is) low) f.formed;
        is_lent = ap (λ (t : Bool). pick t (eqb (length plain) s.room) true) other;
      }) in
      sym (does _ 0 _ _ _ (sym goes) refl (λ i. record { answer = 0; session = ended C; out = pick (sym other i) (onto (zeros s.written) plain) plain }))

  abort_opening : (s : Session S) → live rate opening s ≡ true → (plain : List ℕ) → length plain ≡ s.room → (session.abort C s plain).answer ≡ 0
  unfolding session.abort
  abort_opening s l plain e =
      let f = live_facts rate s opening l in
      let own : eqb s.mark opening ≡ true = eq-eqb s.mark opening f.kind_is in
      let goes = ok_abort (record {
        is_live = facts_abort_live C s (le_trans (le_of_eq f.kind_is) (lit≤ tt)) f.formed;
        is_lent = ap (λ (t : Bool). pick t (eqb (length plain) s.room) true) own ∙ eq-eqb (length plain) s.room e;
      }) in
      ap (λ (r : Wrote S). r.answer) (sym (does _ 0 _ _ _ (sym goes) refl refl))

-- ---- at the end of a trace

module _ {S : Type 0} (C : Cipher S) (M : Mac S) {cs : Calls} {b b' : List ℕ} {a : ℕ} where
  pub seal_session_aborts : {key nonce ad : List ℕ} {n : ℕ} (t : SealSession C M key nonce ad n (cs ▸ abort b a b')) → t.started ≡ 0 → Going cs
      → (a ≡ 0) × (b' ≡ b)
  seal_session_aborts {key} {nonce} {ad} {n} t done g =
      let m = trace_before C M t.trace in
      let l = sealings.seal_session_live C M key nonce ad n (sealings.before C M key nonce ad n t) done g in
      let e = m.2 ∙ abort_leaves C m.0 sealing (lit≤ tt) (λ z. omega arith) l b in
      (ap (λ (r : Wrote S). r.answer) e, ap (λ (r : Wrote S). r.out) e)

  pub mac_session_aborts : {key nonce : List ℕ} {n : ℕ} (t : MacSession C M key nonce n (cs ▸ abort b a b')) → t.started ≡ 0 → Going cs
      → (a ≡ 0) × (b' ≡ b)
  mac_session_aborts {key} {nonce} {n} t done g =
      let m = trace_before C M t.trace in
      let l = macs.mac_session_live C M key nonce n (macs.before C M key nonce n t) done g in
      let e = m.2 ∙ abort_leaves C m.0 macing (lit≤ tt) (λ z. omega arith) l b in
      (ap (λ (r : Wrote S). r.answer) e, ap (λ (r : Wrote S). r.out) e)

  pub open_session_aborts : {key nonce ad p₀ p : List ℕ} {n : ℕ} (t : OpenSession C M key nonce ad n p₀ (cs ▸ abort b a b') p) → t.started ≡ 0 → Going cs
      → length b ≡ length p₀ → a ≡ 0
  open_session_aborts {key} {nonce} {ad} {p₀} {p} {n} t done g own =
      let m = trace_before C M t.trace in
      let l = openings.open_session_live C M key nonce ad n p₀ (openings.before C M key nonce ad n p₀ t) done g in
      ap (λ (r : Wrote S). r.answer) m.2 ∙ abort_opening C m.0 l.0 b (own ∙ sym l.1)
