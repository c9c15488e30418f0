-- Sealing sessions that meet what the demands take as given. Under any key, nonce, associated data and tag size that are allowed, a session that
-- no call has ended goes on with every piece within the limit, is finished with 0 and aborted with 0. So there is one for every message and
-- every cut of it in two, with a call in between that is refused.
-- Assumes nothing.
use Prim.Native.Nat.{ℕ, ◌+◌, ◌≤◌}
use mathlib.Core.Path.{◌≡◌, refl, sym, ap, subst, ◌∙◌}
use mathlib.Core.Bool.{true}
use mathlib.Core.Logic.{◌≢◌}
use mathlib.Core.List.{List, [], ◌∷◌, ◌++◌, append-nil}
use native.Mathlib.Omega.{arith}
use lib.Dec.{lit≤}
use lib.ListN.{length, length-append, length-replicate}
use borrow.Author.Tests.{ne_eqb}
use Rattle.machine.specs.Bytes.{zeros}
use Rattle.answers.specs.Answers.{limit}
use Rattle.answers.specs.Answers as answers
use Rattle.promises.specs.Cipher.{Cipher, Mac}
use Rattle.promises.specs.Allowed.{Allowed}
use Rattle.promises.specs.Texts.{ciphertext, seal_tag}
use Rattle.promises.specs.SessionCalls.{seal_start}
use Rattle.promises.specs.Session.{Session, sealing, ended, live}
use Rattle.promises.specs.SessionCalls as session
use Rattle.promises.specs.Trace.{Made, seal_piece, seal_piece_in_place, seal_finish, abort}
use Rattle.promises.specs.Trace.{Calls, none, ◌▸◌, taken, given, Going, Met, at_start, made, SealSession}
use Rattle.promises.proofs.TracesSealing as sealings
use Rattle.promises.proofs.TracesAborting.{abort_leaves}

module _ {S : Type 0} (C : Cipher S) (M : Mac S) (key nonce ad : List ℕ) (n : ℕ) (fixed : Allowed C key nonce ad n) where
  abbrev Sealing : Calls → Type 0
  Sealing cs = SealSession C M key nonce ad n cs

  -- ---- a session that goes on, and one call more

  abbrev begins : Sealing none
  begins =
      let r = seal_start C key nonce ad n in
      record { started = r.answer; first = r.session; last = r.session; start_met = refl; trace = at_start }

  abbrev next : {cs : Calls} (t : Sealing cs) (c : Made) (s' : Session S) → Met C M t.last c s' → Sealing (cs ▸ c)
  next t c s' m = record { started = t.started; first = t.first; last = s'; start_met = t.start_met; trace = made t.trace c m }

  pub starts : {cs : Calls} (t : Sealing cs) → t.started ≡ 0
  starts t = sealings.seal_session_starts C M key nonce ad n t fixed

  -- a piece whose two buffers differ in length
  refuses_9 : (s : Session S) → live C.machine.rate sealing s ≡ true → (msg out : List ℕ) → length msg ≢ length out
      → record { answer = 9; session = s; out = out } ≡ session.seal_piece C s msg out
  unfolding session.seal_piece answers.seal_piece
  refuses_9 s l msg out d = rw (l, ne_eqb (length msg) (length out) d)

  module _ {cs : Calls} (t : Sealing cs) (going : Going cs) where
    is_live : live C.machine.rate sealing t.last ≡ true
    is_live = sealings.seal_session_live C M key nonce ad n t (starts t) going

    seals-more : (msg out : List ℕ) → length msg ≡ length out → length (taken cs) + length msg ≤ limit
        → (out' : List ℕ) × Sealing (cs ▸ seal_piece msg out 0 out')
    seals-more msg out e fits =
        let r = session.seal_piece C t.last msg out in
        let u = next t (seal_piece msg out r.answer r.out) r.session refl in
        let z = sealings.seal_session_piece C M key nonce ad n msg out r.answer r.out u (starts u) going fits e in
        (r.out, subst (λ (a : ℕ). Sealing (cs ▸ seal_piece msg out a r.out)) z u)

    seals_more_in_place : (buf : List ℕ) → length (taken cs) + length buf ≤ limit → (buf' : List ℕ) × Sealing (cs ▸ seal_piece_in_place buf 0 buf')
    seals_more_in_place buf fits =
        let r = session.seal_piece_in_place C t.last buf in
        let u = next t (seal_piece_in_place buf r.answer r.out) r.session refl in
        let z = sealings.seal_session_piece_in_place C M key nonce ad n buf r.answer r.out u (starts u) going fits in
        (r.out, subst (λ (a : ℕ). Sealing (cs ▸ seal_piece_in_place buf a r.out)) z u)

    refuses_piece : (msg out : List ℕ) → length msg ≢ length out → Sealing (cs ▸ seal_piece msg out 9 out)
    refuses_piece msg out d = next t (seal_piece msg out 9 out) t.last (refuses_9 t.last is_live msg out d)

    seals-all : (msg : List ℕ) → taken cs ≡ msg → Sealing (cs ▸ seal_finish (zeros n) 0 (seal_tag C key nonce ad msg n))
    seals-all msg e =
        let r = session.seal_finish C t.last (zeros n) in
        let u = next t (seal_finish (zeros n) r.answer r.out) r.session refl in
        let z = sealings.seal_session_finishes C M key nonce ad n (zeros n) r.answer r.out u (starts u) going (length-replicate n 0) in
        subst (λ (a : ℕ). Sealing (cs ▸ seal_finish (zeros n) a (seal_tag C key nonce ad msg n))) z.0
        (subst (λ (tag : List ℕ). Sealing (cs ▸ seal_finish (zeros n) r.answer tag)) (z.1 ∙ ap (λ (xs : List ℕ). seal_tag C key nonce ad xs n) e) u)

    aborts : (buf : List ℕ) → Sealing (cs ▸ abort buf 0 buf)
    aborts buf = next t (abort buf 0 buf) (ended C) (sym (abort_leaves C t.last sealing (lit≤ tt) (λ e. omega arith) is_live buf))

  -- ---- a message in one piece

  pub record OnePiece (msg : List ℕ) : Type 0 where
    pub ct : List ℕ
    pub sealed : Sealing (none ▸ seal_piece_in_place msg 0 ct)
    pub finished : Sealing (none ▸ seal_piece_in_place msg 0 ct ▸ seal_finish (zeros n) 0 (seal_tag C key nonce ad msg n))

  pub seals_in_one : (msg : List ℕ) → length msg ≤ limit → OnePiece msg
  seals_in_one msg within =
      let t = seals_more_in_place begins tt msg (omega arith) in
      record { ct = t.0; sealed = t.1; finished = seals-all t.1 (tt, λ e. e) msg refl }

  -- ---- a message in two: from one buffer to another, a piece that is refused with 9, and in place

  abbrev pub two_calls : (p ct₁ q ct₂ : List ℕ) → Calls
  two_calls p ct₁ q ct₂ = none ▸ seal_piece p (zeros (length p)) 0 ct₁ ▸ seal_piece (0 ∷ q) q 9 q ▸ seal_piece_in_place q 0 ct₂

  pub record TwoPieces (p q : List ℕ) : Type 0 where
    pub ct₁ : List ℕ
    pub ct₂ : List ℕ
    pub going : Going (two_calls p ct₁ q ct₂)
    pub took : taken (two_calls p ct₁ q ct₂) ≡ p ++ q
    pub gave : given (two_calls p ct₁ q ct₂) ≡ ciphertext C key nonce ad (p ++ q)
    pub sealed : Sealing (two_calls p ct₁ q ct₂)
    -- its ends
    pub finished : Sealing (two_calls p ct₁ q ct₂ ▸ seal_finish (zeros n) 0 (seal_tag C key nonce ad (p ++ q) n))
    pub aborted : Sealing (two_calls p ct₁ q ct₂ ▸ abort p 0 p)

  pub seals_in_two : (p q : List ℕ) → length (p ++ q) ≤ limit → TwoPieces p q
  seals_in_two p q within =
      let both = length-append p q in
      let taken_is : p ++ [] ≡ p = append-nil p in
      let t₁ = seals-more begins tt p (zeros (length p)) (sym (length-replicate (length p) 0)) (omega arith) in
      let t₂ = refuses_piece t₁.1 (tt, λ e. e) (0 ∷ q) q (λ e. omega arith) in
      let t₃ = seals_more_in_place t₂ ((tt, λ e. e), λ e. e) q (rw taken_is (omega arith)) in
      let going : Going (two_calls p t₁.0 q t₃.0) = (((tt, λ e. e), λ e. e), λ e. e) in
      let took : taken (two_calls p t₁.0 q t₃.0) ≡ p ++ q = ap (λ (xs : List ℕ). xs ++ q) taken_is in
      record {
        ct₁ = t₁.0;
        ct₂ = t₃.0;
        going = going;
        took = took;
        gave = sealings.seal_session_given C M key nonce ad n t₃.1 ∙ ap (ciphertext C key nonce ad) took;
        sealed = t₃.1;
        finished = seals-all t₃.1 going (p ++ q) took;
        aborted = aborts t₃.1 going p;
      }
