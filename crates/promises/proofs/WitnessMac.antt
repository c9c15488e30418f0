-- MAC sessions that meet what the demands take as given. Under any key, nonce and tag size that are allowed, a session that no call has ended goes on
-- with every piece within the limit, is finished with 0, checked with 0 by the right tag and with 7 by a wrong one, and aborted with 0. So there is
-- one for all data and every cut of it in two, with a call in between that is refused.
-- Assumes nothing.
use Prim.Native.Nat.{ℕ, suc, ◌+◌, ◌≤◌}
use mathlib.Core.Path.{◌≡◌, refl, sym, ap, subst, ◌∙◌}
use mathlib.Core.Bool.{true}
use mathlib.Core.Logic.{◌≢◌}
use mathlib.Core.List.{List, [], ◌++◌, append-nil}
use native.Mathlib.Omega.{arith}
use lib.Dec.{lit≤}
use lib.ListN.{length, length-append, length-replicate}
use borrow.Author.Tests.{ne_eqb}
use Rattle.machine.specs.Bytes.{zeros}
use Rattle.answers.specs.Answers.{limit}
use Rattle.answers.specs.Answers as answers
use Rattle.answers.proofs.Answers.{ok_piece}
use Rattle.promises.specs.Cipher.{Cipher, Mac}
use Rattle.promises.specs.Allowed.{Allowed}
use Rattle.promises.specs.Texts.{mac_tag}
use Rattle.promises.specs.SessionCalls.{mac_start}
use Rattle.promises.specs.Session.{Session, macing, ended, live}
use Rattle.promises.specs.SessionCalls as session
use Rattle.promises.specs.Met.{MacCheckMet}
use Rattle.promises.specs.Trace.{Made, mac_piece, mac_finish, mac_finish_check, abort, Calls, none, ◌▸◌, taken, Going, Met, at_start, made, MacSession}
use Rattle.promises.proofs.Texts.{mac_tag-length}
use Rattle.promises.proofs.Other.{other, other_length}
use Rattle.promises.proofs.SessionAt.{session_at}
use Rattle.promises.proofs.TracesMac as macs
use Rattle.promises.proofs.WitnessCalls as calls
use Rattle.promises.proofs.TracesAborting.{abort_leaves}

module _ {S : Type 0} (C : Cipher S) (M : Mac S) (key nonce : List ℕ) (n : ℕ) (fixed : Allowed C key nonce [] n) where
  abbrev Macing : Calls → Type 0
  Macing cs = MacSession C M key nonce n cs

  -- ---- a session that goes on, and one call more

  abbrev begins : Macing none
  begins =
      let r = mac_start C key nonce n in
      record { started = r.answer; first = r.session; last = r.session; start_met = refl; trace = at_start }

  abbrev next : {cs : Calls} (t : Macing cs) (c : Made) (s' : Session S) → Met C M t.last c s' → Macing (cs ▸ c)
  next t c s' m = record { started = t.started; first = t.first; last = s'; start_met = t.start_met; trace = made t.trace c m }

  pub starts : {cs : Calls} (t : Macing cs) → t.started ≡ 0
  starts t = macs.mac_session_starts C M key nonce n t fixed

  takes : (s : Session S) → live C.machine.rate macing s ≡ true → (data' : List ℕ) → s.msg_length + length data' ≤ limit
      → (session.mac_piece C s data').answer ≡ 0
  unfolding session.mac_piece
  takes s l data' fits = rw (ok_piece (record { is_live = l; total_fits = fits }))

  -- a tag buffer of another size than the session's
  refuses_1 : (s : Session S) → live C.machine.rate macing s ≡ true → (tag : List ℕ) → length tag ≢ s.tag_size
      → record { answer = 1; session = s; out = tag } ≡ session.mac_finish C M s tag
  unfolding session.mac_finish answers.finish
  refuses_1 s l tag d = rw (l, ne_eqb (length tag) s.tag_size d)

  module _ {cs : Calls} (t : Macing cs) (going : Going cs) where
    is_live : live C.machine.rate macing t.last ≡ true
    is_live = macs.mac_session_live C M key nonce n t (starts t) going

    counts : (t.last.msg_length ≡ length (taken cs)) × (t.last.tag_size ≡ n)
    unfolding session_at
    counts =
        let e = (macs.still_live C M key nonce n t (starts t) going).session_is in
        (ap (λ (s : Session S). s.msg_length) e, ap (λ (s : Session S). s.tag_size) e)

    takes_more : (data' : List ℕ) → length (taken cs) + length data' ≤ limit → Macing (cs ▸ mac_piece data' 0)
    takes_more data' fits =
        let r = session.mac_piece C t.last data' in
        subst (λ (a : ℕ). Macing (cs ▸ mac_piece data' a)) (takes t.last is_live data' (rw counts.0 fits))
        (next t (mac_piece data' r.answer) r.session refl)

    refuses_size : (tag : List ℕ) → length tag ≢ n → Macing (cs ▸ mac_finish tag 1 tag)
    refuses_size tag d = next t (mac_finish tag 1 tag) t.last (refuses_1 t.last is_live tag (λ e. d (e ∙ counts.1)))

    macs-all : (data' : List ℕ) → taken cs ≡ data' → Macing (cs ▸ mac_finish (zeros n) 0 (mac_tag C M key nonce data' n))
    macs-all data' e =
        let r = session.mac_finish C M t.last (zeros n) in
        let u = next t (mac_finish (zeros n) r.answer r.out) r.session refl in
        let z = macs.mac_session_finishes C M key nonce n (zeros n) r.answer r.out u (starts u) going (length-replicate n 0) in
        subst (λ (a : ℕ). Macing (cs ▸ mac_finish (zeros n) a (mac_tag C M key nonce data' n))) z.0
        (subst (λ (tag : List ℕ). Macing (cs ▸ mac_finish (zeros n) r.answer tag)) (z.1 ∙ ap (λ (xs : List ℕ). mac_tag C M key nonce xs n) e) u)

    checks_all : (tag : List ℕ) → length tag ≡ n → (a : ℕ) → MacCheckMet C M key nonce (taken cs) tag a → Macing (cs ▸ mac_finish_check tag a)
    checks_all tag e a m =
        let r = session.mac_finish_check C M t.last tag in
        let u = next t (mac_finish_check tag r.answer) r.session refl in
        subst (λ (b : ℕ). Macing (cs ▸ mac_finish_check tag b)) (macs.mac_session_checks C M key nonce n tag r.answer u (starts u) going e a m) u

    aborts : (buf : List ℕ) → Macing (cs ▸ abort buf 0 buf)
    aborts buf = next t (abort buf 0 buf) (ended C) (sym (abort_leaves C t.last macing (lit≤ tt) (λ e. omega arith) is_live buf))

  -- ---- data in two pieces, and in between a finish with another tag size, which is refused with 1

  abbrev pub two_calls : (p q : List ℕ) → Calls
  two_calls p q = none ▸ mac_piece p 0 ▸ mac_finish (zeros (suc n)) 1 (zeros (suc n)) ▸ mac_piece q 0

  pub record TwoPieces (p q : List ℕ) : Type 0 where
    pub going : Going (two_calls p q)
    pub took : taken (two_calls p q) ≡ p ++ q
    pub maced : Macing (two_calls p q)
    -- its ends
    pub finished : Macing (two_calls p q ▸ mac_finish (zeros n) 0 (mac_tag C M key nonce (p ++ q) n))
    pub checked : Macing (two_calls p q ▸ mac_finish_check (mac_tag C M key nonce (p ++ q) n) 0)
    pub refused : Macing (two_calls p q ▸ mac_finish_check (other (mac_tag C M key nonce (p ++ q) n)) 7)
    pub aborted : Macing (two_calls p q ▸ abort p 0 p)

  pub macs_in_two : (p q : List ℕ) → length (p ++ q) ≤ limit → TwoPieces p q
  macs_in_two p q within =
      let both = length-append p q in
      let taken_is : p ++ [] ≡ p = append-nil p in
      let long : length (zeros (suc n)) ≡ suc n = length-replicate (suc n) 0 in
      let t₁ = takes_more begins tt p (omega arith) in
      let t₂ = refuses_size t₁ (tt, λ e. e) (zeros (suc n)) (λ e. omega arith) in
      let t₃ = takes_more t₂ ((tt, λ e. e), λ e. omega arith) q (rw taken_is (omega arith)) in
      let going : Going (two_calls p q) = (((tt, λ e. e), λ e. omega arith), λ e. e) in
      let took : taken (two_calls p q) ≡ p ++ q = ap (λ (xs : List ℕ). xs ++ q) taken_is in
      let mac = mac_tag C M key nonce (p ++ q) n in
      let mac_long : length mac ≡ n = mac_tag-length C M key nonce (p ++ q) n fixed.tag_size_ok in
      record {
        going = going;
        took = took;
        maced = t₃;
        finished = macs-all t₃ going (p ++ q) took;
        checked = checks_all t₃ going mac mac_long 0 (rw took (calls.checked C M key nonce [] n fixed (p ++ q) within));
        refused = checks_all t₃ going (other mac) (other_length mac ∙ mac_long) 7 (rw took (calls.check_refused C M key nonce [] n fixed (p ++ q) within));
        aborted = aborts t₃ going p;
      }
