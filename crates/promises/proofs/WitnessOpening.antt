-- Opening sessions that meet what the demands take as given. Under any key, nonce, associated data and tag size that are allowed, a session that no
-- call has ended goes on with every piece within the limit and the room, is finished with 0 by the right tag and with 7 by a wrong one, and is
-- aborted with 0. So there is one for every message, every cut of its ciphertext in two and every buffer with room for it, with another buffer
-- lent in between. And one that was started for another length than its buffer's.
-- Assumes nothing.
use Prim.Native.Nat.{ℕ, zero, ◌+◌, ◌≤◌, ◌<◌}
use mathlib.Core.Path.{◌≡◌, refl, sym, ap, subst, ◌∙◌}
use mathlib.Core.Bool.{true, false}
use mathlib.Core.Logic.{inl, inr, ◌≢◌}
use mathlib.Core.List.{List, [], ◌∷◌, ◌++◌, append-nil}
use native.Mathlib.Omega.{arith}
use lib.ListN.{length, drop, get_or, length-append, get_or-append}
use borrow.Author.Tests.{ne_eqb}
use Rattle.answers.specs.Answers.{limit}
use Rattle.answers.specs.Answers as answers
use Rattle.answers.proofs.Answers.{tag_size_positive}
use Rattle.promises.specs.Cipher.{Cipher, Mac}
use Rattle.promises.specs.Allowed.{Allowed}
use Rattle.promises.specs.Texts.{onto, ciphertext, plaintext, seal_tag, open_tag}
use Rattle.promises.specs.SessionCalls.{open_start}
use Rattle.promises.specs.Session.{Session, opening, live}
use Rattle.promises.specs.SessionCalls as session
use Rattle.promises.specs.Met.{OpenStartMet}
use Rattle.promises.specs.Trace.{Made, open_piece, open_finish, abort, Calls, none, ◌▸◌, taken, Going, Over, Keeps, AllLentOther}
use Rattle.promises.specs.Trace.{Met, Trace, at_start, made, at_first, kept, OpenSession}
use Rattle.promises.proofs.Allowed.{allowed_sizes}
use Rattle.promises.proofs.Texts.{ciphertext-length, plaintext-length, plaintext-ciphertext, seal_tag-length, open_tag-ciphertext}
use Rattle.promises.proofs.Onto.{length-onto}
use Rattle.promises.proofs.OpenAnswers.{open_erased}
use Rattle.promises.proofs.Other.{other, other_length, other_first, other_differs}
use Rattle.promises.proofs.SessionLive.{ended_not_live}
use Rattle.promises.proofs.SessionCalls.{open_piece-over}
use Rattle.promises.proofs.MadeCalls.{stays-over}
use Rattle.promises.proofs.TracesOpening as openings
use Rattle.promises.proofs.TracesAborting.{open_session_aborts}

module _ {S : Type 0} (C : Cipher S) (M : Mac S) (key nonce ad : List ℕ) (n : ℕ) (fixed : Allowed C key nonce ad n) (p₀ : List ℕ) where
  abbrev Opening : Calls → List ℕ → Type 0
  Opening cs p = OpenSession C M key nonce ad n p₀ cs p

  -- ---- a session that goes on, and one call more

  abbrev begins : Opening none p₀
  begins =
      let r = open_start C key nonce ad n (length p₀) in
      record { started = r.answer; first = r.session; last = r.session; start_met = refl; trace = at_start; buffer = at_first }

  abbrev next : {cs : Calls} {p : List ℕ} (t : Opening cs p) (c : Made) (s' : Session S) (p' : List ℕ) → Met C M t.last c s'
      → Keeps (length p₀) p c p' → Opening (cs ▸ c) p'
  next t c s' p' m k = record {
    started = t.started;
    first = t.first;
    last = s';
    start_met = t.start_met;
    trace = made t.trace c m;
    buffer = kept t.buffer c k;
  }

  pub starts : {cs : Calls} {p : List ℕ} (t : Opening cs p) → t.started ≡ 0
  starts t = openings.open_session_starts C M key nonce ad n p₀ t fixed

  -- a buffer of another length than the room
  refuses_10 : (s : Session S) → live C.machine.rate opening s ≡ true → (ct b : List ℕ) → length b ≢ s.room
      → record { answer = 10; session = s; out = b } ≡ session.open_piece C s ct b
  unfolding session.open_piece answers.open_piece
  refuses_10 s l ct b d = rw (l, ne_eqb (length b) s.room d)

  refuses_10_at_end : (s : Session S) → live C.machine.rate opening s ≡ true → (tag b : List ℕ) → length b ≢ s.room
      → record { answer = 10; count = 0; session = s; out = b } ≡ session.open_finish C s tag b
  unfolding session.open_finish answers.open_finish
  refuses_10_at_end s l tag b d = rw (l, ne_eqb (length b) s.room d)

  module _ {cs : Calls} {p : List ℕ} (t : Opening cs p) (going : Going cs) where
    holds : openings.Holds C M key nonce ad n p₀ (taken cs) p
    holds = openings.open_session_holds C M key nonce ad n p₀ t (starts t) going

    same_length : length p ≡ length p₀
    same_length =
        ap length holds.buffer_is
        ∙ length-onto (plaintext C key nonce ad (taken cs)) p₀ (rw (plaintext-length C key nonce ad (taken cs)) holds.in_room)

    opens-more : (ct : List ℕ) → length (taken cs) + length ct ≤ length p₀ → length (taken cs) + length ct ≤ limit
        → (p' : List ℕ) × Opening (cs ▸ open_piece ct p 0 p') p'
    opens-more ct room fits =
        let r = session.open_piece C t.last ct p in
        let u = next t (open_piece ct p r.answer r.out) r.session r.out refl (inl (refl, refl)) in
        let z = openings.open_session_piece C M key nonce ad n p₀ ct p r.answer r.out u (starts u) going same_length room fits in
        (r.out, subst (λ (a : ℕ). Opening (cs ▸ open_piece ct p a r.out) r.out) z u)

    module _ (b : List ℕ) (d : length b ≢ length p₀) where
      is_live : (live C.machine.rate opening t.last ≡ true) × (t.last.room ≡ length p₀)
      is_live = openings.open_session_live C M key nonce ad n p₀ t (starts t) going

      refuses_buffer : (ct : List ℕ) → Opening (cs ▸ open_piece ct b 10 b) p
      refuses_buffer ct =
          next t (open_piece ct b 10 b) t.last p (refuses_10 t.last is_live.0 ct b (λ e. d (e ∙ is_live.1))) (inr (d, refl))

      refuses_buffer_at_end : (tag : List ℕ) → Opening (cs ▸ open_finish tag b 10 0 b) p
      refuses_buffer_at_end tag =
          next t (open_finish tag b 10 0 b) t.last p (refuses_10_at_end t.last is_live.0 tag b (λ e. d (e ∙ is_live.1))) (inr (d, refl))

    -- what was taken is the ciphertext of msg
    module _ (msg : List ℕ) (text : taken cs ≡ ciphertext C key nonce ad msg) where
      abbrev due : List ℕ
      due = seal_tag C key nonce ad msg n

      long : length due ≡ n
      long = seal_tag-length C key nonce ad msg n fixed.tag_size_ok

      holds_text : p ≡ onto msg p₀
      holds_text =
          holds.buffer_is ∙ ap (λ (xs : List ℕ). onto (plaintext C key nonce ad xs) p₀) text
          ∙ ap (λ (xs : List ℕ). onto xs p₀) (plaintext-ciphertext C key nonce ad msg)

      releases : (k : ℕ) × (p' : List ℕ) × Opening (cs ▸ open_finish due p 0 k p') p'
      releases =
          let r = session.open_finish C t.last due p in
          let u = next t (open_finish due p r.answer r.count r.out) r.session r.out refl (inl (refl, refl)) in
          let within : length msg ≤ limit = rw (← (ap length text ∙ ciphertext-length C key nonce ad msg)) holds.within in
          let z = (openings.open_session_accepts C M key nonce ad n p₀ due p r.answer r.count r.out u (starts u) going same_length).1
          (msg, long, record { within = within; text = text; tagged = ap (seal_tag C key nonce ad msg) (sym long) }) in
          (r.count, r.out, subst (λ (a : ℕ). Opening (cs ▸ open_finish due p a r.count r.out) r.out) z u)

      refuses_tag : (tag : List ℕ) → length tag ≡ n → tag ≢ due → (k : ℕ) × (p' : List ℕ) × Opening (cs ▸ open_finish tag p 7 k p') p'
      refuses_tag tag size d =
          let r = session.open_finish C t.last tag p in
          let u = next t (open_finish tag p r.answer r.count r.out) r.session r.out refl (inl (refl, refl)) in
          let is-due : open_tag C key nonce ad (taken cs) (length tag) ≡ due =
          (λ i. open_tag C key nonce ad (text i) (size i)) ∙ open_tag-ciphertext C key nonce ad msg n in
          let sizes = allowed_sizes C key nonce ad tag (taken cs) p₀ (rw size fixed) holds.within holds.in_room in
          let z = openings.open_session_verdict C M key nonce ad n p₀ tag p r.answer r.count r.out u (starts u) going same_length size p₀ 7 _
          (sym (open_erased C key nonce ad (taken cs) tag p₀ sizes (λ e. d (e ∙ is-due)))) holds.in_room in
          (r.count, r.out, subst (λ (a : ℕ). Opening (cs ▸ open_finish tag p a r.count r.out) r.out) z u)

    aborts : (p' : List ℕ) × Opening (cs ▸ abort p 0 p') p'
    aborts =
        let r = session.abort C t.last p in
        let u = next t (abort p r.answer r.out) r.session r.out refl (inl (refl, refl)) in
        (r.out, subst (λ (a : ℕ). Opening (cs ▸ abort p a r.out) r.out) (open_session_aborts C M u (starts u) going same_length) u)

  -- and behind its end
  pub opens_no_more : {cs : Calls} {p : List ℕ} (t : Opening cs p) → Over cs → (ct : List ℕ) → Opening (cs ▸ open_piece ct p 8 p) p
  opens_no_more {cs} {p} t o ct =
      let dead : live C.machine.rate opening t.last ≡ false =
      ap (live C.machine.rate opening) (stays-over C M t.trace o) ∙ ended_not_live C opening in
      next t (open_piece ct p 8 p) t.last p (sym (open_piece-over C t.last ct p dead)) (inl (refl, refl))

  -- ---- a ciphertext in two pieces, with another buffer in between, which is refused with 10

  abbrev pub two_calls : (p p₁ q p₂ : List ℕ) → Calls
  two_calls p p₁ q p₂ = none ▸ open_piece p p₀ 0 p₁ ▸ open_piece q (0 ∷ p₀) 10 (0 ∷ p₀) ▸ open_piece q p₁ 0 p₂

  pub record TwoPieces (msg p q : List ℕ) : Type 0 where
    pub p₁ : List ℕ
    pub p₂ : List ℕ
    pub going : Going (two_calls p p₁ q p₂)
    pub took : taken (two_calls p p₁ q p₂) ≡ ciphertext C key nonce ad msg
    pub opened : Opening (two_calls p p₁ q p₂) p₂
    pub own : length p₂ ≡ length p₀
    pub text : p₂ ≡ onto msg p₀
    -- its ends
    pub released : (k : ℕ) × (p' : List ℕ) × Opening (two_calls p p₁ q p₂ ▸ open_finish (seal_tag C key nonce ad msg n) p₂ 0 k p') p'
    pub refused : (k : ℕ) × (p' : List ℕ) × Opening (two_calls p p₁ q p₂ ▸ open_finish (other (seal_tag C key nonce ad msg n)) p₂ 7 k p') p'
    pub aborted : (p' : List ℕ) × Opening (two_calls p p₁ q p₂ ▸ abort p₂ 0 p') p'

  pub opens_in_two : (msg p q : List ℕ) → p ++ q ≡ ciphertext C key nonce ad msg → length msg ≤ limit → length msg ≤ length p₀ → TwoPieces msg p q
  opens_in_two msg p q cut within room =
      let both : length p + length q ≡ length msg = sym (length-append p q) ∙ ap length cut ∙ ciphertext-length C key nonce ad msg in
      let taken_is : p ++ [] ≡ p = append-nil p in
      let t₁ = opens-more begins tt p (omega arith) (omega arith) in
      let t₂ = refuses_buffer t₁.1 (tt, λ e. e) (0 ∷ p₀) (λ e. omega arith) q in
      let t₃ = opens-more t₂ ((tt, λ e. e), λ e. e) q (rw taken_is (omega arith)) (rw taken_is (omega arith)) in
      let going : Going (two_calls p t₁.0 q t₃.0) = (((tt, λ e. e), λ e. e), λ e. e) in
      let took : taken (two_calls p t₁.0 q t₃.0) ≡ ciphertext C key nonce ad msg = ap (λ (xs : List ℕ). xs ++ q) taken_is ∙ cut in
      let due = seal_tag C key nonce ad msg n in
      let long : length due ≡ n = seal_tag-length C key nonce ad msg n fixed.tag_size_ok in
      record {
        p₁ = t₁.0;
        p₂ = t₃.0;
        going = going;
        took = took;
        opened = t₃.1;
        own = same_length t₃.1 going;
        text = holds_text t₃.1 going msg took;
        released = releases t₃.1 going msg took;
        refused = refuses_tag t₃.1 going msg took (other due) (other_length due ∙ long) (other_differs due (rw long (tag_size_positive n fixed.tag_size_ok)));
        aborted = aborts t₃.1 going;
      }

  -- if the buffer's first byte was not the message's, it has changed by then
  pub first_changed : {msg p q : List ℕ} (w : TwoPieces msg p q) → zero < length msg → get_or p₀ 0 0 ≢ get_or msg 0 0 → get_or w.p₂ 0 0 ≢ get_or p₀ 0 0
  first_changed {msg} w some d e =
      d (sym e ∙ ap (λ (xs : List ℕ). get_or xs 0 0) w.text ∙ get_or-append msg (drop (length msg) p₀) 0 0 some)

  -- ---- started for the length of p₀ and lent another buffer: a piece and a finish

  abbrev pub other_calls : (b ct tag : List ℕ) → Calls
  other_calls b ct tag = none ▸ open_piece ct b 10 b ▸ open_finish tag b 10 0 b

  pub record OtherRoom (b ct tag : List ℕ) : Type 0 where
    pub first : Session S
    pub last : Session S
    pub start_met : OpenStartMet C key nonce ad n (length p₀) 0 first
    pub trace : Trace C M first (other_calls b ct tag) last
    pub lent_other : AllLentOther (length p₀) (other_calls b ct tag)

  pub opens_nothing : (b ct tag : List ℕ) → length b ≢ length p₀ → OtherRoom b ct tag
  opens_nothing b ct tag d =
      let t = refuses_buffer_at_end (refuses_buffer begins tt b d ct) (tt, λ e. e) b d tag in
      record {
        first = t.first;
        last = t.last;
        start_met = subst (λ (a : ℕ). OpenStartMet C key nonce ad n (length p₀) a t.first) (starts t) t.start_met;
        trace = t.trace;
        lent_other = ((tt, d), d);
      }

-- a buffer with more room than for the message, whose first byte is not the message's
abbrev pub unlike : List ℕ → List ℕ
unlike msg = other msg ++ (7 ∷ 7 ∷ [])

pub unlike_room : (msg : List ℕ) → length msg < length (unlike msg)
unlike_room msg = let l = other_length msg in let k = length-append (other msg) (7 ∷ 7 ∷ []) in omega arith

pub unlike_first : (msg : List ℕ) → zero < length msg → get_or (unlike msg) 0 0 ≢ get_or msg 0 0
unlike_first msg some e =
    other_first msg some (sym e ∙ get_or-append (other msg) (7 ∷ 7 ∷ []) 0 0 (rw (other_length msg) some))
