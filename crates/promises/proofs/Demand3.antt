-- Demand 3, for every cipher that takes bytes to bytes.
-- Assumes nothing.
use Prim.Native.Nat.{ℕ, ◌≤◌, zero-le}
use mathlib.Core.Path.{◌≡◌, refl, sym, ap, subst, ◌∙◌}
use mathlib.Core.Logic.{◌⊎◌, inl, inr, ◌↔◌}
use mathlib.Core.List.{List, []}
use native.Mathlib.Nat.{le_refl, le_of_eq}
use native.Mathlib.Decide.{ℕ_discrete}
use lib.ListN.{length, take, length-replicate}
use Rattle.machine.specs.Bytes.{zeros, Bytes}
use Rattle.answers.specs.Answers.{limit}
use Rattle.promises.specs.Cipher.{Cipher, Mac}
use Rattle.promises.specs.Allowed.{Allowed}
use Rattle.promises.specs.Texts.{onto, ciphertext, seal_tag, mac_tag}
use Rattle.promises.specs.OneShot.{SealLeft, Left, seal_of, open_of}
use Rattle.promises.specs.Met.{OpenInPlaceMet, MacMet, MacCheckMet}
use Rattle.promises.specs.Trace.{taken, given}
use Rattle.promises.specs.Calls.{SealCall, OpenCall}
use Rattle.promises.specs.Demands.{Demand3, SealedAs, Sealed}
use Rattle.promises.proofs.Texts.{ciphertext-length, ciphertext_injective, seal_tag-length}
use Rattle.promises.proofs.Onto.{take-onto, onto-whole}
use Rattle.promises.proofs.Forms.{SealedForm, one_form, one_message, form_length}
use Rattle.promises.proofs.OneForm.{seal_answers, accepted_iff_sealed, refused_iff_not_sealed, opens_to}
use Rattle.promises.proofs.Mac.{checked_iff_mac, refused_iff_not_mac}
use Rattle.promises.proofs.MacAnswers.{MacSizes, mac_done}
use Rattle.promises.proofs.ByteTexts.{Bytewise, ciphertext-bytes, seal_tag-bytes, sealed_message_bytes}
use Rattle.promises.proofs.TracesSealing as sealing
use Rattle.promises.proofs.TracesOpening as opening
use Rattle.promises.proofs.TracesMac as macing

module _ {S : Type 0} (C : Cipher S) (M : Mac S) (key nonce ad : List ℕ) (n : ℕ) (fixed : Allowed C key nonce ad n) where
  allowed : (k : ℕ) → k ≡ n → Allowed C key nonce ad k
  allowed k e = rw e fixed

  -- ---- a sealed form is what every call makes, and the other way round

  pub form_sealed : (msg ct tag : List ℕ) → SealedForm C key nonce ad msg ct tag → length tag ≡ n → SealedAs C key nonce ad n msg ct tag
  form_sealed msg ct tag f e = record {
    within = f.within;
    as_long = form_length C key nonce ad msg ct tag f;
    own_size = e;
    every_call = λ s same.
        let k = s.met ∙ seal_answers C key nonce ad s.msg s.out s.tag (allowed (length s.tag) s.own_size) s.within s.room in (
          ap (λ (x : SealLeft). x.answer) k,
          ap (λ (x : SealLeft). x.out) k ∙ ap (λ (xs : List ℕ). onto xs s.out) (ap (ciphertext C key nonce ad) same ∙ sym f.text),
          ap (λ (x : SealLeft). x.tag) k ∙ (λ i. seal_tag C key nonce ad (same i) ((s.own_size ∙ sym e) i)) ∙ sym f.tagged,
        );
  }

  -- sealing over the message itself
  call : (msg : List ℕ) → length msg ≤ limit → SealCall C key nonce ad n
  call msg within =
      let x = seal_of C key nonce ad msg msg (zeros n) in
      record {
        msg = msg;
        out = msg;
        tag = zeros n;
        answer = x.answer;
        out' = x.out;
        tag' = x.tag;
        met = refl;
        own_size = length-replicate n 0;
        within = within;
        room = le_refl (length msg);
      }

  pub sealed_form : (msg ct tag : List ℕ) → SealedAs C key nonce ad n msg ct tag → SealedForm C key nonce ad msg ct tag
  unfolding call
  sealed_form msg ct tag a =
      let size : length (zeros n) ≡ n = length-replicate n 0 in
      let x = seal_of C key nonce ad msg msg (zeros n) in
      let k : x ≡ record { answer = 0; out = onto (ciphertext C key nonce ad msg) msg; tag = seal_tag C key nonce ad msg (length (zeros n)) } =
      seal_answers C key nonce ad msg msg (zeros n) (allowed (length (zeros n)) size) a.within (le_refl (length msg)) in
      let c = a.every_call (call msg a.within) refl in
      record {
        within = a.within;
        text =
            sym (take-onto ct msg (length msg) a.as_long)
            ∙ ap (take (length msg)) (sym c.1 ∙ ap (λ (r : SealLeft). r.out) k)
            ∙ take-onto (ciphertext C key nonce ad msg) msg (length msg) (ciphertext-length C key nonce ad msg);
        tagged = sym c.2 ∙ ap (λ (r : SealLeft). r.tag) k ∙ ap (seal_tag C key nonce ad msg) (size ∙ sym a.own_size);
      }

  -- ---- a call of open

  module _ (o : OpenCall C key nonce ad n) where
    sizes_allowed : Allowed C key nonce ad (length o.tag)
    sizes_allowed = allowed (length o.tag) o.own_size

    answered : o.answer ≡ (open_of C key nonce ad o.ct o.tag o.out).answer
    answered = ap (λ (x : Left). x.answer) o.met

    call_accepts : (o.answer ≡ 0) ↔ Sealed C key nonce ad n o.ct o.tag
    call_accepts =
        let both = accepted_iff_sealed C key nonce ad o.ct o.tag o.out sizes_allowed o.room in (
          (λ z. let f = both.0 (sym answered ∙ z) in (f.0, form_sealed f.0 o.ct o.tag f.1 o.own_size)),
          λ f. answered ∙ both.1 (f.0, sealed_form f.0 o.ct o.tag f.1),
        )

    call_refuses : (o.answer ≡ 7) ↔ (Sealed C key nonce ad n o.ct o.tag → ⊥)
    call_refuses =
        let both = refused_iff_not_sealed C key nonce ad o.ct o.tag o.out sizes_allowed o.room o.within in (
          (λ z f. both.0 (sym answered ∙ z) (f.0, sealed_form f.0 o.ct o.tag f.1)),
          λ no-form. answered ∙ both.1 (λ f. no-form (f.0, form_sealed f.0 o.ct o.tag f.1 o.own_size)),
        )

    call_yields : (msg : List ℕ) → SealedAs C key nonce ad n msg o.ct o.tag → (o.answer ≡ 0) × (o.out' ≡ onto msg o.out)
    call_yields msg f =
        let k = o.met ∙ opens_to C key nonce ad o.ct o.tag o.out sizes_allowed o.room msg (sealed_form msg o.ct o.tag f) in
        (ap (λ (x : Left). x.answer) k, ap (λ (x : Left). x.out) k)

    call_verdict : (o.answer ≡ 0) ⊎ (o.answer ≡ 7)
    call_verdict = go (ℕ_discrete o.answer 0)
      where
        go : Dec (o.answer ≡ 0) → (o.answer ≡ 0) ⊎ (o.answer ≡ 7)
        go (yes z) = inl z
        go (no z) = inr (call_refuses.1 (λ f. z (call_accepts.1 f)))

  -- ---- in place: one buffer is both

  in_place : (buf tag : List ℕ) (r : ℕ) (buf' : List ℕ) → OpenInPlaceMet C key nonce ad buf tag r buf' → length tag ≡ n → length buf ≤ limit
      → OpenCall C key nonce ad n
  in_place buf tag r buf' m size within =
      record { ct = buf; tag = tag; out = buf; answer = r; out' = buf'; met = m; own_size = size; within = within; room = le_refl (length buf) }

  in_place_opens : (buf tag : List ℕ) (r : ℕ) (buf' : List ℕ) → OpenInPlaceMet C key nonce ad buf tag r buf' → length tag ≡ n → length buf ≤ limit
      → ((r ≡ 0) ↔ Sealed C key nonce ad n buf tag) × ((msg : List ℕ) → SealedAs C key nonce ad n msg buf tag → buf' ≡ msg)
  unfolding in_place
  in_place_opens buf tag r buf' m size within = (
    call_accepts (in_place buf tag r buf' m size within),
    λ msg f. (call_yields (in_place buf tag r buf' m size within) msg f).1 ∙ onto-whole msg buf (le_of_eq f.as_long),
  )

  -- ---- the MAC

  mac_sizes : (data' tag : List ℕ) → length tag ≡ n → length data' ≤ limit → MacSizes C M key nonce data' tag
  mac_sizes data' tag size within =
      rw size (record { tag_size_ok = fixed.tag_size_ok; key_size = fixed.key_size; nonce_size = fixed.nonce_size; msg_fits = within })

  mac_allowed : Allowed C key nonce [] n
  mac_allowed = record { key_size = fixed.key_size; nonce_size = fixed.nonce_size; ad_fits = zero-le; tag_size_ok = fixed.tag_size_ok }

  one-mac : (data' tag_buf : List ℕ) (r : ℕ) (tag_buf' : List ℕ) → MacMet C M key nonce data' tag_buf r tag_buf' → length tag_buf ≡ n → length data' ≤ limit
      → (tag : List ℕ) (v : ℕ) → MacCheckMet C M key nonce data' tag v → length tag ≡ n → ((v ≡ 0) ↔ (tag ≡ tag_buf')) × ((v ≡ 0) ⊎ (v ≡ 7))
  one-mac data' tag_buf r tag_buf' m size within tag v c own =
      let made : tag_buf' ≡ mac_tag C M key nonce data' n =
      ap (λ (x : Left). x.out) (m ∙ mac_done C M key nonce data' tag_buf (mac_sizes data' tag_buf size within)) ∙ ap (mac_tag C M key nonce data') size in
      let due : mac_tag C M key nonce data' (length tag) ≡ tag_buf' = ap (mac_tag C M key nonce data') own ∙ sym made in
      let both = checked_iff_mac C M key nonce data' tag (mac_sizes data' tag own within) in
      let not = refused_iff_not_mac C M key nonce data' tag (mac_sizes data' tag own within) in (
        ((λ z. both.0 (sym c ∙ z) ∙ due), λ e. c ∙ both.1 (e ∙ sym due)),
        verdict (ℕ_discrete v 0) (λ d. c ∙ not.1 (λ e. d (c ∙ both.1 e))),
      )
    where
      verdict : Dec (v ≡ 0) → ((v ≡ 0 → ⊥) → v ≡ 7) → (v ≡ 0) ⊎ (v ≡ 7)
      verdict (yes z) other = inl z
      verdict (no z) other = inr (other z)

  -- ---- all of it

  module _ (B : Bytewise C) where
    pub demand_3 : Demand3 C M key nonce ad n
    demand_3 = record {
      has_form = λ msg within.
          let long : length (seal_tag C key nonce ad msg n) ≡ n = seal_tag-length C key nonce ad msg n fixed.tag_size_ok in (
            ciphertext C key nonce ad msg,
            seal_tag C key nonce ad msg n,
            form_sealed msg (ciphertext C key nonce ad msg) (seal_tag C key nonce ad msg n)
                (record { within = within; text = refl; tagged = ap (seal_tag C key nonce ad msg) (sym long) }) long,
          );
      one_form = λ msg ct tag ct₂ tag₂ f g.
          one_form C key nonce ad msg ct ct₂ tag tag₂ (sealed_form msg ct tag f) (sealed_form msg ct₂ tag₂ g) (f.own_size ∙ sym g.own_size);
      differ = λ msg ct tag msg₂ ct₂ tag₂ f g d e.
          d (ciphertext_injective C key nonce ad msg msg₂
          (sym (sealed_form msg ct tag f).text ∙ e ∙ (sealed_form msg₂ ct₂ tag₂ g).text));
      accepts = call_accepts;
      yields = call_yields;
      refuses = call_refuses;
      verdict = call_verdict;
      one_tag = λ o q z y same.
          let f = (call_accepts o).0 z in
          let g = (call_accepts q).0 y in
          let fo = sealed_form f.0 o.ct o.tag f.1 in
          let gq : SealedForm C key nonce ad g.0 o.ct q.tag = rw same (sealed_form g.0 q.ct q.tag g.1) in
          let m : f.0 ≡ g.0 = one_message C key nonce ad f.0 g.0 o.ct o.tag q.tag fo gq in
          (one_form C key nonce ad f.0 o.ct o.ct o.tag q.tag fo (rw m gq) (o.own_size ∙ sym q.own_size)).1;
      seal_in_place = λ buf tag_buf r buf' tag' m size within.
          let k = m ∙ seal_answers C key nonce ad buf buf tag_buf (allowed (length tag_buf) size) within (le_refl (length buf)) in
          let long : length tag' ≡ n =
          ap (λ (x : SealLeft). length x.tag) k
          ∙ seal_tag-length C key nonce ad buf (length tag_buf) (allowed (length tag_buf) size).tag_size_ok ∙ size in (
            ap (λ (x : SealLeft). x.answer) k,
            form_sealed buf buf' tag'
                (record {
                  within = within;
                  text =
                      ap (λ (x : SealLeft). x.out) k
                      ∙ onto-whole (ciphertext C key nonce ad buf) buf (le_of_eq (sym (ciphertext-length C key nonce ad buf)));
                  tagged = ap (λ (x : SealLeft). x.tag) k ∙ ap (seal_tag C key nonce ad buf) (size ∙ sym long);
                })
                long,
          );
      open_in_place = in_place_opens;
      bytes_sealed = λ bk bn ba msg ct tag f b.
          let g = sealed_form msg ct tag f in (
            subst Bytes (sym g.text) (ciphertext-bytes C B key nonce ad bk bn ba msg b),
            subst Bytes (sym g.tagged) (seal_tag-bytes C B key nonce ad bk bn ba msg (length tag) b),
          );
      bytes_opened = λ bk bn ba msg ct tag f b. sealed_message_bytes C B key nonce ad bk bn ba msg ct tag (sealed_form msg ct tag f) b;
      seal_so_far = λ t. sealing.seal_session_given C M key nonce ad n t;
      open_so_far = λ {cs} {p₀} {p} {ct} {b} {b'} {a} t z. (opening.open_session_piece_holds C M key nonce ad n p₀ ct b a b' t z).1.buffer_is;
      seal_finished = λ {cs} {tag} {tag'} {a} t g size.
          let z = (sealing.seal_session_finishes C M key nonce ad n tag a tag' t (sealing.seal_session_starts C M key nonce ad n t fixed) g size).0 in
          let f = sealing.seal_session_form C M key nonce ad n tag a tag' t z in
          (z, form_sealed (taken cs) (given cs) tag' f.1 f.0);
      mac_finished = λ {cs} {tag} {tag'} {a} t g size.
          let f = macing.mac_session_finishes C M key nonce n tag a tag' t (macing.mac_session_starts C M key nonce n t mac_allowed) g size in
          (f.0, λ tag_buf r tag_buf' m own. let k = f.2 tag_buf r tag_buf' m own in (k.0 ∙ f.0, k.1));
      open_finished = λ {cs} {p₀} {p} {tag} {b} {b'} {a} {k} t g own o text same.
          let started = opening.open_session_starts C M key nonce ad n p₀ t fixed in
          let size : length tag ≡ n = ap length (sym same) ∙ o.own_size in
          let room : length (taken cs) ≤ length o.out = subst (λ (xs : List ℕ). length xs ≤ length o.out) text o.room in
          let verdict = opening.open_session_verdict C M key nonce ad n p₀ tag b a k b' t started g own size o.out o.answer o.out'
          (o.met ∙ (λ i. open_of C key nonce ad (text i) (same i) o.out)) room in (
            verdict,
            λ z.
                let x = opening.open_session_released C M key nonce ad n p₀ tag b a k b' t z in
                let msg = x.0 in
                let long = form_length C key nonce ad msg (taken cs) tag x.1.form in
                let shot = (call_yields o msg (form_sealed msg o.ct o.tag (rw (text, same) x.1.form) o.own_size)).1 in (
                  x.1.count_is ∙ sym long,
                  ap (take k) x.1.buffer_is ∙ take-onto msg p₀ k (sym x.1.count_is)
                      ∙ sym (ap (take k) shot ∙ take-onto msg o.out k (sym x.1.count_is)),
                ),
          );
      open_finish_accepts = λ {cs} {p₀} {p} {tag} {b} {b'} {a} {k} t g size own.
          let started = opening.open_session_starts C M key nonce ad n p₀ t fixed in
          let both = opening.open_session_accepts C M key nonce ad n p₀ tag b a k b' t started g own in (
            (λ z. let f = both.0 z in (f.0, form_sealed f.0 (taken cs) tag f.2 size)),
            λ f. both.1 (f.0, size, sealed_form f.0 (taken cs) tag f.1),
          );
      open_finish_yields = λ {cs} {p₀} {p} {tag} {b} {b'} {a} {k} t z.
          let x = opening.open_session_released C M key nonce ad n p₀ tag b a k b' t z in
          (x.0, form_sealed x.0 (taken cs) tag x.1.form x.1.tag_size_ok, x.1.count_is, x.1.buffer_is);
      mac_check = λ {cs} {tag} {a} t g size r m.
          macing.mac_session_checks C M key nonce n tag a t (macing.mac_session_starts C M key nonce n t mac_allowed) g size r m;
      mac_accepts = one-mac;
      recut_seals = λ {cs} {ds} {tag} {tag'} {tag₂} {tag₂'} {a} {a₂} t z u y e.
          sealing.seal_sessions_agree C M key nonce ad n tag a tag' tag₂ a₂ tag₂' t u z y e;
      recut_differ = λ t u. sealing.seal_sessions_differ C M key nonce ad n t u;
      recut_opens = λ {cs} {ds} {tag₁} {tag₁'} {a₁} {p₀} {p} {tag} {b} {b'} {a} {k} s z t g own text same.
          let f = sealing.seal_session_form C M key nonce ad n tag₁ a₁ tag₁' s z in
          let sealed : SealedForm C key nonce ad (taken cs) (taken ds) tag = rw (text, same) f.1 in
          let started = opening.open_session_starts C M key nonce ad n p₀ t fixed in
          let zero = (opening.open_session_accepts C M key nonce ad n p₀ tag b a k b' t started g own).1 (taken cs, ap length same ∙ f.0, sealed) in
          let x = opening.open_session_released C M key nonce ad n p₀ tag b a k b' t zero in
          let m : x.0 ≡ taken cs = one_message C key nonce ad x.0 (taken cs) (taken ds) tag tag x.1.form sealed in
          (zero, x.1.count_is ∙ ap length m, x.1.buffer_is ∙ ap (λ (xs : List ℕ). onto xs p₀) m);
      joined_opens = λ {cs} {tag} {tag'} {a} t z o text same.
          let f = sealing.seal_session_form C M key nonce ad n tag a tag' t z in
          call_yields o (taken cs) (form_sealed (taken cs) o.ct o.tag (rw (text, same) f.1) o.own_size);
    }
