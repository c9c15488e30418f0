-- What the answers of the one-shots say of a record: where a call answers 0 and leaves what is recorded, the definitions give it too.
-- Assumes nothing.
use Prim.Native.Nat.{ℕ}
use mathlib.Core.Path.{◌≡◌, refl, sym, ap, subst, ◌∙◌}
use mathlib.Core.Bool.{Bool, true, false}
use mathlib.Core.List.{List}
use native.Mathlib.Nat.{le_of_eq}
use lib.ListN.{length, replicate, length-replicate}
use Rattle.std.specs.Prelude.{Option, Some, OnSome, Result, Ok, Err, ⊤}
use Rattle.std.specs.Bool.{then_some}
use Rattle.std.specs.Result.{result_ok}
use Rattle.std.proofs.lemmas.Option.{none-some}
use Rattle.answers.specs.declared.Refusal.{Refusal}
use Rattle.answers.specs.Refusals.{answer_of}
use Rattle.machine.specs.Bytes.{zeros}
use Rattle.machine.specs.Kinds.{keystream, stream_xor}
use Rattle.machine.proofs.Stream.{stream_xor-length, stream_xor-zeros, stream_xor_twice}
use Rattle.promises.specs.Texts.{ciphertext, plaintext, seal_tag, mac_tag}
use Rattle.promises.specs.OneShot.{SealLeft, Left}
use Rattle.promises.specs.OneShot.{seal_of, seal_in_place_of, open_of, open_in_place_of, mac_of, stream_of, stream_xor_of}
use Rattle.promises.proofs.Texts.{ciphertext-length, plaintext-length}
use Rattle.promises.proofs.Onto.{onto-whole}
use Rattle.promises.proofs.SealAnswers.{seal_zero, seal_done}
use Rattle.promises.proofs.OpenAnswers.{open_zero, open_released, open_seven, open_erased}
use Rattle.promises.proofs.MacAnswers.{mac_zero, mac_done}
use Rattle.promises.proofs.StreamAnswers.{stream_zero, stream_done, stream_xor_zero, stream_xor_done}
use Rattle.aegis128l.specs.Aegis128L.{machine, init}
use Rattle.aegis128l.specs.Cipher.{aegis128l, mac_of_aegis128l}
use Rattle.oneshot.specs.Leaves.{seal_left, left}
use Rattle.recorded.specs.Records.{Sealed, Opened, Refused, Maced, Streamed}

-- a call that is no error answers 0
pub done : {A : Type 0} (r : Result A Refusal) {x : A} → Some x ≡ result_ok r → answer_of r ≡ 0
done (Ok x) e = refl
done (Err e) h = absurd (none-some _ (sym h))

-- what a question that is answered with yes says
pub said : {P : Type 0} (yes : Bool) {o : Option ⊤} → o ≡ then_some yes tt → (yes ≡ true → P) → OnSome o P
said {P = P} true e h = subst (λ (o : Option ⊤). OnSome o P) (sym e) (h refl)
said {P = P} false e h = subst (λ (o : Option ⊤). OnSome o P) (sym e) tt

module _ (key nonce ad : List ℕ) where
  -- ---- sealing

  pub seal_says : (msg buf made : List ℕ) {ct tag out t : List ℕ} {a : ℕ}
      → seal_left a out t ≡ seal_of aegis128l key nonce ad msg buf made → a ≡ 0
      → length buf ≡ length msg → length made ≡ length tag → out ≡ ct → t ≡ tag → Sealed key nonce ad msg ct tag
  seal_says msg buf made e z nb nm oc tt' =
      let zero = sym (ap (λ (r : SealLeft). r.answer) e) ∙ z in
      let done = e ∙ seal_done aegis128l key nonce ad msg buf made (seal_zero aegis128l key nonce ad msg buf made zero) in
      let whole = onto-whole (ciphertext aegis128l key nonce ad msg) buf (le_of_eq (nb ∙ sym (ciphertext-length aegis128l key nonce ad msg))) in
      record {
        text = sym oc ∙ ap (λ (r : SealLeft). r.out) done ∙ whole;
        tagged = sym tt' ∙ ap (λ (r : SealLeft). r.tag) done ∙ ap (seal_tag aegis128l key nonce ad msg) nm;
      }

  pub seal_in_place_says : (msg made : List ℕ) {ct tag buf out t : List ℕ} {a : ℕ} → buf ≡ msg
      → seal_left a out t ≡ seal_in_place_of aegis128l key nonce ad buf made → a ≡ 0
      → length made ≡ length tag → out ≡ ct → t ≡ tag → Sealed key nonce ad msg ct tag
  seal_in_place_says msg made {ct = ct} {tag = tag} {buf = buf} is e z nm oc tt' =
      subst (λ (m : List ℕ). Sealed key nonce ad m ct tag) is (seal_says buf buf made e z refl nm oc tt')

  -- ---- opening

  module _ (ct tag buf : List ℕ) {out bytes : List ℕ} {a : ℕ} (e : left a out ≡ open_of aegis128l key nonce ad ct tag buf)
      (nb : length buf ≡ length ct) (ob : out ≡ bytes) where
    answered : (n : ℕ) → a ≡ n → (open_of aegis128l key nonce ad ct tag buf).answer ≡ n
    answered n z = sym (ap (λ (r : Left). r.answer) e) ∙ z

    pub open_says : a ≡ 0 → Opened key nonce ad bytes ct tag
    open_says z =
        let k = open_zero aegis128l key nonce ad ct tag buf (answered 0 z) in
        let done = e ∙ open_released aegis128l key nonce ad ct tag buf k.0 k.1 in
        let whole = onto-whole (plaintext aegis128l key nonce ad ct) buf (le_of_eq (nb ∙ sym (plaintext-length aegis128l key nonce ad ct))) in
        record { text = sym ob ∙ ap (λ (r : Left). r.out) done ∙ whole; tagged = k.1 }

    pub refuse_says : a ≡ 7 → Refused key nonce ad bytes ct tag
    refuse_says z =
        let k = open_seven aegis128l key nonce ad ct tag buf (answered 7 z) in
        let done = e ∙ open_erased aegis128l key nonce ad ct tag buf k.0 k.1 in
        let whole = onto-whole (replicate (length ct) 0xaa) buf (le_of_eq (nb ∙ sym (length-replicate {A = ℕ} (length ct) 0xaa))) in
        record { differs = k.1; erased = sym ob ∙ ap (λ (r : Left). r.out) done ∙ whole }

  -- in place: the buffer holds the ciphertext
  module _ (ct tag : List ℕ) {buf out bytes : List ℕ} {a : ℕ} (is : buf ≡ ct) (e : left a out ≡ open_in_place_of aegis128l key nonce ad buf tag)
      (ob : out ≡ bytes) where
    pub open_in_place_says : a ≡ 0 → Opened key nonce ad bytes ct tag
    open_in_place_says z = subst (λ (x : List ℕ). Opened key nonce ad bytes x tag) is (open_says buf tag buf e refl ob z)

    pub refuse_in_place_says : a ≡ 7 → Refused key nonce ad bytes ct tag
    refuse_in_place_says z = subst (λ (x : List ℕ). Refused key nonce ad bytes x tag) is (refuse_says buf tag buf e refl ob z)

module _ (key nonce : List ℕ) where
  -- ---- the MAC

  pub mac_says : (data' made : List ℕ) {tag out : List ℕ} {a : ℕ} → left a out ≡ mac_of aegis128l mac_of_aegis128l key nonce data' made → a ≡ 0
      → length made ≡ length tag → out ≡ tag → Maced key nonce data' tag
  mac_says data' made e z nm ot =
      let zero = sym (ap (λ (r : Left). r.answer) e) ∙ z in
      let done = e ∙ mac_done aegis128l mac_of_aegis128l key nonce data' made (mac_zero aegis128l mac_of_aegis128l key nonce data' made zero) in
      record { tagged = sym ot ∙ ap (λ (r : Left). r.out) done ∙ ap (mac_tag aegis128l mac_of_aegis128l key nonce data') nm }

  -- ---- the stream

  pub stream_says : (buf : List ℕ) {ks out : List ℕ} {a : ℕ} → left a out ≡ stream_of aegis128l key nonce buf → a ≡ 0
      → length buf ≡ length ks → out ≡ ks → Streamed key nonce ks
  stream_says buf e z nb ok =
      let zero = sym (ap (λ (r : Left). r.answer) e) ∙ z in
      let done = e ∙ stream_done aegis128l key nonce buf (stream_zero aegis128l key nonce buf zero) in
      record { text = sym ok ∙ ap (λ (r : Left). r.out) done ∙ ap (keystream machine (init key nonce)) nb }

  -- what xors to zeros is the keystream
  pub cancel_says : (ks : List ℕ) {buf out : List ℕ} {a : ℕ} → buf ≡ ks → left a out ≡ stream_xor_of aegis128l key nonce buf → a ≡ 0
      → out ≡ zeros (length out) → Streamed key nonce ks
  cancel_says ks {buf = buf} {out = out} is e z oz =
      let s = init key nonce in
      let zero = sym (ap (λ (r : Left). r.answer) e) ∙ z in
      let done = ap (λ (r : Left). r.out) (e ∙ stream_xor_done aegis128l key nonce buf (stream_xor_zero aegis128l key nonce buf zero)) in
      let n : length out ≡ length ks = ap length done ∙ stream_xor-length machine s buf ∙ ap length is in
      record {
        text =
            sym is
            ∙ sym (stream_xor_twice machine s buf)
            ∙ ap (stream_xor machine s) (sym done ∙ oz)
            ∙ stream_xor-zeros machine s (length out)
            ∙ ap (keystream machine s) n;
      }
