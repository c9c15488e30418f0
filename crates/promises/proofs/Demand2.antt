-- Demand 2, for every cipher: with answer 0 each one-shot gives what the draft's text gives.
-- Assumes nothing.
use Prim.Native.Nat.{ℕ, ◌<◌}
use mathlib.Core.Path.{◌≡◌, refl, sym, ap, ◌∙◌}
use mathlib.Core.List.{List, [], ◌∷◌}
use native.Mathlib.Omega.{arith}
use lib.ListN.{length}
use Rattle.machine.specs.Bytes.{zeros, xors}
use Rattle.machine.specs.Draft.{draft_absorb, draft_encrypt, draft_decrypt, draft_decrypt_state}
use Rattle.machine.specs.Kinds.{keystream, stream_xor}
use Rattle.promises.specs.Cipher.{Cipher, Mac}
use Rattle.promises.specs.Texts.{onto, keyed, ciphertext, plaintext, seal_tag, open_tag, mac_tag, mac_state}
use Rattle.promises.specs.OneShot.{SealLeft, Left, stream_xor_of}
use Rattle.promises.specs.Met.{SealMet, OpenMet, StreamMet, StreamXorMet, MacMet}
use Rattle.promises.specs.Demands.{Demand2}
use Rattle.promises.proofs.SealAnswers.{seal_done, seal_zero}
use Rattle.promises.proofs.OpenAnswers.{open_released, open_zero}
use Rattle.promises.proofs.StreamAnswers.{StreamSizes, stream_done, stream_zero, stream_xor_done, stream_xor_zero}
use Rattle.promises.proofs.StreamTwice.{stream_xor_call_twice}
use Rattle.promises.proofs.MacAnswers.{mac_done, mac_zero}
use Rattle.promises.proofs.OneForm.{seal_answers}

module _ {S : Type 0} (C : Cipher S) (M : Mac S) where
  open C use {size, machine, init, tag}

  -- a contract that is met says what its definition does
  seal_is : (key nonce ad msg out tag_buf : List ℕ) (r : ℕ) (out' tag' : List ℕ) → SealMet C key nonce ad msg out tag_buf r out' tag' → r ≡ 0
      → let state = draft_absorb machine (init key nonce) ad in
      (out' ≡ onto (draft_encrypt machine state msg) out) × (tag' ≡ tag (draft_absorb machine state msg) (length ad) (length msg) (length tag_buf))
  unfolding keyed ciphertext seal_tag
  seal_is key nonce ad msg out tag_buf r out' tag' m z =
      let k = m ∙ seal_done C key nonce ad msg out tag_buf (seal_zero C key nonce ad msg out tag_buf (sym (ap (λ (x : SealLeft). x.answer) m) ∙ z)) in
      (ap (λ (x : SealLeft). x.out) k, ap (λ (x : SealLeft). x.tag) k)

  open_is : (key nonce ad ct tag_in out : List ℕ) (r : ℕ) (out' : List ℕ) → OpenMet C key nonce ad ct tag_in out r out' → r ≡ 0
      → let state = draft_absorb machine (init key nonce) ad in
      (out' ≡ onto (draft_decrypt machine state ct) out) × (tag_in ≡ tag (draft_decrypt_state machine state ct) (length ad) (length ct) (length tag_in))
  unfolding keyed plaintext open_tag
  open_is key nonce ad ct tag_in out r out' m z =
      let k = open_zero C key nonce ad ct tag_in out (sym (ap (λ (x : Left). x.answer) m) ∙ z) in
      (ap (λ (x : Left). x.out) (m ∙ open_released C key nonce ad ct tag_in out k.0 k.1), k.1)

  stream_is : (key nonce out : List ℕ) (r : ℕ) (out' : List ℕ) → StreamMet C key nonce out r out' → r ≡ 0
      → out' ≡ draft_encrypt machine (init key nonce) (zeros (length out))
  unfolding keystream
  stream_is key nonce out r out' m z =
      ap (λ (x : Left). x.out) (m ∙ stream_done C key nonce out (stream_zero C key nonce out (sym (ap (λ (x : Left). x.answer) m) ∙ z)))

  xor_is : (key nonce buf : List ℕ) (r : ℕ) (buf' : List ℕ) → StreamXorMet C key nonce buf r buf' → r ≡ 0
      → buf' ≡ xors buf (draft_encrypt machine (init key nonce) (zeros (length buf)))
  unfolding keystream stream_xor
  xor_is key nonce buf r buf' m z =
      ap (λ (x : Left). x.out) (m ∙ stream_xor_done C key nonce buf (stream_xor_zero C key nonce buf (sym (ap (λ (x : Left). x.answer) m) ∙ z)))

  mac_is : (key nonce data' tag_buf : List ℕ) (r : ℕ) (tag' : List ℕ) → MacMet C M key nonce data' tag_buf r tag' → r ≡ 0
      → tag' ≡ mac_tag C M key nonce data' (length tag_buf)
  mac_is key nonce data' tag_buf r tag' m z =
      ap (λ (x : Left). x.out)
      (m ∙ mac_done C M key nonce data' tag_buf (mac_zero C M key nonce data' tag_buf (sym (ap (λ (x : Left). x.answer) m) ∙ z)))

  mac_of_some : (key nonce data' : List ℕ) (n : ℕ) → 0 < length data'
      → mac_tag C M key nonce data' n ≡ tag (draft_absorb machine (init key nonce) data') (length data') n n
  unfolding mac_tag mac_state
  mac_of_some key nonce [] n h = absurd (omega arith)
  mac_of_some key nonce (x ∷ xs) n h = refl

  mac_of-none : (key nonce : List ℕ) (n : ℕ) → mac_tag C M key nonce [] n ≡ tag (M.empty (init key nonce)) 0 n n
  unfolding mac_tag mac_state
  mac_of-none key nonce n = refl

  pub demand_2 : Demand2 C M
  demand_2 = record {
    seal_is_encrypt = seal_is;
    open_is_decrypt = open_is;
    stream_is_stream = stream_is;
    stream_xor_is_xor = xor_is;
    stream_xor_back = λ key nonce buf r buf' r₂ buf₂ m z m₂.
        let k = m₂ ∙ ap (λ (x : Left). stream_xor_of C key nonce x.out) m
        ∙ stream_xor_call_twice C key nonce buf (sym (ap (λ (x : Left). x.answer) m) ∙ z) in
        (ap (λ (x : Left). x.answer) k, ap (λ (x : Left). x.out) k);
    mac_is_01s = λ key nonce data' tag_buf r tag' m z h. mac_is key nonce data' tag_buf r tag' m z ∙ mac_of_some key nonce data' (length tag_buf) h;
    mac_of_nothing = λ key nonce tag_buf r tag' m z. mac_is key nonce [] tag_buf r tag' m z ∙ mac_of-none key nonce (length tag_buf);
    sealed = λ key nonce ad n a s.
        ap (λ (x : SealLeft). x.answer)
        (s.met ∙ seal_answers C key nonce ad s.msg s.out s.tag (rw s.own_size a) s.within s.room);
    streamed = λ key nonce k n buf r buf'.
        let sizes : StreamSizes C key nonce buf = record { key_size = k; nonce_size = n } in (
          (λ m. ap (λ (x : Left). x.answer) (m ∙ stream_done C key nonce buf sizes)),
          λ m. ap (λ (x : Left). x.answer) (m ∙ stream_xor_done C key nonce buf sizes),
        );
    maced = λ key nonce n a data' tag_buf r tag' m size within.
        ap (λ (x : Left). x.answer)
        (m ∙ mac_done C M key nonce data' tag_buf (rw size (record { tag_size_ok = a.tag_size_ok; key_size = a.key_size; nonce_size = a.nonce_size; msg_fits = within })));
  }
