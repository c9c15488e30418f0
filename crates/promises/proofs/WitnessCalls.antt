-- One-shot calls that meet what the demands take as given: under any key, nonce, associated data and tag size that are allowed every message within
-- the limit is sealed into every buffer with room, its sealed form is opened and with another tag refused, and its MAC is made, checked and with
-- another tag refused. In place the buffer is the message, or the ciphertext.
-- Assumes nothing.
use Prim.Native.Nat.{ℕ, ◌≤◌}
use mathlib.Core.Path.{◌≡◌, refl, sym, ap, ◌∙◌}
use mathlib.Core.List.{List}
use lib.ListN.{length, replicate, length-replicate}
use Rattle.machine.specs.Bytes.{zeros}
use Rattle.machine.specs.Kinds.{keystream, stream_xor}
use Rattle.answers.specs.Answers.{limit}
use Rattle.answers.proofs.Answers.{tag_size_positive}
use Rattle.promises.specs.Cipher.{Cipher, Mac}
use Rattle.promises.specs.Allowed.{Allowed}
use Rattle.promises.specs.Texts.{onto, ciphertext, seal_tag, open_tag, mac_tag}
use Rattle.promises.specs.Met.{SealMet, OpenMet, StreamMet, StreamXorMet, MacMet, MacCheckMet}
use Rattle.promises.specs.Calls.{SealCall, OpenCall}
use Rattle.promises.specs.Demands.{SealedAs}
use Rattle.promises.proofs.Allowed.{allowed_sizes}
use Rattle.promises.proofs.Texts.{ciphertext-length, seal_tag-length, open_tag-ciphertext, mac_tag-length}
use Rattle.promises.proofs.Forms.{SealedForm}
use Rattle.promises.proofs.Other.{other, other_length, other_differs}
use Rattle.promises.proofs.OneForm.{seal_answers, opens_to}
use Rattle.promises.proofs.OpenAnswers.{open_erased}
use Rattle.promises.proofs.StreamAnswers.{stream_done, stream_xor_done}
use Rattle.promises.proofs.MacAnswers.{MacSizes, mac_done, check_passes, check_fails}
use Rattle.promises.proofs.Demand3.{form_sealed}

module _ {S : Type 0} (C : Cipher S) (M : Mac S) (key nonce ad : List ℕ) (n : ℕ) (fixed : Allowed C key nonce ad n) where
  open C use {machine, init}

  allowed : (k : ℕ) → k ≡ n → Allowed C key nonce ad k
  allowed k e = rw e fixed

  -- ---- a message

  module _ (msg : List ℕ) (within : length msg ≤ limit) where
    abbrev ct : List ℕ
    ct = ciphertext C key nonce ad msg

    abbrev due : List ℕ
    due = seal_tag C key nonce ad msg n

    long : length due ≡ n
    long = seal_tag-length C key nonce ad msg n fixed.tag_size_ok

    other_long : length (other due) ≡ n
    other_long = other_length due ∙ long

    form : SealedForm C key nonce ad msg ct due
    form = record { within = within; text = refl; tagged = ap (seal_tag C key nonce ad msg) (sym long) }

    pub has_form : SealedAs C key nonce ad n msg ct due
    has_form = form_sealed C M key nonce ad n fixed msg ct due form long

    ct_within : length ct ≤ limit
    ct_within = rw (ciphertext-length C key nonce ad msg) within

    not_due : other due ≡ open_tag C key nonce ad ct (length (other due)) → ⊥
    not_due e =
        other_differs due (rw long (tag_size_positive n fixed.tag_size_ok))
        (e ∙ ap (open_tag C key nonce ad ct) other_long ∙ open_tag-ciphertext C key nonce ad msg n)

    -- sealed into a buffer, and opened into one; it is the message itself in place, or the ciphertext
    pub sealed_met : (out : List ℕ) → length msg ≤ length out → SealMet C key nonce ad msg out (zeros n) 0 (onto ct out) due
    sealed_met out room =
        let own : length (zeros n) ≡ n = length-replicate n 0 in
        ap (λ (k : ℕ). record { answer = 0; out = onto ct out; tag = seal_tag C key nonce ad msg k }) (sym own)
        ∙ sym (seal_answers C key nonce ad msg out (zeros n) (allowed (length (zeros n)) own) within room)

    pub opened_met : (out : List ℕ) → length ct ≤ length out → OpenMet C key nonce ad ct due out 0 (onto msg out)
    opened_met out room = sym (opens_to C key nonce ad ct due out (allowed (length due) long) room msg form)

    pub refused_met : (out : List ℕ) → length ct ≤ length out → OpenMet C key nonce ad ct (other due) out 7 (onto (replicate (length ct) 0xaa) out)
    refused_met out room =
        sym (open_erased C key nonce ad ct (other due) out
        (allowed_sizes C key nonce ad (other due) ct out (allowed (length (other due)) other_long) ct_within room) not_due)

    -- so there are such calls
    pub sealed : (out : List ℕ) → length msg ≤ length out → (s : SealCall C key nonce ad n) × (s.msg ≡ msg) × (s.answer ≡ 0)
    sealed out room =
        let s : SealCall C key nonce ad n = record {
          msg = msg;
          out = out;
          tag = zeros n;
          answer = 0;
          out' = onto ct out;
          tag' = due;
          met = sealed_met out room;
          own_size = length-replicate n 0;
          within = within;
          room = room;
        } in
        (s, refl, refl)

    opening : (tag out : List ℕ) (a : ℕ) (out' : List ℕ) → OpenMet C key nonce ad ct tag out a out' → length tag ≡ n → length ct ≤ length out
        → (o : OpenCall C key nonce ad n) × (o.ct ≡ ct) × (o.tag ≡ tag) × (o.answer ≡ a)
    opening tag out a out' m own room =
        let o : OpenCall C key nonce ad n = record { ct = ct; tag = tag; out = out; answer = a; out' = out'; met = m; own_size = own; within = ct_within; room = room } in
        (o, refl, refl, refl)

    pub opened : (out : List ℕ) → length ct ≤ length out → (o : OpenCall C key nonce ad n) × (o.ct ≡ ct) × (o.tag ≡ due) × (o.answer ≡ 0)
    opened out room = opening due out 0 (onto msg out) (opened_met out room) long room

    pub refused : (out : List ℕ) → length ct ≤ length out → (o : OpenCall C key nonce ad n) × (o.ct ≡ ct) × (o.tag ≡ other due) × (o.answer ≡ 7)
    refused out room = opening (other due) out 7 (onto (replicate (length ct) 0xaa) out) (refused_met out room) other_long room

  -- ---- the keystream

  pub streamed : (out : List ℕ) → StreamMet C key nonce out 0 (keystream machine (init key nonce) (length out))
  streamed out = sym (stream_done C key nonce out (record { key_size = fixed.key_size; nonce_size = fixed.nonce_size }))

  pub xored : (buf : List ℕ) → StreamXorMet C key nonce buf 0 (stream_xor machine (init key nonce) buf)
  xored buf = sym (stream_xor_done C key nonce buf (record { key_size = fixed.key_size; nonce_size = fixed.nonce_size }))

  -- ---- the MAC

  module _ (data' : List ℕ) (within : length data' ≤ limit) where
    abbrev mac : List ℕ
    mac = mac_tag C M key nonce data' n

    mac_long : length mac ≡ n
    mac_long = mac_tag-length C M key nonce data' n fixed.tag_size_ok

    sizes : (tag : List ℕ) → length tag ≡ n → MacSizes C M key nonce data' tag
    sizes tag e = rw e (record { tag_size_ok = fixed.tag_size_ok; key_size = fixed.key_size; nonce_size = fixed.nonce_size; msg_fits = within })

    pub maced : MacMet C M key nonce data' (zeros n) 0 (mac_tag C M key nonce data' (length (zeros n)))
    maced = sym (mac_done C M key nonce data' (zeros n) (sizes (zeros n) (length-replicate n 0)))

    pub checked : MacCheckMet C M key nonce data' mac 0
    checked = sym (check_passes C M key nonce data' mac (sizes mac mac_long) (ap (mac_tag C M key nonce data') (sym mac_long)))

    pub check_refused : MacCheckMet C M key nonce data' (other mac) 7
    check_refused =
        let l : length (other mac) ≡ n = other_length mac ∙ mac_long in
        sym (check_fails C M key nonce data' (other mac) (sizes (other mac) l)
        (λ e. other_differs mac (rw mac_long (tag_size_positive n fixed.tag_size_ok)) (e ∙ ap (mac_tag C M key nonce data') l)))
