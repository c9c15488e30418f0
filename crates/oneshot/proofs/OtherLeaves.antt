-- What the streams and the MAC leave, for any cipher, from what their steps leave.
-- Assumes nothing.
use Prim.Native.Nat.{ℕ}
use mathlib.Core.Path.{◌≡◌, refl, sym, ap, ◌∙◌}
use mathlib.Core.List.{List, ◌++◌, append-nil}
use native.Mathlib.Nat.{le_refl}
use lib.ListN.{length}
use lib.Seq.{drop-length}
use Rattle.machine.specs.Bytes.{zeros}
use Rattle.machine.specs.Kinds.{stream_xor}
use Rattle.machine.proofs.Stream.{stream_xor-zeros}
use Rattle.answers.specs.declared.Refusal.{Refusal}
use Rattle.answers.specs.Refusals.{number}
use Rattle.answers.specs.Answers.{stream, mac, unless}
use Rattle.answers.proofs.Refusals.{number_zero}
use Rattle.answers.proofs.Answers.{StreamOk, MacOk, ok_mac}
use Rattle.lent.specs.Lent.{wiped, same}
use Rattle.lent.proofs.Wiped.{wiped-fits}
use Rattle.promises.specs.Cipher.{Cipher, Mac}
use Rattle.promises.specs.OneShot.{stream_of, stream_xor_of, mac_of, mac_check_of}
use Rattle.promises.specs.Texts.{mac_tag}
use Rattle.promises.proofs.Ladder.{refuses}
use Rattle.promises.proofs.MacAnswers.{mac_done}
use Rattle.promises.proofs.StreamAnswers.{stream_done, stream_xor_done}
use Rattle.oneshot.specs.Leaves.{left}

module _ {S : Type 0} (C : Cipher S) (key nonce : List ℕ) where
  open C use {size, machine, init}

  pub stream_refuses : (buf : List ℕ) (r : Refusal) → number r ≡ stream size (length key) (length nonce) → left (number r) buf ≡ stream_of C key nonce buf
  unfolding stream_of
  stream_refuses buf r e = refuses _ _ _ _ e (number_zero r)

  pub stream_xor_refuses : (buf : List ℕ) (r : Refusal) → number r ≡ stream size (length key) (length nonce)
      → left (number r) buf ≡ stream_xor_of C key nonce buf
  unfolding stream_xor_of
  stream_xor_refuses buf r e = refuses _ _ _ _ e (number_zero r)

  module _ (ok : StreamOk size (length key) (length nonce)) where
    pub xors-stream : (buf : List ℕ) {s : S} {ys : List ℕ} → s ≡ init key nonce → ys ≡ stream_xor machine s buf → left 0 ys ≡ stream_xor_of C key nonce buf
    xors-stream buf es ey = ap (left 0) (ey ∙ ap (λ (x : S). stream_xor machine x buf) es) ∙ sym (stream_xor_done C key nonce buf ok)

    -- a buffer wiped with zeros
    cleared : (buf : List ℕ) → wiped (length buf) 0 buf ≡ zeros (length buf)
    cleared buf =
        wiped-fits (length buf) 0 buf (le_refl (length buf))
        ∙ ap (λ (r : List ℕ). zeros (length buf) ++ r) (drop-length buf)
        ∙ append-nil (zeros (length buf))

    -- the keystream over it
    pub streams : (buf : List ℕ) {os ys : List ℕ} {a : ℕ} → os ≡ wiped (length buf) 0 buf → left a ys ≡ stream_xor_of C key nonce os
        → left a ys ≡ stream_of C key nonce buf
    streams buf eo e =
        e ∙ ap (stream_xor_of C key nonce) (eo ∙ cleared buf)
        ∙ stream_xor_done C key nonce (zeros (length buf)) ok
        ∙ ap (left 0) (stream_xor-zeros machine (init key nonce) (length buf))
        ∙ sym (stream_done C key nonce buf ok)

module _ {S : Type 0} (C : Cipher S) (M : Mac S) (key nonce data' tag : List ℕ) where
  open C use {size}

  pub mac_refuses : (r : Refusal) → number r ≡ mac size (length tag) (length key) (length nonce) (length data')
      → left (number r) tag ≡ mac_of C M key nonce data' tag
  unfolding mac_of
  mac_refuses r e = refuses _ _ _ _ e (number_zero r)

  pub check_refuses : (r : Refusal) → number r ≡ mac size (length tag) (length key) (length nonce) (length data')
      → number r ≡ mac_check_of C M key nonce data' tag
  unfolding mac_check_of
  check_refuses r e = refuses _ _ _ _ e (number_zero r)

  module _ (ok : MacOk size (length tag) (length key) (length nonce) (length data')) {t : List ℕ} (et : t ≡ mac_tag C M key nonce data' (length tag)) where
    pub macs_leaves : left 0 t ≡ mac_of C M key nonce data' tag
    macs_leaves = ap (left 0) et ∙ sym (mac_done C M key nonce data' tag ok)

    -- the answer of the verdict
    pub checks : {a : ℕ} → a ≡ unless 7 (same tag t) 0 → a ≡ mac_check_of C M key nonce data' tag
    unfolding mac_check_of
    checks ea = ea ∙ ap (λ (x : List ℕ). unless 7 (same tag x) 0) et ∙ rw (ok_mac ok) refl
