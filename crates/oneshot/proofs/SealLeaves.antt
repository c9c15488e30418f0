-- What sealing leaves, for any cipher, from what its steps leave: the message is laid over the output, and sealed there, or sealed in place.
-- Assumes nothing.
use Prim.Native.Nat.{ℕ}
use mathlib.Core.Path.{◌≡◌, sym, ap, ◌∙◌}
use mathlib.Core.List.{List, ◌++◌}
use lib.ListN.{length, take, drop}
use Rattle.answers.specs.declared.Refusal.{Refusal}
use Rattle.answers.specs.Refusals.{number}
use Rattle.answers.proofs.Refusals.{number_zero}
use Rattle.lent.specs.Lent.{over}
use Rattle.promises.specs.Cipher.{Cipher}
use Rattle.promises.specs.OneShot.{seal_of}
use Rattle.promises.specs.Texts.{onto, ciphertext, seal_tag}
use Rattle.promises.proofs.Allowed.{ladder, Sizes}
use Rattle.promises.proofs.Ladder.{refuses}
use Rattle.promises.proofs.SealAnswers.{seal_done}
use Rattle.promises.proofs.Texts.{ciphertext-length}
use Rattle.oneshot.specs.Leaves.{seal_left}
use Rattle.oneshot.proofs.Laid.{text_there, worked_over, worked_in_place}

module _ {S : Type 0} (C : Cipher S) (key nonce ad : List ℕ) where
  abbrev sealing : List ℕ → List ℕ
  sealing = ciphertext C key nonce ad

  as_long : (msg : List ℕ) → length (sealing msg) ≡ length msg
  as_long = ciphertext-length C key nonce ad

  pub seal_refuses : (msg out tag : List ℕ) (r : Refusal) → number r ≡ ladder C key nonce ad tag msg out
      → seal_left (number r) out tag ≡ seal_of C key nonce ad msg out tag
  unfolding seal_of
  seal_refuses msg out tag r e = refuses _ _ _ _ e (number_zero r)

  module _ (msg out tag : List ℕ) (ok : Sizes C key nonce ad tag msg out) where
    sealed : {ys t : List ℕ} → ys ≡ onto (sealing msg) out → t ≡ seal_tag C key nonce ad msg (length tag)
        → seal_left 0 ys t ≡ seal_of C key nonce ad msg out tag
    sealed ey et = (λ i. seal_left 0 (ey i) (et i)) ∙ sym (seal_done C key nonce ad msg out tag ok)

    -- the message was laid over the output as o, and its bytes there came back as ys
    pub seals-over : {o ys t : List ℕ} → o ≡ over msg out → ys ≡ sealing (take (length msg) o)
        → t ≡ seal_tag C key nonce ad (take (length msg) o) (length tag)
        → seal_left 0 (ys ++ drop (length msg) o) t ≡ seal_of C key nonce ad msg out tag
    seals-over eo ey et =
        sealed (worked_over msg out ok.in_room eo sealing (as_long msg) ey)
        (et ∙ ap (λ (x : List ℕ). seal_tag C key nonce ad x (length tag)) (text_there msg out ok.in_room eo))

  -- in place the buffer becomes the ciphertext
  pub seals_in_place : (buf tag : List ℕ) → Sizes C key nonce ad tag buf buf → {ys t : List ℕ} → ys ≡ sealing buf
      → t ≡ seal_tag C key nonce ad buf (length tag) → seal_left 0 ys t ≡ seal_of C key nonce ad buf buf tag
  seals_in_place buf tag ok ey et = sealed buf buf tag ok (worked_in_place sealing buf (as_long buf) ey) et
