-- What the steps of a one-shot come to, for any cipher: the state after key, nonce and data, the machine over a text in place, and the tag at the end.
-- Assumes nothing.
use Prim.Native.Nat.{ℕ}
use mathlib.Core.Path.{◌≡◌, refl, ap, ◌∙◌}
use mathlib.Core.List.{List, [], ◌∷◌}
use native.Mathlib.Nat.{suc-ne-zero}
use lib.ListN.{length}
use Rattle.machine.specs.Machine.{Core, Mode, enc, dec, start, after, out, close}
use Rattle.machine.specs.Draft.{draft_absorb}
use Rattle.machine.proofs.Draft.{absorbs, encrypts, decrypts, decrypts_state}
use Rattle.promises.specs.Cipher.{Cipher, Mac}
use Rattle.promises.specs.Texts.{keyed, ciphertext, plaintext, seal_tag, open_tag, mac_state, mac_tag}

module _ {S : Type 0} (C : Cipher S) (key nonce ad : List ℕ) where
  open C use {machine, init, tag}

  -- the machine once key, nonce and associated data are in
  abbrev fresh : Core S
  fresh = start machine (keyed C key nonce ad)

  pub begun : {s₀ s : S} {c : Core S} → s₀ ≡ init key nonce → s ≡ draft_absorb machine s₀ ad → c ≡ start machine s → c ≡ fresh
  unfolding keyed
  begun e₀ e₁ e₂ = e₂ ∙ ap (start machine) (e₁ ∙ ap (λ (x : S). draft_absorb machine x ad) e₀)

  -- it goes over a text, and is closed
  pub ends : (m : Mode) (xs : List ℕ) {c d : Core S} {e : S} → c ≡ fresh → d ≡ after machine m c xs → e ≡ close machine d
      → e ≡ close machine (after machine m fresh xs)
  ends m xs ec ed ee = ee ∙ ap (close machine) (ed ∙ ap (λ (x : Core S). after machine m x xs) ec)

  pub gives : (m : Mode) (xs : List ℕ) {c : Core S} {ys : List ℕ} → c ≡ fresh → ys ≡ out machine m c xs → ys ≡ out machine m fresh xs
  gives m xs ec ey = ey ∙ ap (λ (x : Core S). out machine m x xs) ec

  module _ (xs : List ℕ) where
    pub seals : {ys : List ℕ} → ys ≡ out machine enc fresh xs → ys ≡ ciphertext C key nonce ad xs
    unfolding ciphertext
    seals ey = ey ∙ encrypts machine (keyed C key nonce ad) xs

    pub seals-tag : {e : S} {t : List ℕ} (n : ℕ) → e ≡ close machine (after machine enc fresh xs) → t ≡ tag e (length ad) (length xs) n
        → t ≡ seal_tag C key nonce ad xs n
    unfolding seal_tag
    seals-tag n ee et = et ∙ ap (λ (z : S). tag z (length ad) (length xs) n) (ee ∙ absorbs machine (keyed C key nonce ad) xs)

    pub opens : {ys : List ℕ} → ys ≡ out machine dec fresh xs → ys ≡ plaintext C key nonce ad xs
    unfolding plaintext
    opens ey = ey ∙ decrypts machine (keyed C key nonce ad) xs

    pub opens-tag : {e : S} (n : ℕ) → e ≡ close machine (after machine dec fresh xs) → tag e (length ad) (length xs) n ≡ open_tag C key nonce ad xs n
    unfolding open_tag
    opens-tag n ee = ap (λ (z : S). tag z (length ad) (length xs) n) (ee ∙ decrypts_state machine (keyed C key nonce ad) xs)

-- ---- the MAC: of data, and of none

module _ {S : Type 0} (C : Cipher S) (M : Mac S) where
  open C use {machine, init, tag}

  pub macs : (s₀ : S) (data' : List ℕ) {s e : S} → (length data' ≡ 0 → ⊥) → s ≡ s₀ → e ≡ draft_absorb machine s data'
      → e ≡ mac_state C M s₀ data'
  unfolding mac_state
  macs s₀ [] some es ee = absurd (some refl)
  macs s₀ (x ∷ xs) some es ee = ee ∙ ap (λ (z : S). draft_absorb machine z (x ∷ xs)) es

  pub macs-none : (s₀ : S) (data' : List ℕ) {s e : S} → length data' ≡ 0 → s ≡ s₀ → e ≡ M.empty s
      → e ≡ mac_state C M s₀ data'
  unfolding mac_state
  macs-none s₀ [] none es ee = ee ∙ ap M.empty es
  macs-none s₀ (x ∷ xs) none es ee = absurd (suc-ne-zero (length xs) none)

  pub macs-tag : (key nonce data' : List ℕ) {e : S} {first second : ℕ} {t : List ℕ} (n : ℕ) → e ≡ mac_state C M (init key nonce) data'
      → first ≡ length data' → second ≡ n → t ≡ tag e first second n → t ≡ mac_tag C M key nonce data' n
  unfolding mac_tag
  macs-tag key nonce data' n ee ef es et = et ∙ (λ i. tag (ee i) (ef i) (es i) n)
