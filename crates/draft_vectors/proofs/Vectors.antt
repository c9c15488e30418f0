-- The definitions give the draft's test vectors, by computation: of a form that computes fast, and is the definitions' on every input.
-- Assumes nothing.
use Prim.Native.Nat.{ℕ}
use mathlib.Core.Path.{◌≡◌, refl, sym, ap, ◌∙◌}
use mathlib.Core.Logic.{◌≢◌}
use mathlib.Core.List.{List, [], ◌∷◌, map}
use native.Mathlib.Omega.{arith}
use lib.ListN.{length, take, get_or}
use Rattle.machine.specs.Draft.{zero_pad, blocks, split, draft_absorb, draft_encrypt}
use Rattle.machine.specs.Lengths.{length_block}
use Rattle.promises.specs.Texts.{keyed, ciphertext, seal_tag, mac_state, mac_tag}
use Rattle.aes.specs.Field.{xtime, mul_bits, mul}
use Rattle.aes.specs.Round.{mixed, xor_of, and_of}
use Rattle.aegis128l.specs.Aegis128L.{Blocks, machine, keystream, loaded, init, finalized, tag16, tag32, tag}
use Rattle.aegis128l.specs.Cipher.{aegis128l}
use Rattle.draft_vectors.specs.Vectors.{key, nonce, Sealed, sealed, Vector, vectors, Maced, input, maced, mac_must}
use Rattle.draft_vectors.proofs.Computing.{computed, absorbs, encrypts, is_encrypted}
use Rattle.draft_vectors.proofs.Phases.{padded, finally, is_final, absorbing, is_absorbing, starting, is_starting}

-- ---- sealing

module _ (ad msg : List ℕ) where
  abbrev given : Blocks → Blocks → Sealed
  given a f = record { ct = take (length msg) (encrypts a (padded msg)); tag16 = tag16 f; tag32 = tag32 f }

  unfoldable seals : Sealed
  seals = starting key nonce (absorbing ad (λ a. absorbing msg (finally (length ad) (length msg) (given a)) a))

  is_sealed : seals ≡ sealed ad msg
  unfolding seals keyed ciphertext seal_tag draft_encrypt tag
  is_sealed =
      is_starting key nonce (absorbing ad (λ a. absorbing msg (finally (length ad) (length msg) (given a)) a))
      ∙ is_absorbing ad (λ a. absorbing msg (finally (length ad) (length msg) (given a)) a) (init key nonce)
      ∙ is_absorbing msg (finally (length ad) (length msg) (given (keyed aegis128l key nonce ad))) (keyed aegis128l key nonce ad)
      ∙ is_final (length ad) (length msg) (given (keyed aegis128l key nonce ad)) (draft_absorb machine (keyed aegis128l key nonce ad) msg)
      ∙ ap (λ (c : List ℕ). record { ct = take (length msg) c; tag16 = seal_tag aegis128l key nonce ad msg 16; tag32 = seal_tag aegis128l key nonce ad msg 32 })
      (is_encrypted (keyed aegis128l key nonce ad) (padded msg))

all-sealed : (vs : List Vector) → map (λ v. seals v.ad v.msg) vs ≡ map (λ v. sealed v.ad v.msg) vs
all-sealed [] = refl
all-sealed (v ∷ vs) = λ i. is_sealed v.ad v.msg i ∷ all-sealed vs i

computes : map (λ v. seals v.ad v.msg) vectors ≡ map (λ v. v.must) vectors
unfolding xtime mul_bits mul mixed xor_of and_of keystream loaded length_block tag16 tag32 zero_pad blocks split computed absorbs encrypts finally absorbing starting seals
computes = refl

pub hold : map (λ v. sealed v.ad v.msg) vectors ≡ map (λ v. v.must) vectors
hold = sym (all-sealed vectors) ∙ computes

-- the tags of the second vector: the one of 16 bytes is not the first half of the one of 32
second : List Sealed → Sealed
second [] = record { ct = []; tag16 = []; tag32 = [] }
second (v ∷ []) = v
second (v ∷ w ∷ vs) = w

pub short_tag_is_not_half : seal_tag aegis128l key nonce [] [] 16 ≢ take 16 (seal_tag aegis128l key nonce [] [] 32)
unfolding second
short_tag_is_not_half e =
    let short = ap (λ (l : List Sealed). get_or (second l).tag16 0 0) hold in
    let long = ap (λ (l : List Sealed). get_or (take 16 (second l).tag32) 0 0) hold in
    let first : ◌≡◌ {A = ℕ} 0xc2 0x13 = sym short ∙ ap (λ (t : List ℕ). get_or t 0 0) e ∙ long in
    omega arith

-- ---- the MAC

abbrev tags : Blocks → Blocks → Maced
tags f g = record { tag16 = tag16 f; tag32 = tag32 g }

abbrev both_sizes : Blocks → Maced
both_sizes m = finally (length input) 16 (λ f. finally (length input) 32 (tags f) m) m

macs : Maced
macs = starting key nonce (absorbing input both_sizes)

is_maced : macs ≡ maced
unfolding macs mac_tag mac_state tag
is_maced =
    let m = draft_absorb machine (init key nonce) input in
    is_starting key nonce (absorbing input both_sizes)
    ∙ is_absorbing input both_sizes (init key nonce)
    ∙ is_final (length input) 16 (λ f. finally (length input) 32 (tags f) m) m
    ∙ is_final (length input) 32 (tags (finalized m (length input) 16)) m

mac_computes : macs ≡ mac_must
unfolding xtime mul_bits mul mixed xor_of loaded length_block tag16 tag32 zero_pad blocks split computed absorbs finally absorbing starting macs
mac_computes = refl

pub mac_holds : maced ≡ mac_must
mac_holds = sym is_maced ∙ mac_computes
