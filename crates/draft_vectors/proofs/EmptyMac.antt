-- The MAC of no data is not the draft's, as numbers: key and nonce of zeros, a tag of 16 bytes.
-- Assumes nothing.
use Prim.Native.Nat.{ℕ}
use mathlib.Core.Path.{◌≡◌, refl, sym, ap, ◌∙◌}
use mathlib.Core.Logic.{◌≢◌}
use mathlib.Core.List.{List, []}
use native.Mathlib.Omega.{arith}
use lib.ListN.{get_or}
use Rattle.machine.specs.Bytes.{zeros}
use Rattle.machine.specs.Draft.{absorb_blocks, zero_pad, blocks, split, draft_absorb}
use Rattle.machine.specs.Lengths.{length_block}
use Rattle.promises.specs.Texts.{mac_state, mac_tag}
use Rattle.aes.specs.Field.{xtime, mul_bits, mul}
use Rattle.aes.specs.Round.{mixed, xor_of}
use Rattle.aegis128l.specs.Aegis128L.{machine, absorb, loaded, init, tag16, tag}
use Rattle.aegis128l.specs.Cipher.{aegis128l, mac_of_aegis128l}
use Rattle.draft_vectors.specs.Vectors.{hex}
use Rattle.draft_vectors.proofs.Computing.{computed, absorbs}
use Rattle.draft_vectors.proofs.Phases.{finally, is_final, absorbing, is_absorbing, starting, is_starting}

-- ---- the MAC of document 01, which absorbs a block of zeros

ours : List ℕ
ours = starting (zeros 16) (zeros 16) (absorbing (zeros 32) (finally 0 16 tag16))

is_ours : ours ≡ mac_tag aegis128l mac_of_aegis128l (zeros 16) (zeros 16) [] 16
unfolding ours mac_tag mac_state tag draft_absorb absorb_blocks zero_pad blocks split
is_ours =
    is_starting (zeros 16) (zeros 16) (absorbing (zeros 32) (finally 0 16 tag16))
    ∙ is_absorbing (zeros 32) (finally 0 16 tag16) (init (zeros 16) (zeros 16))
    ∙ is_final 0 16 tag16 (absorb (init (zeros 16) (zeros 16)) (zeros 32))

ours_computes : ours ≡ hex 16 0xf4d997cc9b94227ada4fe4165422b1c8
unfolding ours xtime mul_bits mul mixed xor_of loaded length_block tag16 zero_pad blocks split computed absorbs finally absorbing starting
ours_computes = refl

pub mac_of_nothing : mac_tag aegis128l mac_of_aegis128l (zeros 16) (zeros 16) [] 16 ≡ hex 16 0xf4d997cc9b94227ada4fe4165422b1c8
mac_of_nothing = sym is_ours ∙ ours_computes

-- ---- the draft's, which absorbs nothing

drafts : List ℕ
drafts = starting (zeros 16) (zeros 16) (absorbing [] (finally 0 16 tag16))

is_drafts : drafts ≡ tag (draft_absorb machine (init (zeros 16) (zeros 16)) []) 0 16 16
unfolding drafts tag
is_drafts =
    is_starting (zeros 16) (zeros 16) (absorbing [] (finally 0 16 tag16))
    ∙ is_absorbing [] (finally 0 16 tag16) (init (zeros 16) (zeros 16))
    ∙ is_final 0 16 tag16 (draft_absorb machine (init (zeros 16) (zeros 16)) [])

drafts_computes : drafts ≡ hex 16 0xada15a2a09d214f19b1eb8b2db375063
unfolding drafts xtime mul_bits mul mixed xor_of loaded length_block tag16 zero_pad blocks split computed absorbs finally absorbing starting
drafts_computes = refl

pub draft_mac_of_nothing : tag (draft_absorb machine (init (zeros 16) (zeros 16)) []) 0 16 16 ≡ hex 16 0xada15a2a09d214f19b1eb8b2db375063
draft_mac_of_nothing = sym is_drafts ∙ drafts_computes

pub macs_of_nothing_differ : mac_tag aegis128l mac_of_aegis128l (zeros 16) (zeros 16) [] 16 ≢ tag (draft_absorb machine (init (zeros 16) (zeros 16)) []) 0 16 16
macs_of_nothing_differ e =
    let first : ◌≡◌ {A = ℕ} 0xf4 0xad = ap (λ (t : List ℕ). get_or t 0 0) (sym mac_of_nothing ∙ e ∙ draft_mac_of_nothing) in
    omega arith
