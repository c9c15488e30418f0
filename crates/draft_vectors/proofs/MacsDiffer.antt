-- Two inputs whose MACs differ under one key and one nonce, the draft's: the data of its MAC vector, and no data. So a MAC with one fixed tag does not
-- meet the promises.
-- Assumes nothing.
use Prim.Native.Nat.{ℕ}
use mathlib.Core.Path.{◌≡◌, refl, sym, ap, ◌∙◌}
use mathlib.Core.Logic.{◌≢◌}
use mathlib.Core.List.{List, [], ◌∷◌}
use native.Mathlib.Omega.{arith}
use lib.ListN.{get_or}
use Rattle.machine.specs.Bytes.{zeros}
use Rattle.machine.specs.Draft.{absorb_blocks, zero_pad, blocks, split, draft_absorb}
use Rattle.promises.specs.Texts.{keyed, seal_tag, mac_state, mac_tag}
use Rattle.aegis128l.specs.Cipher.{aegis128l, mac_of_aegis128l}
use Rattle.draft_vectors.specs.Vectors.{key, nonce, Sealed, Maced, input}
use Rattle.draft_vectors.proofs.Vectors.{hold, mac_holds}

-- the MAC of no data absorbs a block of zeros, and its lengths are 0 and 128 bits: what sealing 16 zeros with no associated data comes to, too, which
-- is the draft's first vector
pub mac_of-none : (k n : List ℕ) → mac_tag aegis128l mac_of_aegis128l k n [] 16 ≡ seal_tag aegis128l k n [] (zeros 16) 16
unfolding mac_tag mac_state seal_tag keyed draft_absorb absorb_blocks zero_pad blocks split
mac_of-none k n = refl

first : List Sealed → List ℕ
first [] = []
first (v ∷ vs) = v.tag16

pub macs_differ : mac_tag aegis128l mac_of_aegis128l key nonce input 16 ≢ mac_tag aegis128l mac_of_aegis128l key nonce [] 16
unfolding first
macs_differ e =
    let some = ap (λ (m : Maced). get_or m.tag16 0 0) mac_holds in
    let none = ap (λ (vs : List Sealed). get_or (first vs) 0 0) hold in
    let byte : ◌≡◌ {A = ℕ} 0xd3 0xab = sym some ∙ ap (λ (t : List ℕ). get_or t 0 0) (e ∙ mac_of-none key nonce) ∙ none in
    omega arith
