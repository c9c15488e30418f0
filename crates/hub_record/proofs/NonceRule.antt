-- Two pairs of a scale number and a record number, each below 2^64, give the same nonce only if they are the same pair.
-- Assumes nothing.
use Prim.Native.Nat.{ℕ, ◌+◌, ◌^◌, ◌<◌}
use mathlib.Core.Path.{◌≡◌, ap}
use mathlib.Core.List.{List, [], ◌∷◌}
use lib.ListN.{get_or}
use Rattle.machine.proofs.Lengths.{le64_injective}
use Rattle.hub_record.specs.Nonce.{nonce_of}

-- the eight bytes of a list from place o on
abbrev eight : ℕ → List ℕ → List ℕ
eight o l =
    get_or l o 0 ∷ get_or l (1 + o) 0 ∷ get_or l (2 + o) 0 ∷ get_or l (3 + o) 0
    ∷ get_or l (4 + o) 0 ∷ get_or l (5 + o) 0 ∷ get_or l (6 + o) 0 ∷ get_or l (7 + o) 0 ∷ []

pub nonce_unique : (scale number scale' number' : ℕ) → scale < 2 ^ 64 → number < 2 ^ 64 → scale' < 2 ^ 64 → number' < 2 ^ 64
    → nonce_of scale number ≡ nonce_of scale' number' → (scale ≡ scale') × (number ≡ number')
unfolding nonce_of
nonce_unique scale number scale' number' hs hn hs' hn' e = (
  le64_injective scale scale' hs hs' (ap (eight 0) e),
  le64_injective number number' hn hn' (ap (eight 8) e),
)
