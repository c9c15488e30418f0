-- The key, the nonce, the associated data and the message at which the demands are shown to speak of something, for any size of key and of block: key and
-- nonce are neither all 00 nor all ff, and the message has a byte more than a block and is cut within its first one.
-- Assumes nothing.
use Prim.Native.Nat.{ℕ, zero, suc, ◌+◌, ◌-◌, ◌<◌}
use mathlib.Core.Path.{◌≡◌, sym, ap, ◌∙◌}
use mathlib.Core.Logic.{◌≢◌}
use mathlib.Core.List.{List, [], ◌∷◌, ◌++◌}
use native.Mathlib.Omega.{arith}
use lib.ListN.{length, get_or, replicate, length-append, length-replicate, get_or-replicate}
use Rattle.machine.specs.Bytes.{Bytes}

abbrev pub some_key : ℕ → List ℕ
some_key size = replicate size 1

abbrev pub some_nonce : ℕ → List ℕ
some_nonce size = replicate size 2

abbrev pub some_data : List ℕ
some_data = 3 ∷ 4 ∷ 5 ∷ []

abbrev pub first_part : ℕ → List ℕ
first_part rate = replicate (rate - 1) 6

abbrev pub second_part : List ℕ
second_part = 7 ∷ 8 ∷ []

abbrev pub some_message : ℕ → List ℕ
some_message rate = first_part rate ++ second_part

-- ---- key and nonce

-- bytes that are not all 00 and not all ff
pub record Mixed (xs : List ℕ) : Type 0 where
  pub not_00 : xs ≢ replicate (length xs) 0
  pub not_ff : xs ≢ replicate (length xs) 0xff

module _ (n : ℕ) (some : zero < n) where
  others : (b c : ℕ) → b ≢ c → replicate n b ≢ replicate (length (replicate n b)) c
  others b c d e =
      let long : length (replicate n b) ≡ n = length-replicate n b in
      d (sym (get_or-replicate n 0 b 0 some) ∙ ap (λ (xs : List ℕ). get_or xs 0 0) (e ∙ ap (λ (k : ℕ). replicate k c) long) ∙ get_or-replicate n 0 c 0 some)

  mixed : (b : ℕ) → b ≢ 0 → b ≢ 0xff → Mixed (replicate n b)
  mixed b no-0 no-ff = record { not_00 = others b 0 no-0; not_ff = others b 0xff no-ff }

  pub some_key-mixed : Mixed (some_key n)
  some_key-mixed = mixed _ (λ e. omega arith) (λ e. omega arith)

  pub some_nonce-mixed : Mixed (some_nonce n)
  some_nonce-mixed = mixed _ (λ e. omega arith) (λ e. omega arith)

-- ---- the message

module _ (rate : ℕ) (some : zero < rate) where
  pub first_part-length : length (first_part rate) < rate
  first_part-length = omega (arith, length-replicate {A = ℕ} (rate - 1) 6)

  pub some_message-length : length (some_message rate) ≡ rate + 1
  some_message-length =
      let k = length-append (first_part rate) second_part in let l = length-replicate {A = ℕ} (rate - 1) 6 in omega arith

pub bytes-replicate : (n b : ℕ) → b < 256 → Bytes (replicate n b)
bytes-replicate zero b h = tt
bytes-replicate (suc n) b h = (h, bytes-replicate n b h)
