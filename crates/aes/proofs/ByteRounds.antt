-- A round, a xor and an and of blocks of bytes are blocks of bytes.
-- Assumes nothing.
use Prim.Native.Nat.{ℕ, zero, suc, ◌+◌, ◌*◌, ◌/◌, ◌%◌, ◌<◌}
use mathlib.Core.Path.{◌≡◌, refl}
use mathlib.Core.Bool.{Bool, true, false}
use mathlib.Core.List.{List}
use native.Mathlib.Omega.{arith}
use native.Mathlib.Nat.{mod-lt}
use lib.Dec.{ltb, lit<}
use lib.ListN.{get_or}
use lib.Bits.{bit_xor, xor_lt}
use borrow.Author.Tests.{ltb-true}
use Rattle.aes.specs.Field.{pick, xtime, only, mul_bits, mul, affine_bit, affine, sbox}
use Rattle.aes.specs.Round.{column, state, at, columns_of, sub_bytes, shift_rows, mixed, mix_columns, add_round_key}

xor_byte : (a b : ℕ) → a < 256 → b < 256 → bit_xor a b < 256
xor_byte a b = xor_lt 8 a b

-- ---- the field

xtime_byte : (b : ℕ) → b < 256 → xtime b < 256
unfolding xtime
xtime_byte b h = by_test (ltb b 128) refl
  where
    by_test : (t : Bool) → ltb b 128 ≡ t → pick t (b * 2) (bit_xor 0x1b (b * 2 % 256)) < 256
    by_test true e = omega (arith, ltb-true b 128 e)
    by_test false e = xor_byte 0x1b (b * 2 % 256) (lit< tt) (mod-lt (b * 2) (lit< tt))

only_byte : (n b : ℕ) → b < 256 → only n b < 256
only_byte zero b h = lit< tt
only_byte (suc n) b h = h

mul_bits_byte : (n a b : ℕ) → b < 256 → mul_bits n a b < 256
unfolding mul_bits
mul_bits_byte zero a b h = lit< tt
mul_bits_byte (suc n) a b h = xor_byte (only (a % 2) b) (mul_bits n (a / 2) (xtime b)) (only_byte (a % 2) b h) (mul_bits_byte n (a / 2) (xtime b) (xtime_byte b h))

mul_byte : (a b : ℕ) → b < 256 → mul a b < 256
unfolding mul
mul_byte a b h = mul_bits_byte 8 a b h

-- the S-box of any number is a byte
affine_byte : (b : ℕ) → affine b < 256
unfolding affine
affine_byte b = sum (bound 0) (bound 1) (bound 2) (bound 3) (bound 4) (bound 5) (bound 6) (bound 7)
  where
    bound : (i : ℕ) → affine_bit b i < 2
    bound i = mod-lt _ (lit< tt)

    sum : {c0 c1 c2 c3 c4 c5 c6 c7 : ℕ} → c0 < 2 → c1 < 2 → c2 < 2 → c3 < 2 → c4 < 2 → c5 < 2 → c6 < 2 → c7 < 2
        → c0 + 2 * c1 + 4 * c2 + 8 * c3 + 16 * c4 + 32 * c5 + 64 * c6 + 128 * c7 < 256
    sum h0 h1 h2 h3 h4 h5 h6 h7 = omega arith

sbox_byte : (b : ℕ) → sbox b < 256
unfolding sbox
sbox_byte b = affine_byte _

mixed_byte : (a b c d : ℕ) → a < 256 → b < 256 → c < 256 → d < 256 → mixed a b c d < 256
unfolding mixed
mixed_byte a b c d ha hb hc hd =
    xor_byte (bit_xor (bit_xor (mul 2 a) (mul 3 b)) c) d
    (xor_byte (bit_xor (mul 2 a) (mul 3 b)) c (xor_byte (mul 2 a) (mul 3 b) (mul_byte 2 a ha) (mul_byte 3 b hb)) hc) hd

-- ---- the round, row by row

column_byte : (f : ℕ → ℕ) → ((r : ℕ) → f r < 256) → (r : ℕ) → get_or (column f) r 0 < 256
column_byte f h zero = h 0
column_byte f h (suc zero) = h 1
column_byte f h (suc (suc zero)) = h 2
column_byte f h (suc (suc (suc zero))) = h 3
column_byte f h (suc (suc (suc (suc r)))) = lit< tt

state_byte : (f : ℕ → ℕ → ℕ) → ((r c : ℕ) → f r c < 256) → (r c : ℕ) → at (state f) r c < 256
state_byte f h r zero = column_byte (λ k. f k 0) (λ k. h k 0) r
state_byte f h r (suc zero) = column_byte (λ k. f k 1) (λ k. h k 1) r
state_byte f h r (suc (suc zero)) = column_byte (λ k. f k 2) (λ k. h k 2) r
state_byte f h r (suc (suc (suc zero))) = column_byte (λ k. f k 3) (λ k. h k 3) r
state_byte f h r (suc (suc (suc (suc c)))) = lit< tt

pub round_byte : (b k : List ℕ) → ((i : ℕ) → get_or k i 0 < 256) → (r c : ℕ)
    → at (add_round_key (mix_columns (shift_rows (sub_bytes (columns_of b)))) (columns_of k)) r c < 256
round_byte b k h =
    let s₀ = columns_of b in
    let s₁ = sub_bytes s₀ in
    let s₂ = shift_rows s₁ in
    let s₃ = mix_columns s₂ in
    let h₁ : (r c : ℕ) → at s₁ r c < 256 = state_byte (λ r c. sbox (at s₀ r c)) (λ r c. sbox_byte (at s₀ r c)) in
    let h₂ : (r c : ℕ) → at s₂ r c < 256 = state_byte (λ r c. at s₁ r ((c + r) % 4)) (λ r c. h₁ r ((c + r) % 4)) in
    let h₃ : (r c : ℕ) → at s₃ r c < 256 = state_byte (λ r c. mixed (at s₂ r c) (at s₂ ((r + 1) % 4) c) (at s₂ ((r + 2) % 4) c) (at s₂ ((r + 3) % 4) c))
    (λ r c. mixed_byte (at s₂ r c) (at s₂ ((r + 1) % 4) c) (at s₂ ((r + 2) % 4) c) (at s₂ ((r + 3) % 4) c) (h₂ r c) (h₂ ((r + 1) % 4) c) (h₂ ((r + 2) % 4) c) (h₂ ((r + 3) % 4) c)) in
    let hk : (r c : ℕ) → at (columns_of k) r c < 256 = state_byte (λ r c. get_or k (r + 4 * c) 0) (λ r c. h (r + 4 * c)) in
    state_byte (λ r c. bit_xor (at s₃ r c) (at (columns_of k) r c)) (λ r c. xor_byte (at s₃ r c) (at (columns_of k) r c) (h₃ r c) (hk r c))
