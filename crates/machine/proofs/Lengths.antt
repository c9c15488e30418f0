-- 8 bytes have one number, and a block of two lengths is a list of bytes.
-- Assumes nothing.
use Prim.Native.Nat.{ℕ, ◌*◌, ◌/◌, ◌%◌, ◌^◌, ◌<◌}
use mathlib.Core.Path.{◌≡◌, sym, ap, ◌∙◌}
use mathlib.Core.List.{List}
use native.Mathlib.Nat.{mod-lt, div-div-eq-div-mul}
use native.Mathlib.Omega.{arith}
use lib.Dec.{lit<}
use lib.ListN.{get_or}
use Rattle.machine.specs.Bytes.{Bytes}
use Rattle.machine.specs.Lengths.{le64, length_block}
use Rattle.machine.proofs.ByteLists.{bytes-append}

-- a number is its last byte and the rest
last_byte : (x y : ℕ) → x % 256 ≡ y % 256 → x / 256 ≡ y / 256 → x ≡ y
last_byte x y e f = omega arith

-- one byte more, from the bytes above the place p to those from it on
from_place : (a b p : ℕ) → a / p % 256 ≡ b / p % 256 → a / (p * 256) ≡ b / (p * 256) → a / p ≡ b / p
from_place a b p e f = last_byte (a / p) (b / p) e (div-div-eq-div-mul a p 256 ∙ f ∙ sym (div-div-eq-div-mul b p 256))

pub le64_injective : (a b : ℕ) → a < 2 ^ 64 → b < 2 ^ 64 → le64 a ≡ le64 b → a ≡ b
le64_injective a b ha hb e =
    let top : a / 2 ^ 56 ≡ b / 2 ^ 56 = omega (arith, ap (λ (l : List ℕ). get_or l 7 0) e) in
    let s6 : a / 2 ^ 48 ≡ b / 2 ^ 48 = from_place a b (2 ^ 48) (ap (λ (l : List ℕ). get_or l 6 0) e) top in
    let s5 : a / 2 ^ 40 ≡ b / 2 ^ 40 = from_place a b (2 ^ 40) (ap (λ (l : List ℕ). get_or l 5 0) e) s6 in
    let s4 : a / 2 ^ 32 ≡ b / 2 ^ 32 = from_place a b (2 ^ 32) (ap (λ (l : List ℕ). get_or l 4 0) e) s5 in
    let s3 : a / 2 ^ 24 ≡ b / 2 ^ 24 = from_place a b (2 ^ 24) (ap (λ (l : List ℕ). get_or l 3 0) e) s4 in
    let s2 : a / 2 ^ 16 ≡ b / 2 ^ 16 = from_place a b (2 ^ 16) (ap (λ (l : List ℕ). get_or l 2 0) e) s3 in
    let s1 : a / 2 ^ 8 ≡ b / 2 ^ 8 = from_place a b (2 ^ 8) (ap (λ (l : List ℕ). get_or l 1 0) e) s2 in
    last_byte a b (ap (λ (l : List ℕ). get_or l 0 0) e) s1

le64-bytes : (n : ℕ) → Bytes (le64 n)
le64-bytes n = (m n, (m (n / 2 ^ 8), (m (n / 2 ^ 16), (m (n / 2 ^ 24), (m (n / 2 ^ 32), (m (n / 2 ^ 40), (m (n / 2 ^ 48), (m (n / 2 ^ 56), tt))))))))
  where
    m : (x : ℕ) → x % 256 < 256
    m x = mod-lt x (lit< tt)

pub length_block-bytes : (a b : ℕ) → Bytes (length_block a b)
unfolding length_block
length_block-bytes a b = bytes-append (le64 (a * 8)) (le64 (b * 8)) (le64-bytes (a * 8)) (le64-bytes (b * 8))
