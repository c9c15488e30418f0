-- The cases of document 01, "Cases proved", and one round of FIPS 197 with unequal bytes, in one table: what the definitions give, and
-- what it must be. `proofs/Cases.antt` shows that they are the same.
-- Assumes nothing.
use Rattle.std.specs.Prelude.{ℕ, ◌*◌, ◌^◌, ◌-◌, List, [], ◌∷◌, ◌++◌, replicate}
use Rattle.machine.specs.Bytes.{zeros}
use Rattle.machine.specs.Lengths.{le64, length_block}
use Rattle.answers.specs.Length.{added_to}
use Rattle.aes.specs.Field.{mul, sbox}
use Rattle.aes.specs.Round.{columns_of, bytes_of, shift_rows, mix_column, round_of}
use Rattle.aegis128l.specs.Aegis128L.{absorb, keystream}
use Rattle.hub_record.specs.Nonce.{nonce_of}

pub record Case : Type 0 where
  pub gives : List ℕ
  pub must : List ℕ

infix 10 ◌is◌
abbrev ◌is◌ : List ℕ → List ℕ → Case
g is m = record { gives = g; must = m }

-- P1: S-box 00 is 63
abbrev p1 : Case
p1 = (sbox 0x00 ∷ []) is (0x63 ∷ [])

-- P2: S-box 53 is ed
abbrev p2 : Case
p2 = (sbox 0x53 ∷ []) is (0xed ∷ [])

-- P3: 57 times 83 is c1
abbrev p3 : Case
p3 = (mul 0x57 0x83 ∷ []) is (0xc1 ∷ [])

-- P4: 57 times 13 is fe
abbrev p4 : Case
p4 = (mul 0x57 0x13 ∷ []) is (0xfe ∷ [])

-- P5: column db 13 53 45 mixes to 8e 4d a1 bc
abbrev p5 : Case
p5 = mix_column (0xdb ∷ 0x13 ∷ 0x53 ∷ 0x45 ∷ []) is (0x8e ∷ 0x4d ∷ 0xa1 ∷ 0xbc ∷ [])

-- P6: Round of zeros with zero key is sixteen 63
abbrev p6 : Case
p6 = round_of (replicate 16 0x00) (replicate 16 0x00) is replicate 16 0x63

-- P7: Round of sixteen 53 with key sixteen ff is sixteen 12
abbrev p7 : Case
p7 = round_of (replicate 16 0x53) (replicate 16 0xff) is replicate 16 0x12

-- P8: ShiftRows of 0..15 is 0 5 10 15 4 9 14 3 8 13 2 7 12 1 6 11
abbrev p8 : Case
p8 =
    bytes_of (shift_rows (columns_of (0 ∷ 1 ∷ 2 ∷ 3 ∷ 4 ∷ 5 ∷ 6 ∷ 7 ∷ 8 ∷ 9 ∷ 10 ∷ 11 ∷ 12 ∷ 13 ∷ 14 ∷ 15 ∷ [])))
    is (0 ∷ 5 ∷ 10 ∷ 15 ∷ 4 ∷ 9 ∷ 14 ∷ 3 ∷ 8 ∷ 13 ∷ 2 ∷ 7 ∷ 12 ∷ 1 ∷ 6 ∷ 11 ∷ [])

-- FIPS 197, appendix B, round 1: its bytes differ, so that a wrong ShiftRows or MixColumns shows, as it does not in P6 and P7
abbrev appendix_b : Case
appendix_b =
    round_of
    (0x19 ∷ 0x3d ∷ 0xe3 ∷ 0xbe ∷ 0xa0 ∷ 0xf4 ∷ 0xe2 ∷ 0x2b ∷ 0x9a ∷ 0xc6 ∷ 0x8d ∷ 0x2a ∷ 0xe9 ∷ 0xf8 ∷ 0x48 ∷ 0x08 ∷ [])
    (0xa0 ∷ 0xfa ∷ 0xfe ∷ 0x17 ∷ 0x88 ∷ 0x54 ∷ 0x2c ∷ 0xb1 ∷ 0x23 ∷ 0xa3 ∷ 0x39 ∷ 0x39 ∷ 0x2a ∷ 0x6c ∷ 0x76 ∷ 0x05 ∷ [])
    is (0xa4 ∷ 0x9c ∷ 0x7f ∷ 0xf2 ∷ 0x68 ∷ 0x9f ∷ 0x35 ∷ 0x2b ∷ 0x6b ∷ 0x5b ∷ 0xea ∷ 0x43 ∷ 0x02 ∷ 0x6a ∷ 0x50 ∷ 0x49 ∷ [])

-- P9: lengths for AD 13, message 33: 68 then seven 00, 08 01 then six 00
abbrev p9 : Case
p9 = length_block 13 33 is ((0x68 ∷ zeros 7) ++ (0x08 ∷ 0x01 ∷ zeros 6))

-- P10: MAC lengths for 0 bytes, tag 32: eight 00, then 00 01 and six 00
abbrev p10 : Case
p10 = length_block 0 32 is (zeros 8 ++ (0x00 ∷ 0x01 ∷ zeros 6))

-- P11: 2^61-1 bytes as bits: f8 then seven ff
abbrev p11 : Case
p11 = le64 ((2 ^ 61 - 1) * 8) is (0xf8 ∷ replicate 7 0xff)

-- P12: total 2^61-2 plus 1 is accepted; 2^61-1 plus 0 is accepted; plus 1 is answer 5
abbrev p12 : Case
p12 =
    ((added_to (2 ^ 61 - 2) 1).answer ∷ (added_to (2 ^ 61 - 1) 0).answer ∷ (added_to (2 ^ 61 - 1) 1).answer ∷ [])
    is (0 ∷ 0 ∷ 5 ∷ [])

-- P13: from an all-zero state, after absorbing 32 zeros, the keystream is 32 bytes of 63
abbrev p13 : Case
p13 = keystream (absorb (replicate 8 (zeros 16)) (zeros 32)) is replicate 32 0x63

-- P14: nonce of scale 258, record 1: 02 01, six 00, 01, seven 00
abbrev p14 : Case
p14 = nonce_of 258 1 is ((0x02 ∷ 0x01 ∷ zeros 6) ++ (0x01 ∷ zeros 7))

abbrev pub cases : List Case
cases = p1 ∷ p2 ∷ p3 ∷ p4 ∷ p5 ∷ p6 ∷ p7 ∷ p8 ∷ appendix_b ∷ p9 ∷ p10 ∷ p11 ∷ p12 ∷ p13 ∷ p14 ∷ []
