-- Lists of numbers below 256, and machines that keep to them: where keystream and states are of bytes, so is all that comes out for bytes.
-- Assumes nothing.
use Prim.Native.Nat.{ℕ, zero, suc, ◌-◌, ◌<◌}
use mathlib.Core.Path.{subst}
use mathlib.Core.Bool.{Bool, true, false}
use mathlib.Core.List.{List, [], ◌∷◌, ◌++◌}
use lib.Dec.{eqb, lit<}
use lib.ListN.{length, get_or, set, take}
use lib.Bits.{bit_xor, bit_and, xor_lt, and_lt}
use Rattle.machine.specs.Bytes.{zeros, pad_to, Bytes}
use Rattle.machine.specs.Machine.{Machine, Core, Mode, enc, dec, plain, start, current, key, code, settled, next, after, out, close}
use Rattle.machine.specs.Draft.{draft_absorb, draft_encrypt, draft_decrypt}
use Rattle.machine.proofs.Draft as draft

pub xor_byte : (a b : ℕ) → a < 256 → b < 256 → bit_xor a b < 256
xor_byte a b = xor_lt 8 a b

pub and_byte : (a b : ℕ) → a < 256 → b < 256 → bit_and a b < 256
and_byte a b = and_lt 8 a b

pub byte_at : (xs : List ℕ) → Bytes xs → (i : ℕ) → get_or xs i 0 < 256
byte_at [] b i = lit< tt
byte_at (x ∷ xs) b zero = b.0
byte_at (x ∷ xs) b (suc i) = byte_at xs b.1 i

pub bytes-append : (xs ys : List ℕ) → Bytes xs → Bytes ys → Bytes (xs ++ ys)
bytes-append [] ys a b = b
bytes-append (x ∷ xs) ys a b = (a.0, bytes-append xs ys a.1 b)

bytes-zeros : (n : ℕ) → Bytes (zeros n)
bytes-zeros zero = tt
bytes-zeros (suc n) = (lit< tt, bytes-zeros n)

bytes_take : (n : ℕ) (xs : List ℕ) → Bytes xs → Bytes (take n xs)
bytes_take zero xs b = tt
bytes_take (suc n) [] b = tt
bytes_take (suc n) (x ∷ xs) b = (b.0, bytes_take n xs b.1)

bytes-set : (xs : List ℕ) (i x : ℕ) → Bytes xs → x < 256 → Bytes (set xs i x)
bytes-set [] i x b h = tt
bytes-set (y ∷ xs) zero x b h = (h, b.1)
bytes-set (y ∷ xs) (suc i) x b h = (b.0, bytes-set xs i x b.1 h)

module _ {S : Type 0} (M : Machine S) (P : S → Type 0) where
  open M use {rate, begin, absorb}

  module _ (begins : (s : S) → P s → Bytes (begin s)) (absorbs : (s : S) (b : List ℕ) → P s → Bytes b → P (absorb s b)) where
    record Clean (c : Core S) : Type 0 where
      state_is : P c.state
      buf_is : Bytes c.buf

    start_clean : (s : S) → P s → Clean (start M s)
    unfolding start
    start_clean s p = record { state_is = p; buf_is = bytes-zeros rate }

    current_clean : (c : Core S) → Clean c → Bytes (current M c)
    unfolding current
    current_clean c k = by_fill c.fill
      where
        by_fill : (f : ℕ) → Bytes (elim f [ zero ↦ begin c.state | suc g ↦ c.buf ])
        by_fill zero = begins c.state k.state_is
        by_fill (suc f) = k.buf_is

    code_byte : (c : Core S) (x : ℕ) → Clean c → x < 256 → code M c x < 256
    unfolding code key
    code_byte c x k h = xor_byte x (get_or (current M c) c.fill 0) h (byte_at (current M c) (current_clean c k) c.fill)

    settled_clean : (s : S) (b : List ℕ) (f : ℕ) → P s → Bytes b → Clean (settled M s b f)
    unfolding settled
    settled_clean s b f p h = by_test (eqb f rate)
      where
        by_test : (t : Bool) → Clean (elim t [ true ↦ start M (absorb s b) | false ↦ record { state = s; buf = b; fill = f } ])
        by_test true = start_clean (absorb s b) (absorbs s b p h)
        by_test false = record { state_is = p; buf_is = h }

    plain_byte : (m : Mode) (x y : ℕ) → x < 256 → y < 256 → plain m x y < 256
    plain_byte enc x y h k = h
    plain_byte dec x y h k = k

    next_clean : (m : Mode) (c : Core S) (x : ℕ) → Clean c → x < 256 → Clean (next M m c x)
    unfolding next
    next_clean m c x k h =
        settled_clean c.state (set (current M c) c.fill (plain m x (code M c x))) (suc c.fill) k.state_is
        (bytes-set (current M c) c.fill (plain m x (code M c x)) (current_clean c k) (plain_byte m x (code M c x) h (code_byte c x k h)))

    after_clean : (m : Mode) (c : Core S) (xs : List ℕ) → Clean c → Bytes xs → Clean (after M m c xs)
    unfolding after
    after_clean m c [] k b = k
    after_clean m c (x ∷ xs) k b = after_clean m (next M m c x) xs (next_clean m c x k b.0) b.1

    out-bytes : (m : Mode) (c : Core S) (xs : List ℕ) → Clean c → Bytes xs → Bytes (out M m c xs)
    unfolding out
    out-bytes m c [] k b = tt
    out-bytes m c (x ∷ xs) k b = (code_byte c x k b.0, out-bytes m (next M m c x) xs (next_clean m c x k b.0) b.1)

    close_clean : (c : Core S) → Clean c → P (close M c)
    unfolding close
    close_clean c k = by_fill c.fill
      where
        by_fill : (f : ℕ) → P (elim f [ zero ↦ c.state | suc g ↦ absorb c.state (pad_to rate (take c.fill c.buf)) ])
        by_fill zero = k.state_is
        by_fill (suc f) =
            absorbs c.state (pad_to rate (take c.fill c.buf)) k.state_is
            (bytes-append (take c.fill c.buf) (zeros (rate - length (take c.fill c.buf))) (bytes_take c.fill c.buf k.buf_is)
            (bytes-zeros (rate - length (take c.fill c.buf))))

    -- ---- the draft's texts

    pub absorb-bytes : (s : S) (ad : List ℕ) → P s → Bytes ad → P (draft_absorb M s ad)
    absorb-bytes s ad p b = subst P (draft.absorbs M s ad) (close_clean (after M enc (start M s) ad) (after_clean enc (start M s) ad (start_clean s p) b))

    pub encrypt_bytes : (s : S) (msg : List ℕ) → P s → Bytes msg → Bytes (draft_encrypt M s msg)
    encrypt_bytes s msg p b = subst Bytes (draft.encrypts M s msg) (out-bytes enc (start M s) msg (start_clean s p) b)

    pub decrypt_bytes : (s : S) (ct : List ℕ) → P s → Bytes ct → Bytes (draft_decrypt M s ct)
    decrypt_bytes s ct p b = subst Bytes (draft.decrypts M s ct) (out-bytes dec (start M s) ct (start_clean s p) b)
