-- Bytes that fall in one block, and the end of the input, from what the calls of a step give.
-- Assumes nothing.
use Prim.Native.Nat.{ℕ, zero, ◌+◌, ◌≤◌, ◌<◌}
use mathlib.Core.Path.{◌≡◌, refl, sym, ap, ap₂, ◌∙◌}
use mathlib.Core.List.{List, ◌++◌}
use native.Mathlib.Omega.{arith}
use lib.ListN.{length, take, drop}
use lib.Seq.{length-take-le}
use borrow.Author.Tests.{ne_eqb}
use borrow.Rule.Slice.PartMut.{put_mid}
use Rattle.machine.specs.Bytes.{zeros, xors}
use Rattle.machine.specs.Machine.{Machine, Core, Mode, enc, plain, start, current, settled, after, out, close}
use Rattle.machine.specs.Kinds.{silent}
use Rattle.machine.proofs.Kept.{current-length}
use Rattle.machine.proofs.Cases.{close-begun}
use Rattle.machine.proofs.Block.{out_within, after-settled}
use Rattle.lent.specs.Lent.{over}
use Rattle.lent.proofs.Over.{over_zeros}
use Rattle.aegis128l_core.proofs.Laid.{laid}

module _ {S : Type 0} (M : Machine S) where
  open M use {rate, absorb}

  -- a buffer that is not filled to the rate stays
  pub settled-other : (s : S) (b : List ℕ) (f : ℕ) → (f ≡ rate → ⊥) → settled M s b f ≡ record { state = s; buf = b; fill = f }
  unfolding settled
  settled-other s b f h = rw (ne_eqb f rate h, settled)

  silent-settled : (s : S) (b : List ℕ) (f : ℕ) → settled (silent M) s b f ≡ settled M s b f
  unfolding settled start
  silent-settled s b f = refl

  -- the end of the input: p is a block of zeros with the filled part laid over it
  pub closed : (c : Core S) (p : List ℕ) {r : S} → zero < c.fill → c.fill ≤ length c.buf → c.fill ≤ rate
      → p ≡ over (take c.fill c.buf) (zeros rate) → r ≡ absorb c.state p → r ≡ close M c
  closed c p some fits h e q =
      let l : length (take c.fill c.buf) ≡ c.fill = length-take-le c.fill c.buf fits in
      q ∙ ap (absorb c.state) (e ∙ over_zeros rate (take c.fill c.buf) (omega arith))
      ∙ sym (close-begun M c some)

module _ {S : Type 0} (M : Machine S) (m : Mode) (c : Core S) (xs : List ℕ) where
  open M use {rate}

  -- k is the block that they fall in, b the block with their plaintext in it, and ys what comes out
  pub falls_within : length c.buf ≡ rate → zero < length xs → c.fill + length xs ≤ rate → {k b ys : List ℕ} {r : Core S}
      → k ≡ current M c → ys ≡ xors xs (drop c.fill k) → b ≡ take c.fill k ++ plain m xs ys ++ drop (c.fill + length xs) k
      → r ≡ settled M c.state b (c.fill + length xs) → (r ≡ after M m c xs) × (ys ≡ out M m c xs)
  falls_within full some fits {ys = ys} ek ey eb er =
      let l : length (current M c) ≡ rate = current-length M c (record { buf_length = full; fill_below = omega arith }) in
      let y : ys ≡ xors xs (drop c.fill (current M c)) = ey ∙ ap (λ (k : List ℕ). xors xs (drop c.fill k)) ek in (
        er ∙ ap (λ (b : List ℕ). settled M c.state b (c.fill + length xs))
            (eb ∙ ap₂ (λ (k ys : List ℕ). take c.fill k ++ plain m xs ys ++ drop (c.fill + length xs) k) ek y)
            ∙ sym (after-settled M m c xs l some fits),
        y ∙ sym (out_within M m c xs l fits),
      )

module _ {S : Type 0} (M : Machine S) (c : Core S) (xs : List ℕ) where
  open M use {rate}

  -- they are only absorbed: p is the place of the block k with them laid over it, and n their number
  pub taken_in : length c.buf ≡ rate → zero < length xs → c.fill + length xs ≤ rate → {k : List ℕ} {r : Core S} (n : ℕ) (p : List ℕ)
      → k ≡ current (silent M) c → n ≡ length xs → p ≡ over xs (take n (drop c.fill k))
      → r ≡ settled M c.state (put_mid c.fill n k p) (c.fill + length xs) → r ≡ after (silent M) enc c xs
  taken_in full some fits {k} n p ek v ep er =
      let l : length (current (silent M) c) ≡ rate = current-length (silent M) c (record { buf_length = full; fill_below = omega arith }) in
      let lk : length k ≡ rate = ap length ek ∙ l in
      er ∙ sym (silent-settled M c.state (put_mid c.fill n k p) (c.fill + length xs))
      ∙ ap (λ (b : List ℕ). settled (silent M) c.state b (c.fill + length xs))
      (laid k xs c.fill n v (omega arith) xs p refl ep
      ∙ ap (λ (b : List ℕ). take c.fill b ++ xs ++ drop (c.fill + length xs) b) ek)
      ∙ sym (after-settled (silent M) enc c xs l some fits)
