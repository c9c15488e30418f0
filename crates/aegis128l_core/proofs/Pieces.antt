-- Any input: none, one at the edge of a block, or the rest of a block that has been begun with more behind it.
-- Assumes nothing.
use Prim.Native.Nat.{ℕ, zero, ◌+◌, ◌-◌, ◌≤◌, ◌<◌}
use mathlib.Core.Path.{◌≡◌, refl, sym, ap, ap₂, ◌∙◌}
use mathlib.Core.List.{List, [], ◌∷◌, ◌++◌, append-nil}
use native.Mathlib.Omega.{arith}
use lib.ListN.{length, take, drop, length-drop, take-append-drop, drop_of_length-le}
use lib.Seq.{length-take-le, take_at, drop_at}
use borrow.Rule.Slice.PartMut.{put_mid}
use Rattle.machine.specs.Machine.{Machine, Core, Mode, start, current, after, out}
use Rattle.machine.proofs.Cutting.{after-append, out-append, out-length}
use Rattle.machine.proofs.Kept.{current-length}
use Rattle.machine.proofs.Fresh.{after-fresh, out-fresh}
use Rattle.machine.proofs.Block.{after_completed}
use Rattle.lent.proofs.Parts.{take_rest}

module _ {S : Type 0} (M : Machine S) (m : Mode) (c : Core S) (l : List ℕ) where
  -- no input changes nothing
  pub nothing : length l ≡ zero → (c ≡ after M m c l) × (l ≡ out M m c l)
  unfolding after out
  nothing e = go l e
    where
      go : (xs : List ℕ) → length xs ≡ zero → (c ≡ after M m c xs) × (xs ≡ out M m c xs)
      go [] e = (refl, refl)
      go (x ∷ xs) e = absurd (omega arith)

  -- at fill 0 the input goes in from the start of a block
  pub from_edge : c.fill ≡ zero → zero < length l → {r : Core S} {ys : List ℕ}
      → r ≡ after M m (start M c.state) l → ys ≡ out M m (start M c.state) l
      → (r ≡ after M m c l) × (ys ≡ out M m c l)
  from_edge e some er ey = (er ∙ sym (after-fresh M m c e l some), ey ∙ sym (out-fresh M m c e l))

-- ---- a buffer whose head of n bytes was lent and came back as ys, and then its rest as zs
module _ (n : ℕ) (l ys : List ℕ) (size : length ys ≡ n) where
  abbrev back : List ℕ
  back = put_mid 0 n l ys

  rest-stays : drop n back ≡ drop n l
  rest-stays = drop_at ys (drop n l) n size

  -- the rest is lent as the part from n to the end
  abbrev more : ℕ
  more = length back - n

  rest-lent : take more (drop n back) ≡ drop n l
  rest-lent = take_rest n back ∙ rest-stays

  both-back : (zs : List ℕ) → put_mid n more back zs ≡ ys ++ zs
  both-back zs =
      let d : length (drop n back) ≡ more = length-drop n back in
      ap₂ (λ (a b : List ℕ). a ++ (zs ++ b)) (take_at ys (drop n l) n size) (drop_of_length-le (drop n back) {i = more} (omega arith))
      ∙ ap (λ (b : List ℕ). ys ++ b) (append-nil zs)

-- ---- the first n bytes of l complete the block that has been begun
module _ {S : Type 0} (M : Machine S) (m : Mode) (c : Core S) (l : List ℕ) (n : ℕ) (full : length c.buf ≡ Machine.rate M) (some : zero < n)
    (fills : c.fill + n ≡ Machine.rate M) (enough : n ≤ length l) where
  -- so the core after them is at the start of a block
  at_edge : start M (after M m c (take n l)).state ≡ after M m c (take n l)
  unfolding start
  at_edge =
      let t : length (take n l) ≡ n = length-take-le n l enough in
      let k : length (current M c) ≡ Machine.rate M = current-length M c (record { buf_length = full; fill_below = omega arith }) in
      let e = after_completed M m c (take n l) k (omega arith) (omega arith) in
      ap (λ (d : Core S). start M d.state) e ∙ sym e

  module _ {d : Core S} (ed : d ≡ after M m c (take n l)) where
    goes_on : start M d.state ≡ after M m c (take n l)
    goes_on = ap (λ (x : Core S). start M x.state) ed ∙ at_edge

    -- the rest goes on from there
    after_both : {r : Core S} → r ≡ after M m (start M d.state) (drop n l) → r ≡ after M m c l
    after_both er =
        er ∙ ap (λ (x : Core S). after M m x (drop n l)) goes_on
        ∙ sym (after-append M m c (take n l) (drop n l)) ∙ ap (after M m c) (take-append-drop n l)

    -- both parts were lent to be read
    pub absorbed_both : {r : Core S} → r ≡ after M m (start M d.state) (take (length l - n) (drop n l)) → r ≡ after M m c l
    absorbed_both er = after_both (er ∙ ap (after M m (start M d.state)) (take_rest n l))

    -- both parts were lent in place: the head came back as ys, and the rest as zs
    pub transformed_both : {ys zs : List ℕ} {r : Core S} → ys ≡ out M m c (take n l)
        → r ≡ after M m (start M d.state) (take (length (put_mid 0 n l ys) - n) (drop n (put_mid 0 n l ys)))
        → zs ≡ out M m (start M d.state) (take (length (put_mid 0 n l ys) - n) (drop n (put_mid 0 n l ys)))
        → (r ≡ after M m c l) × (put_mid n (length (put_mid 0 n l ys) - n) (put_mid 0 n l ys) zs ≡ out M m c l)
    transformed_both {ys} {zs} ey er ez =
        let s : length ys ≡ n = ap length ey ∙ out-length M m c (take n l) ∙ length-take-le n l enough in
        let rest = rest-lent n l ys s in (
          after_both (er ∙ ap (after M m (start M d.state)) rest),
          both-back n l ys s zs
              ∙ ap₂ (λ (a b : List ℕ). a ++ b) ey (ez ∙ ap (out M m (start M d.state)) rest ∙ ap (λ (x : Core S). out M m x (drop n l)) goes_on)
              ∙ sym (out-append M m c (take n l) (drop n l)) ∙ ap (out M m c) (take-append-drop n l),
        )
