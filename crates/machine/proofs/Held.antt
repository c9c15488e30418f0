-- What the buffer of a core holds, after any bytes: below the fill the last bytes of the message, above it the keystream that is not used yet, and
-- at fill 0 zeros.
-- Assumes nothing.
use Prim.Native.Nat.{ℕ, zero, suc, ◌-◌, ◌<◌}
use mathlib.Core.Path.{◌≡◌, refl, sym, ap, subst, ◌∙◌}
use mathlib.Core.Logic.{◌⊎◌, inl, inr}
use mathlib.Core.List.{List, [], ◌∷◌, ◌++◌, append_assoc, append-nil}
use native.Mathlib.Nat.{eq-or-lt_of_le}
use native.Mathlib.Omega.{arith}
use lib.ListN.{length, drop, get_or, set, length-append, length-drop}
use lib.Seq.{drop-length, drop-cons, drop-append-le, set_at}
use Rattle.machine.specs.Bytes.{zeros}
use Rattle.machine.specs.Machine.{Machine, Core, Mode, plain, enc, dec, start, current, code, settled, next, after, out, WellFormed, Held}
use Rattle.machine.proofs.Cases.{settled_short, settled_full}
use Rattle.machine.proofs.Kept.{next_kept}

module _ {S : Type 0} (M : Machine S) where
  open M use {rate, begin, absorb, begin_length}

  pub held_at_start : (s : S) → Held M [] (start M s)
  unfolding start
  held_at_start s = record { fill_within = omega arith; buf_is = refl }

  -- ---- one byte more

  module _ (p : List ℕ) (c : Core S) (w : WellFormed M c) (h : Held M p c) where
    abbrev part : List ℕ
    part = drop (length p - c.fill) p

    part_length : length part ≡ c.fill
    part_length = let k = h.fill_within in rw length-drop (omega arith)

    -- the block that it falls in
    block : current M c ≡ part ++ drop c.fill (begin c.state)
    unfolding current
    block = go c.fill refl h.buf_is
      where
        go : (f : ℕ) → c.fill ≡ f
            → c.buf ≡ drop (length p - c.fill) p ++ drop c.fill (elim f [ zero ↦ zeros rate | suc g ↦ begin c.state ])
            → elim f [ zero ↦ begin c.state | suc g ↦ c.buf ] ≡ drop (length p - c.fill) p ++ drop c.fill (begin c.state)
        go zero e b =
            let z : length p - 0 ≡ length p = omega arith in
            subst (λ (f : ℕ). begin c.state ≡ drop (length p - f) p ++ drop f (begin c.state)) (sym e)
            (ap (λ (xs : List ℕ). xs ++ begin c.state) (sym (ap (λ (k : ℕ). drop k p) z ∙ drop-length p)))
        go (suc g) e b = b

    stored : (y : ℕ) → set (current M c) c.fill y ≡ drop (length p - c.fill) (p ++ (y ∷ [])) ++ drop (suc c.fill) (begin c.state)
    stored y =
        let short : c.fill < length (begin c.state) = rw (begin_length c.state) w.fill_below in
        let rest = drop (suc c.fill) (begin c.state) in
        ap (λ (b : List ℕ). set b c.fill y) (block ∙ ap (λ (b : List ℕ). part ++ b) (drop-cons (begin c.state) c.fill 0 short))
        ∙ set_at part (get_or (begin c.state) c.fill 0) rest y c.fill part_length
        ∙ sym (append_assoc part (y ∷ []) rest)
        ∙ ap (λ (b : List ℕ). b ++ rest) (sym (drop-append-le (length p - c.fill) p (y ∷ []) (omega arith)))

    held_settled : (y : ℕ) → Held M (p ++ (y ∷ [])) (settled M c.state (set (current M c) c.fill y) (suc c.fill))
    unfolding start
    held_settled y = go (eq-or-lt_of_le w.fill_below)
      where
        long : length (p ++ (y ∷ [])) ≡ suc (length p)
        long = rw length-append (omega arith)

        full : Held M (p ++ (y ∷ [])) (start M (absorb c.state (set (current M c) c.fill y)))
        full =
            let z : length (p ++ (y ∷ [])) - 0 ≡ length (p ++ (y ∷ [])) = omega arith in
            record {
              fill_within = omega arith;
              buf_is = ap (λ (xs : List ℕ). xs ++ zeros rate) (sym (ap (λ (k : ℕ). drop k (p ++ (y ∷ []))) z ∙ drop-length (p ++ (y ∷ []))));
            }

        short : Held M (p ++ (y ∷ [])) (record { state = c.state; buf = set (current M c) c.fill y; fill = suc c.fill })
        short =
            let k = h.fill_within in
            let e : length (p ++ (y ∷ [])) - suc c.fill ≡ length p - c.fill = omega (arith, long) in
            record {
              fill_within = omega (arith, long);
              buf_is = stored y ∙ ap (λ (j : ℕ). drop j (p ++ (y ∷ [])) ++ drop (suc c.fill) (begin c.state)) (sym e);
            }

        go : (suc c.fill ≡ rate) ⊎ (suc c.fill < rate) → Held M (p ++ (y ∷ [])) (settled M c.state (set (current M c) c.fill y) (suc c.fill))
        go (inl e) = rw (settled_full M c.state (set (current M c) c.fill y) (suc c.fill) e) full
        go (inr l) = rw (settled_short M c.state (set (current M c) c.fill y) (suc c.fill) l) short

  -- ---- many bytes more

  module _ (m : Mode) where
    held_next : (p : List ℕ) (c : Core S) (x : ℕ) → WellFormed M c → Held M p c → Held M (p ++ (plain m x (code M c x) ∷ [])) (next M m c x)
    unfolding next
    held_next p c x w h = held_settled p c w h (plain m x (code M c x))

  plain_cons : (m : Mode) (x y : ℕ) (xs ys : List ℕ) → plain m x y ∷ plain m xs ys ≡ plain m (x ∷ xs) (y ∷ ys)
  plain_cons enc x y xs ys = refl
  plain_cons dec x y xs ys = refl

  plain_nil : (m : Mode) → plain {A = List ℕ} m [] [] ≡ []
  plain_nil enc = refl
  plain_nil dec = refl

  pub held_after : (m : Mode) (p : List ℕ) (c : Core S) (xs : List ℕ) → WellFormed M c → Held M p c → Held M (p ++ plain m xs (out M m c xs)) (after M m c xs)
  unfolding after out
  held_after m p c [] w h = subst (λ (q : List ℕ). Held M q c) (sym (ap (λ (q : List ℕ). p ++ q) (plain_nil m) ∙ append-nil p)) h
  held_after m p c (x ∷ xs) w h =
      let y = plain m x (code M c x) in
      let ys = out M m (next M m c x) xs in
      subst (λ (q : List ℕ). Held M q (after M m (next M m c x) xs))
      (append_assoc p (y ∷ []) (plain m xs ys) ∙ ap (λ (q : List ℕ). p ++ q) (plain_cons m x (code M c x) xs ys))
      (held_after m (p ++ (y ∷ [])) (next M m c x) xs (next_kept M m c x w) (held_next m p c x w h))
