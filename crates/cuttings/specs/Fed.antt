-- A session that is fed one piece and then another is fed both, for any machine; and a text is its parts, from place to place.
-- The laws of pieces, which the trait `Cut` asks for in its contract, are made of these: so both stand among the specifications.
-- Assumes nothing.
use Prim.Native.Nat.{ℕ, ◌+◌, ◌-◌, ◌≤◌}
use mathlib.Core.Path.{◌≡◌, refl, sym, ap, ◌∙◌}
use mathlib.Core.List.{List, [], ◌++◌}
use native.Mathlib.Omega.{arith}
use lib.ListN.{length, take, drop, length-append}
use lib.Seq.{take-add, take_all}
use Rattle.std.specs.List.{between}
use Rattle.std.proofs.lemmas.List.{drop-drop}
use Rattle.std.proofs.lemmas.Slice.{between_from_start}
use Rattle.machine.specs.Machine.{Machine, Mode, after}
use Rattle.machine.proofs.Cutting.{after-append}
use Rattle.promises.specs.SessionCalls.{advanced, wrote_more}
use Rattle.promises.specs.Session.{Session, core}

-- the part from i up to k is the one up to j and the one from there on
pub between_join : (i j k : ℕ) (l : List ℕ) → i ≤ j → j ≤ k → between i k l ≡ between i j l ++ between j k l
between_join i j k l h g =
    let whole : k - i ≡ (j - i) + (k - j) = omega arith in
    let middle : i + (j - i) ≡ j = omega arith in
    ap (λ (n : ℕ). take n (drop i l)) whole
    ∙ take-add (j - i) (k - j) (drop i l)
    ∙ ap (λ (x : List ℕ). between i j l ++ take (k - j) x) (drop-drop (j - i) i l ∙ ap (λ (n : ℕ). drop n l) middle)

pub between_whole : (n : ℕ) (l : List ℕ) → length l ≡ n → between 0 n l ≡ l
between_whole n l h = between_from_start l n ∙ take_all n l (omega (arith, h))

module _ {S : Type 0} (M : Machine S) (m : Mode) where
  -- the session s after the bytes xs
  abbrev pub fed : Session S → List ℕ → Session S
  fed s xs = advanced s (after M m (core s) xs) (length xs)

  pub fed_nil : (s : Session S) → fed s [] ≡ s
  unfolding after advanced
  fed_nil s =
      let k : s.msg_length + 0 ≡ s.msg_length = omega arith in
      λ i. record s { msg_length = k i }

  pub fed-core : (s : Session S) (xs : List ℕ) → core (fed s xs) ≡ after M m (core s) xs
  unfolding advanced
  fed-core s xs = refl

  pub fed-append : (s : Session S) (xs ys : List ℕ) → fed (fed s xs) ys ≡ fed s (xs ++ ys)
  unfolding advanced
  fed-append s xs ys =
      let k : s.msg_length + length xs + length ys ≡ s.msg_length + length (xs ++ ys) = omega (arith, length-append xs ys) in
      let c = sym (after-append M m (core s) xs ys) in
      λ i. record s { state = (c i).state; buf = (c i).buf; fill = (c i).fill; msg_length = k i }

  -- ---- an opening session, which writes as many bytes as it is fed

  abbrev pub opened : Session S → List ℕ → Session S
  opened s xs = wrote_more (fed s xs) (length xs)

  pub opened_nil : (s : Session S) → opened s [] ≡ s
  unfolding after advanced wrote_more
  opened_nil s =
      let k : s.msg_length + 0 ≡ s.msg_length = omega arith in
      let w : s.written + 0 ≡ s.written = omega arith in
      λ i. record s { msg_length = k i; written = w i }

  pub opened-append : (s : Session S) (xs ys : List ℕ) → opened (opened s xs) ys ≡ opened s (xs ++ ys)
  unfolding advanced wrote_more
  opened-append s xs ys =
      let k : s.msg_length + length xs + length ys ≡ s.msg_length + length (xs ++ ys) = omega (arith, length-append xs ys) in
      let w : s.written + length xs + length ys ≡ s.written + length (xs ++ ys) = omega (arith, length-append xs ys) in
      let c = sym (after-append M m (core s) xs ys) in
      λ i. record s { state = (c i).state; buf = (c i).buf; fill = (c i).fill; msg_length = k i; written = w i }
