-- The ladder answers 0 exactly when the numbers of a record are right.
-- Assumes nothing.
use Prim.Native.Nat.{ℕ, ◌+◌, ◌≤◌}
use mathlib.Core.Path.{◌≡◌, refl}
use mathlib.Core.Bool.{Bool, true, false}
use mathlib.Core.Logic.{◌⊎◌, inl, inr, ⊎_elim}
use native.Mathlib.Omega.{arith}
use lib.Dec.{leb}
use borrow.Author.Tests.{leb-true, le-leb}
use Rattle.answers.specs.Answers.{unless, tag_size}
use Rattle.answers.proofs.Answers.{unless_zero, zero_unless, tag_sizes}
use Rattle.hub_record.specs.Record.{ad_limit, text_limit, input_limit, head_size, shape}

pub record ShapeOk (n tag ad : ℕ) : Type 0 where
  pub input_fits : n ≤ input_limit
  pub head : head_size ≤ n
  pub ad_fits : ad ≤ ad_limit
  pub tag_size_ok : tag_size tag ≡ true
  pub parts : head_size + ad + tag ≤ n
  pub text_fits : n ≤ head_size + ad + tag + text_limit

pub shape_ok : (n tag ad : ℕ) → shape n tag ad ≡ 0 → ShapeOk n tag ad
unfolding shape
shape_ok n tag ad e =
    let i = unless_zero 11 (leb n input_limit) _ e (omega arith) in
    let h = unless_zero 11 (leb head_size n) _ i.1 (omega arith) in
    let a = unless_zero 11 (leb ad ad_limit) _ h.1 (omega arith) in
    let t = unless_zero 1 (tag_size tag) _ a.1 (omega arith) in
    let p = unless_zero 11 (leb (head_size + ad + tag) n) _ t.1 (omega arith) in
    let x = unless_zero 11 (leb n (head_size + ad + tag + text_limit)) 0 p.1 (omega arith) in
    record {
      input_fits = leb-true n input_limit i.0;
      head = leb-true head_size n h.0;
      ad_fits = leb-true ad ad_limit a.0;
      tag_size_ok = t.0;
      parts = leb-true (head_size + ad + tag) n p.0;
      text_fits = leb-true n (head_size + ad + tag + text_limit) x.0;
    }

pub ok_shape : (n tag ad : ℕ) → ShapeOk n tag ad → shape n tag ad ≡ 0
unfolding shape
ok_shape n tag ad o =
    zero_unless 11 (leb n input_limit) _ (le-leb n input_limit o.input_fits)
    (zero_unless 11 (leb head_size n) _ (le-leb head_size n o.head)
    (zero_unless 11 (leb ad ad_limit) _ (le-leb ad ad_limit o.ad_fits)
    (zero_unless 1 (tag_size tag) _ o.tag_size_ok
    (zero_unless 11 (leb (head_size + ad + tag) n) _ (le-leb (head_size + ad + tag) n o.parts)
    (zero_unless 11 (leb n (head_size + ad + tag + text_limit)) 0 (le-leb n (head_size + ad + tag + text_limit) o.text_fits) refl)))))

-- the largest parts make the largest input
pub limits_agree : input_limit ≡ head_size + ad_limit + text_limit + 32
limits_agree = refl

-- ---- what the ladder can answer

-- what holds of a rung's number and of all below it holds of the answer
rung_of : (P : ℕ → Type 0) (code : ℕ) (t : Bool) (next : ℕ) → P code → P next → P (unless code t next)
rung_of P code true next p q = q
rung_of P code false next p q = p

abbrev pub Answer : ℕ → Type 0
Answer a = (a ≡ 0) ⊎ ((a ≡ 1) ⊎ (a ≡ 11))

pub shape_answers : (n tag ad : ℕ) → Answer (shape n tag ad)
unfolding shape
shape_answers n tag ad =
    let e : Answer 11 = inr (inr refl) in
    rung_of Answer 11 (leb n input_limit) _ e
    (rung_of Answer 11 (leb head_size n) _ e
    (rung_of Answer 11 (leb ad ad_limit) _ e
    (rung_of Answer 1 (tag_size tag) _ (inr (inl refl))
    (rung_of Answer 11 (leb (head_size + ad + tag) n) _ e
    (rung_of Answer 11 (leb n (head_size + ad + tag + text_limit)) 0 e (inl refl))))))

pub tag_within : (tag : ℕ) → tag_size tag ≡ true → tag ≤ 32
tag_within tag e = ⊎_elim (λ h. omega (arith, h)) (λ h. omega (arith, h)) (tag_sizes tag e)
