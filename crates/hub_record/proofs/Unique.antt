-- Each promise fixes the whole outcome: two outcomes that meet one promise are equal.
-- Assumes nothing.
use Prim.Native.Nat.{ℕ, suc}
use mathlib.Core.Path.{◌≡◌, refl, sym, ap, ◌∙◌}
use mathlib.Core.List.{List}
use native.Mathlib.Omega.{arith}
use denote.Enum.Declared.{tag_of}
use denote.Enum.Bare.{tag_one}
use Rattle.std.specs.Prelude.{Result, Ok, Err, ⊤}
use Rattle.answers.specs.contracts.Refusal.{the_type}
use Rattle.answers.specs.declared.Refusal.{Refusal}
use Rattle.answers.specs.declared.Refusal.TheVariants.{TagSize, KeySize, NonceSize, AdTooLong, MessageTooLong, NoRoom}
use Rattle.answers.specs.declared.Refusal.TheVariants.{TagDiffers, NotLive, LengthsDiffer, OtherBuffer, WrongShape}
use Rattle.answers.specs.Refusals.{number, answer_of}
use Rattle.answers.proofs.Refusals.{number_zero}
use Rattle.hub_record.specs.declared.part.Part.{Part}
use Rattle.hub_record.specs.Nonce.{nonce_of}
use Rattle.hub_record.specs.Record.{RecordLeft, shape, open_record_of}
use Rattle.hub_record.specs.Reply.{Replied, reply_of}
use Rattle.hub_record.specs.View.{record_left, replied}

-- ---- no two refusals have one number

in_order : (e : Refusal) → number e ≡ suc (tag_of the_type e)
in_order TagSize = refl
in_order KeySize = refl
in_order NonceSize = refl
in_order AdTooLong = refl
in_order MessageTooLong = refl
in_order NoRoom = refl
in_order TagDiffers = refl
in_order NotLive = refl
in_order LengthsDiffer = refl
in_order OtherBuffer = refl
in_order WrongShape = refl

number_unique : (d e : Refusal) → number d ≡ number e → d ≡ e
number_unique d e h = tag_one the_type tt d e (omega (arith, h, in_order d, in_order e))

answer_unique : (x y : Result ⊤ Refusal) → answer_of x ≡ answer_of y → x ≡ y
answer_unique (Ok u) (Ok v) h = refl
answer_unique (Ok u) (Err e) h = absurd (number_zero e (sym h))
answer_unique (Err d) (Ok v) h = absurd (number_zero d h)
answer_unique (Err d) (Err e) h = λ i. Err (number_unique d e h i)

left_unique : (x y : Result Part Refusal) (a b : List ℕ) → record_left x a ≡ record_left y b → (x ≡ y) × (a ≡ b)
left_unique (Ok p) (Ok q) a b h = ((λ i. Ok (record { start = (h i).start; count = (h i).count })), λ i. (h i).input)
left_unique (Ok p) (Err e) a b h = absurd (number_zero e (ap (λ (r : RecordLeft). r.answer) (sym h)))
left_unique (Err d) (Ok q) a b h = absurd (number_zero d (ap (λ (r : RecordLeft). r.answer) h))
left_unique (Err d) (Err e) a b h = ((λ i. Err (number_unique d e (ap (λ (r : RecordLeft). r.answer) h) i)), λ i. (h i).input)

-- ---- the promises

pub nonce_value_unique : (scale number : ℕ) (x y : List ℕ) → x ≡ nonce_of scale number → y ≡ nonce_of scale number → x ≡ y
nonce_value_unique scale number x y e f = e ∙ sym f

pub shape_unique : (n tag ad : ℕ) (x y : Result ⊤ Refusal) → answer_of x ≡ shape n tag ad → answer_of y ≡ shape n tag ad → x ≡ y
shape_unique n tag ad x y e f = answer_unique x y (e ∙ sym f)

pub open_record_unique : (l : List ℕ) (x y : Result Part Refusal) (a b : List ℕ)
    → record_left x a ≡ open_record_of l → record_left y b ≡ open_record_of l
    → (x ≡ y) × (a ≡ b)
open_record_unique l x y a b e f = left_unique x y a b (e ∙ sym f)

pub reply_unique : (buf : List ℕ) (n : ℕ) (x y : Part) (a b : List ℕ) → replied x a ≡ reply_of buf n → replied y b ≡ reply_of buf n
    → (x ≡ y) × (a ≡ b)
reply_unique buf n x y a b e f =
    let p : replied x a ≡ replied y b = e ∙ sym f in
    ((λ i. record { start = (p i).start; count = (p i).count }), ap (λ (r : Replied). r.buf) p)
