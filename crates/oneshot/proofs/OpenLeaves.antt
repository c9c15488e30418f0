-- What opening leaves, for any cipher, from what its steps leave: the ciphertext is laid over the output and opened there, or opened in place, and
-- wiped if the tag differs.
-- Assumes nothing.
use Prim.Native.Nat.{ℕ, ◌≤◌}
use mathlib.Core.Path.{◌≡◌, refl, sym, ap, ◌∙◌}
use mathlib.Core.Bool.{Bool, true, false}
use mathlib.Core.List.{List, ◌++◌}
use native.Mathlib.Omega.{arith}
use lib.ListN.{length, take, drop, replicate, length-replicate}
use lib.Seq.{drop_at}
use Rattle.answers.specs.declared.Refusal.{Refusal}
use Rattle.answers.specs.Refusals.{number}
use Rattle.answers.specs.Answers.{unless}
use Rattle.answers.proofs.Refusals.{number_zero}
use Rattle.answers.proofs.Answers.{ok_one_shot}
use Rattle.lent.specs.Lent.{over, wiped, same}
use Rattle.lent.proofs.Wiped.{wiped-fits}
use Rattle.promises.specs.Cipher.{Cipher}
use Rattle.promises.specs.OneShot.{Left, verdict, open_of}
use Rattle.promises.specs.Texts.{onto, plaintext, open_tag}
use Rattle.promises.proofs.Allowed.{ladder, Sizes}
use Rattle.promises.proofs.Ladder.{refuses}
use Rattle.promises.proofs.Onto.{length-onto}
use Rattle.promises.proofs.Texts.{plaintext-length}
use Rattle.oneshot.specs.Leaves.{left}
use Rattle.oneshot.proofs.Laid.{text_there, worked_over, worked_in_place}

-- n bytes wiped where a text of n bytes had been written
wiped-onto : (n v : ℕ) (xs buf : List ℕ) → length xs ≡ n → n ≤ length buf → wiped n v (onto xs buf) ≡ onto (replicate n v) buf
wiped-onto n v xs buf e h =
    let l : length (onto xs buf) ≡ length buf = length-onto xs buf (omega arith) in
    wiped-fits n v (onto xs buf) (omega arith)
    ∙ ap (λ (r : List ℕ). replicate n v ++ r) (drop_at xs (drop (length xs) buf) n e)
    ∙ ap (λ (k : ℕ). replicate n v ++ drop k buf) (e ∙ sym (length-replicate n v))

-- a verdict that refuses refuses by 7
pub differs : (v : Bool) (r : Refusal) → number r ≡ unless 7 v 0 → 7 ≡ unless 7 v 0
differs true r e = absurd (number_zero r e)
differs false r e = refl

module _ {S : Type 0} (C : Cipher S) (key nonce ad : List ℕ) where
  abbrev opening : List ℕ → List ℕ
  opening = plaintext C key nonce ad

  as_long : (ct : List ℕ) → length (opening ct) ≡ length ct
  as_long = plaintext-length C key nonce ad

  -- whether the tag that came is the one that a ciphertext is to have
  abbrev passes : List ℕ → List ℕ → Bool
  passes tag ct = same tag (open_tag C key nonce ad ct (length tag))

  pub open_refuses : (ct tag out : List ℕ) (r : Refusal) → number r ≡ ladder C key nonce ad tag ct out
      → left (number r) out ≡ open_of C key nonce ad ct tag out
  unfolding open_of
  open_refuses ct tag out r e = refuses _ _ _ _ e (number_zero r)

  -- the message stands in the output as ys: that is right if the tag passes, and 7 over a wiped output if not
  module _ (ct tag out : List ℕ) (ok : Sizes C key nonce ad tag ct out) {ys : List ℕ} (ey : ys ≡ onto (opening ct) out) where
    judged : {l : Left} → l ≡ verdict (passes tag ct) (opening ct) ct out → l ≡ open_of C key nonce ad ct tag out
    unfolding open_of
    judged e = rw (ok_one_shot ok) e

    released : (v : Bool) → 0 ≡ unless 7 v 0 → left 0 ys ≡ verdict v (opening ct) ct out
    unfolding verdict
    released true z = ap (left 0) ey
    released false z = absurd (omega (arith, z))

    erased : (v : Bool) → 7 ≡ unless 7 v 0 → {a : ℕ} {zs : List ℕ} → zs ≡ wiped (length ct) 0xaa ys → a ≡ 7
        → left a zs ≡ verdict v (opening ct) ct out
    unfolding verdict
    erased true d ez ea = absurd (omega (arith, d))
    erased false d ez ea =
        let over_it = ap (wiped (length ct) 0xaa) ey ∙ wiped-onto (length ct) 0xaa (opening ct) out (as_long ct) ok.in_room in
        (λ i. left (ea i) ((ez ∙ over_it) i))

    releases : 0 ≡ unless 7 (passes tag ct) 0 → left 0 ys ≡ open_of C key nonce ad ct tag out
    releases z = judged (released (passes tag ct) z)

    erases : 7 ≡ unless 7 (passes tag ct) 0 → {a : ℕ} {zs : List ℕ} → zs ≡ wiped (length ct) 0xaa ys → a ≡ 7
        → left a zs ≡ open_of C key nonce ad ct tag out
    erases d ez ea = judged (erased (passes tag ct) d ez ea)

  -- the ciphertext was laid over the output as o, and its bytes there came back as ys
  module _ (ct tag out : List ℕ) (ok : Sizes C key nonce ad tag ct out) {o ys : List ℕ} (eo : o ≡ over ct out) (ey : ys ≡ opening (take (length ct) o)) where
    written : ys ++ drop (length ct) o ≡ onto (opening ct) out
    written = worked_over ct out ok.in_room eo opening (as_long ct) ey

    same_verdict : unless 7 (passes tag (take (length ct) o)) 0 ≡ unless 7 (passes tag ct) 0
    same_verdict = ap (λ (x : List ℕ). unless 7 (passes tag x) 0) (text_there ct out ok.in_room eo)

    pub opens-over : 0 ≡ unless 7 (passes tag (take (length ct) o)) 0 → left 0 (ys ++ drop (length ct) o) ≡ open_of C key nonce ad ct tag out
    opens-over z = releases ct tag out ok written (z ∙ same_verdict)

    pub erases_over : 7 ≡ unless 7 (passes tag (take (length ct) o)) 0 → {a : ℕ} {zs : List ℕ}
        → zs ≡ wiped (length ct) 0xaa (ys ++ drop (length ct) o) → a ≡ 7 → left a zs ≡ open_of C key nonce ad ct tag out
    erases_over d ez ea = erases ct tag out ok written (d ∙ same_verdict) ez ea

  module _ (buf tag : List ℕ) (ok : Sizes C key nonce ad tag buf buf) {ys : List ℕ} (ey : ys ≡ opening buf) where
    written_in_place : ys ≡ onto (opening buf) buf
    written_in_place = worked_in_place opening buf (as_long buf) ey

    pub opens_in_place : 0 ≡ unless 7 (passes tag buf) 0 → left 0 ys ≡ open_of C key nonce ad buf tag buf
    opens_in_place z = releases buf tag buf ok written_in_place z

    pub erases_in_place : 7 ≡ unless 7 (passes tag buf) 0 → {a : ℕ} {zs : List ℕ} → zs ≡ wiped (length buf) 0xaa ys → a ≡ 7
        → left a zs ≡ open_of C key nonce ad buf tag buf
    erases_in_place d ez ea = erases buf tag buf ok written_in_place d ez ea
