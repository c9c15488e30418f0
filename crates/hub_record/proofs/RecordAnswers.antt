-- What each answer of opening a record leaves.
-- Assumes nothing.
use Prim.Native.Nat.{ℕ, zero, suc, ◌+◌, ◌-◌, ◌≤◌}
use mathlib.Core.Path.{◌≡◌, refl, sym, ap, ◌∙◌}
use mathlib.Core.List.{List, ◌++◌}
use native.Mathlib.Omega.{arith}
use lib.ListN.{length, take}
use borrow.Rule.Slice.PartMut.{Post-is, mid_len, same_len_mid}
use Rattle.promises.specs.OneShot.{Left, on_done, open_in_place_of}
use Rattle.promises.proofs.Lengths.{open_out_length}
use Rattle.aegis128l.specs.Cipher.{aegis128l}
use Rattle.hub_record.specs.Record.{head_size, between, tag_size_in, ad_length_in, text_start, text_end, shape}
use Rattle.hub_record.specs.Record.{parts_by, RecordLeft, refused_record, opened_record, open_parts, open_record_of}
use Rattle.hub_record.proofs.RecordShape.{ShapeOk, shape_ok}

-- ---- what the code's three returns cite

refused_by : (a : ℕ) (l : List ℕ) (more : RecordLeft) → (a ≡ 0 → ⊥) → refused_record l a ≡ on_done a (refused_record l) more
refused_by zero l more n = absurd (n refl)
refused_by (suc a) l more n = refl

module _ (l : List ℕ) where
  abbrev shaped : ℕ
  shaped = shape (length l) (tag_size_in l) (ad_length_in l)

  -- 1 and 11, by the shape: nothing is changed
  pub shape_refused : (a : ℕ) → a ≡ shaped → (a ≡ 0 → ⊥) → refused_record l a ≡ open_record_of l
  unfolding open_record_of
  shape_refused a e n = rw (← e) (refused_by a l _ n)

  -- the verdict on a record of the right shape, whose ciphertext goes from place a up to place e
  module _ (a e v : ℕ) (o : List ℕ) (ok : shaped ≡ 0) (start : a ≡ text_start l) (end : e ≡ text_end l)
      (opened : ◌≡◌ {A = Left} (record { answer = v; out = o }) (open_parts l a e)) where
    verdict : opened_record a e (record { answer = v; out = o }) ≡ open_record_of l
    unfolding open_record_of
    verdict = rw ok (λ i. opened_record (start i) (end i) ((opened ∙ (λ j. open_parts l (start j) (end j))) i))

    pub verdict_refused : (v ≡ 0 → ⊥) → refused_record o v ≡ open_record_of l
    verdict_refused n = refused_by v o _ n ∙ verdict

    pub verdict-opened : (n : ℕ) → n ≡ e - a → v ≡ 0 → record { answer = 0; start = a; count = n; input = o } ≡ open_record_of l
    verdict-opened n k z = opened_by v z ∙ verdict
      where
        opened_by : (v : ℕ) → v ≡ 0
            → ◌≡◌ {A = RecordLeft} (record { answer = 0; start = a; count = n; input = o }) (opened_record a e (record { answer = v; out = o }))
        opened_by v z = rw (z, k) refl

-- ---- where the plaintext stands

-- a refusal hands back 0 and 0
pub record Nowhere (r : RecordLeft) : Type 0 where
  pub start : r.start ≡ 0
  pub count : r.count ≡ 0

nowhere_by : (a : ℕ) (l : List ℕ) (more : RecordLeft) → ((more.answer ≡ 0 → ⊥) → Nowhere more)
    → ((on_done a (refused_record l) more).answer ≡ 0 → ⊥) → Nowhere (on_done a (refused_record l) more)
nowhere_by zero l more h n = h n
nowhere_by (suc a) l more h n = record { start = refl; count = refl }

pub refused_nowhere : (l : List ℕ) → ((open_record_of l).answer ≡ 0 → ⊥) → Nowhere (open_record_of l)
unfolding open_record_of
refused_nowhere l =
    let r = open_parts l (text_start l) (text_end l) in
    nowhere_by (shape (length l) (tag_size_in l) (ad_length_in l)) l (opened_record (text_start l) (text_end l) r)
    (nowhere_by r.answer r.out (record { answer = 0; start = text_start l; count = text_end l - text_start l; input = r.out })
    (λ n. absurd (n refl)))

-- ---- what an opened record is

zero_by : (a : ℕ) (l : List ℕ) (more : RecordLeft) → (on_done a (refused_record l) more).answer ≡ 0
    → (a ≡ 0) × (on_done a (refused_record l) more ≡ more)
zero_by zero l more h = (refl, refl)
zero_by (suc a) l more h = absurd (omega arith)

pub record Opens (l : List ℕ) : Type 0 where
  pub shaped : ShapeOk (length l) (tag_size_in l) (ad_length_in l)
  pub accepted : (open_parts l (text_start l) (text_end l)).answer ≡ 0
  pub left : open_record_of l
      ≡ record {
        answer = 0;
        start = text_start l;
        count = text_end l - text_start l;
        input = (open_parts l (text_start l) (text_end l)).out;
      }

pub opens : (l : List ℕ) → (open_record_of l).answer ≡ 0 → Opens l
unfolding open_record_of
opens l h =
    let s = zero_by (shape (length l) (tag_size_in l) (ad_length_in l)) l _ h in
    let v = zero_by (open_parts l (text_start l) (text_end l)).answer _ _ (ap (λ (r : RecordLeft). r.answer) (sym s.1) ∙ h) in
    record { shaped = shape_ok _ _ _ s.0; accepted = v.0; left = s.1 ∙ v.1 }

-- ---- no call changes the length of the input

parts_length : (l : List ℕ) (a e : ℕ) → a ≤ e → e ≤ length l → length (open_parts l a e).out ≡ length l
unfolding open_parts
parts_length l a e p q =
    let k : length (between a e l) ≡ e - a = mid_len a e l q in
    let p' = parts_by a e l in
    let y = open_in_place_of aegis128l p'.key p'.nonce p'.ad p'.text p'.tag in
    ap (λ (x : List ℕ). length (take a l ++ (y.out ++ x))) (sym (Post-is a e l p))
    ∙ same_len_mid a (e - a) l y.out (open_out_length aegis128l _ _ _ (between a e l) _ (between a e l))

length_by : (a : ℕ) (l : List ℕ) (more : RecordLeft) (n : ℕ) → length l ≡ n → (a ≡ 0 → length more.input ≡ n)
    → length (on_done a (refused_record l) more).input ≡ n
length_by zero l more n p q = q refl
length_by (suc a) l more n p q = p

pub record_length : (l : List ℕ) → length (open_record_of l).input ≡ length l
unfolding open_record_of
record_length l =
    length_by (shape (length l) (tag_size_in l) (ad_length_in l)) l _ (length l) refl
    (λ z.
    let k = shape_ok (length l) (tag_size_in l) (ad_length_in l) z in
    let n = parts_length l (text_start l) (text_end l) (omega (arith, k.parts)) (omega arith) in
    length_by (open_parts l (text_start l) (text_end l)).answer _ _ (length l) n (λ _. n))

-- an opened plaintext stands behind the head, within the input
pub opened_within : (l : List ℕ) → (open_record_of l).answer ≡ 0
    → (head_size ≤ (open_record_of l).start) × ((open_record_of l).start + (open_record_of l).count ≤ length (open_record_of l).input)
opened_within l h =
    let o = opens l h in
    let k = o.shaped in
    let s : (open_record_of l).start ≡ text_start l = ap (λ (r : RecordLeft). r.start) o.left in
    let n : (open_record_of l).count ≡ text_end l - text_start l = ap (λ (r : RecordLeft). r.count) o.left in
    let m : length (open_record_of l).input ≡ length l = record_length l in
    let p : head_size + ad_length_in l + tag_size_in l ≤ length l = k.parts in
    (omega arith, omega arith)
