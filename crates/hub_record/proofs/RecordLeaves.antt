-- What opening a record leaves, byte by byte: 1 and 11 change nothing, 7 leaves 0xaa for each byte of the ciphertext and 0 its plaintext,
-- with every other byte as it was; and no other answer is given.
-- Assumes nothing.
use Prim.Native.Nat.{ℕ, ◌+◌, ◌-◌, ◌≤◌}
use mathlib.Core.Path.{◌≡◌, refl, sym, ap, ◌∙◌, subst}
use mathlib.Core.Bool.{Bool, true, false}
use mathlib.Core.Logic.{◌⊎◌, inl, inr, ⊎_elim}
use mathlib.Core.List.{List, ◌++◌}
use native.Mathlib.Omega.{arith}
use lib.ListN.{length, take, drop, replicate, length-replicate}
use borrow.Rule.Slice.PartMut.{mid_len}
use Rattle.answers.specs.Answers.{tag_size}
use Rattle.lent.specs.Lent.{same}
use Rattle.lent.proofs.Same.{same_equal}
use Rattle.promises.specs.Texts.{onto, plaintext, open_tag}
use Rattle.promises.specs.OneShot.{Left}
use Rattle.promises.proofs.Allowed.{Sizes}
use Rattle.promises.proofs.Texts.{plaintext-length}
use Rattle.promises.proofs.Onto.{onto-whole}
use Rattle.promises.proofs.OpenAnswers.{open_released, open_erased, same_not}
use Rattle.aegis128l.specs.Cipher.{aegis128l}
use Rattle.hub_record.specs.Record.{head_size, tag_size_in, ad_length_in, text_start, text_end, shape}
use Rattle.hub_record.specs.Record.{parts_in, RecordLeft, refused_record, open_parts, open_record_of}
use Rattle.hub_record.proofs.RecordShape.{ShapeOk, shape_ok, shape_answers}
use Rattle.hub_record.proofs.RecordAnswers.{shape_refused, verdict_refused, verdict-opened}

-- the ciphertext's bytes replaced, and no other
abbrev pub with_text : List ℕ → List ℕ → List ℕ
with_text l xs = take (text_start l) l ++ (xs ++ drop (text_end l) l)

abbrev pub plain_in : List ℕ → List ℕ
plain_in l = plaintext aegis128l (parts_in l).key (parts_in l).nonce (parts_in l).ad (parts_in l).text

-- ---- the one-shot refuses none of the parts of a record of the right shape

module _ (l : List ℕ) (k : ShapeOk (length l) (tag_size_in l) (ad_length_in l)) where
  text-length : length (parts_in l).text ≡ text_end l - text_start l
  text-length = mid_len (text_start l) (text_end l) l (omega arith)

  parts_sizes : Sizes aegis128l (parts_in l).key (parts_in l).nonce (parts_in l).ad (parts_in l).tag (parts_in l).text (parts_in l).text
  parts_sizes =
      let h : head_size ≤ length l = k.head in
      let p : head_size + ad_length_in l + tag_size_in l ≤ length l = k.parts in
      let a : length (parts_in l).ad ≡ text_start l - head_size = mid_len head_size (text_start l) l (omega arith) in
      let t : length (parts_in l).tag ≡ tag_size_in l = mid_len (text_end l) (length l) l (omega arith) ∙ omega arith in
      record {
        tag_size_ok = ap tag_size t ∙ k.tag_size_ok;
        key_size = mid_len 1 17 l (omega arith);
        nonce_size = mid_len 17 33 l (omega arith);
        ad_fits = omega (arith, k.ad_fits);
        msg_fits = omega (arith, text-length, k.text_fits);
        in_room = omega arith;
      }

  -- so its verdict is on the tag alone
  verdicts : (t : Bool) → same (parts_in l).tag (open_tag aegis128l (parts_in l).key (parts_in l).nonce (parts_in l).ad (parts_in l).text (length (parts_in l).tag)) ≡ t
      → (open_parts l (text_start l) (text_end l) ≡ record { answer = 0; out = with_text l (plain_in l) })
      ⊎ (open_parts l (text_start l) (text_end l) ≡ record { answer = 7; out = with_text l (replicate (text_end l - text_start l) 0xaa) })
  unfolding open_parts
  verdicts true e =
      let r = open_released aegis128l (parts_in l).key (parts_in l).nonce (parts_in l).ad (parts_in l).text (parts_in l).tag (parts_in l).text parts_sizes (same_equal _ _ e) in
      let w : onto (plain_in l) (parts_in l).text ≡ plain_in l
      = onto-whole (plain_in l) (parts_in l).text (omega (arith, plaintext-length aegis128l (parts_in l).key (parts_in l).nonce (parts_in l).ad (parts_in l).text)) in
      inl (λ i. record { answer = (r i).answer; out = with_text l ((ap (λ (x : Left). x.out) r ∙ w) i) })
  verdicts false e =
      let r = open_erased aegis128l (parts_in l).key (parts_in l).nonce (parts_in l).ad (parts_in l).text (parts_in l).tag (parts_in l).text parts_sizes (same_not _ _ e) in
      let n = length-replicate {A = ℕ} (length (parts_in l).text) 0xaa in
      let w : onto (replicate (length (parts_in l).text) 0xaa) (parts_in l).text ≡ replicate (text_end l - text_start l) 0xaa
      = onto-whole (replicate (length (parts_in l).text) 0xaa) (parts_in l).text (omega arith) ∙ ap (λ (j : ℕ). replicate j 0xaa) text-length in
      inr (λ i. record { answer = (r i).answer; out = with_text l ((ap (λ (x : Left). x.out) r ∙ w) i) })

-- ---- the theorem

pub data Leaves (l : List ℕ) : RecordLeft → Type 0 where
  misshapen : (a : ℕ) → (a ≡ 1) ⊎ (a ≡ 11) → Leaves l (refused_record l a)
  erased : Leaves l (refused_record (with_text l (replicate (text_end l - text_start l) 0xaa)) 7)
  opened : Leaves l (record { answer = 0; start = text_start l; count = text_end l - text_start l; input = with_text l (plain_in l) })

pub record_leaves : (l : List ℕ) → Leaves l (open_record_of l)
record_leaves l =
    let a = shape (length l) (tag_size_in l) (ad_length_in l) in
    ⊎_elim
    (λ z.
    ⊎_elim
    (λ v. subst (Leaves l) (verdict-opened l (text_start l) (text_end l) 0 _ z refl refl (sym v) _ refl refl) opened)
    (λ v. subst (Leaves l) (verdict_refused l (text_start l) (text_end l) 7 _ z refl refl (sym v) (λ e. omega (arith, e))) erased)
    (verdicts l (shape_ok _ _ _ z) _ refl))
    (λ h.
    subst (Leaves l)
    (shape_refused l a refl (λ z. ⊎_elim (λ e. omega (arith, sym e ∙ z)) (λ e. omega (arith, sym e ∙ z)) h))
    (misshapen a h))
    (shape_answers (length l) (tag_size_in l) (ad_length_in l))
