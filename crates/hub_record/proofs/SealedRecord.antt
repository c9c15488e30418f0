-- A record made of a sealed message opens to that message, whatever the message, within the limits; and a record that opens is made of the
-- sealed form of its plaintext.
-- Assumes nothing.
use Prim.Native.Nat.{ℕ, ◌+◌, ◌-◌, ◌/◌, ◌%◌, ◌≤◌}
use mathlib.Core.Path.{◌≡◌, refl, sym, ap, ◌∙◌}
use mathlib.Core.Bool.{true}
use mathlib.Core.List.{List, [], ◌∷◌, ◌++◌, append_assoc, append-nil}
use native.Mathlib.Nat.{le_refl}
use native.Mathlib.Omega.{arith}
use lib.Dec.{lit≤}
use lib.ListN.{length, take, drop, get_or, length-append}
use lib.Seq.{take_at, drop_at, get_or_at}
use Rattle.machine.specs.Bytes.{zeros}
use Rattle.answers.specs.Answers.{tag_size}
use Rattle.promises.specs.Allowed.{Allowed}
use Rattle.promises.specs.OneShot.{SealLeft, open_in_place_of}
use Rattle.promises.proofs.Forms.{SealedForm, form_length, due_form}
use Rattle.promises.proofs.Onto.{onto-whole}
use Rattle.promises.proofs.Lengths.{seal_out_tag_length}
use Rattle.promises.proofs.SealAnswers.{seal_zero}
use Rattle.promises.proofs.OpenAnswers.{open_zero}
use Rattle.promises.proofs.OneForm.{seals, Done, seal_answers, seal_writes, opens_to}
use Rattle.promises.proofs.WitnessKey.{some_key, some_nonce, some_data}
use Rattle.aegis128l.specs.Cipher.{aegis128l}
use Rattle.hub_record.specs.Record.{ad_limit, text_limit, head_size, between, tag_size_in, ad_length_in, text_start, text_end, shape}
use Rattle.hub_record.specs.Record.{parts_by, parts_in, RecordLeft, open_parts, open_record_of}
use Rattle.hub_record.proofs.RecordShape.{ok_shape, tag_within}
use Rattle.hub_record.proofs.RecordAnswers.{verdict-opened, opens}
use Rattle.hub_record.proofs.RecordLeaves.{plain_in}

-- a record made of its parts; `parts_read` shows that it has the layout that is read
unfoldable pub record_of : List ℕ → List ℕ → List ℕ → List ℕ → List ℕ → List ℕ
record_of key nonce ad text tag = length tag ∷ (key ++ (nonce ++ (length ad % 256 ∷ length ad / 256 ∷ (ad ++ (text ++ tag)))))

-- the part that stands behind p
between-at : (p x q : List ℕ) (a e : ℕ) → length p ≡ a → length x ≡ e - a → between a e (p ++ (x ++ q)) ≡ x
between-at p x q a e n m = ap (take (e - a)) (drop_at p (x ++ q) a n) ∙ take_at x q (e - a) m

-- what is given of a record's parts
pub record Fitting (key nonce ad text tag : List ℕ) : Type 0 where
  pub key_size : length key ≡ 16
  pub nonce_size : length nonce ≡ 16
  pub ad_fits : length ad ≤ ad_limit
  pub text_fits : length text ≤ text_limit
  pub tag_size_ok : tag_size (length tag) ≡ true

module _ (key nonce ad text tag : List ℕ) (fit : Fitting key nonce ad text tag) where
  -- ---- where the parts of a record stand

  abbrev whole : List ℕ
  whole = record_of key nonce ad text tag

  -- what stands before the AD
  abbrev front : List ℕ
  front = (length tag ∷ key) ++ nonce

  abbrev head : List ℕ
  head = front ++ (length ad % 256 ∷ length ad / 256 ∷ [])

  front_length : length front ≡ 33
  front_length = length-append (length tag ∷ key) nonce ∙ omega (arith, fit.key_size, fit.nonce_size)

  head-length : length head ≡ head_size
  head-length = length-append front (length ad % 256 ∷ length ad / 256 ∷ []) ∙ omega (arith, front_length)

  -- by its head; by its front; and with the AD, and the text, before the cut
  cut_front : whole ≡ front ++ (length ad % 256 ∷ length ad / 256 ∷ (ad ++ (text ++ tag)))
  unfolding record_of
  cut_front = sym (append_assoc (length tag ∷ key) nonce (length ad % 256 ∷ length ad / 256 ∷ (ad ++ (text ++ tag))))

  cut_head : whole ≡ head ++ (ad ++ (text ++ tag))
  cut_head = cut_front ∙ sym (append_assoc front (length ad % 256 ∷ length ad / 256 ∷ []) (ad ++ (text ++ tag)))

  cut_ad : whole ≡ (head ++ ad) ++ (text ++ tag)
  cut_ad = cut_head ∙ sym (append_assoc head ad (text ++ tag))

  cut_text : whole ≡ ((head ++ ad) ++ text) ++ tag
  cut_text = cut_ad ∙ sym (append_assoc (head ++ ad) text tag)

  length_ad : length (head ++ ad) ≡ head_size + length ad
  length_ad = length-append head ad ∙ ap (λ (n : ℕ). n + length ad) head-length

  length-text : length ((head ++ ad) ++ text) ≡ head_size + length ad + length text
  length-text = length-append (head ++ ad) text ∙ ap (λ (n : ℕ). n + length text) length_ad

  record_of-length : length whole ≡ head_size + length ad + length text + length tag
  record_of-length = ap length cut_text ∙ length-append ((head ++ ad) ++ text) tag ∙ ap (λ (n : ℕ). n + length tag) length-text

  -- the numbers of its head
  tag_size_is : tag_size_in whole ≡ length tag
  unfolding record_of
  tag_size_is = refl

  ad_length_is : ad_length_in whole ≡ length ad
  ad_length_is =
      let low : get_or whole 33 0 ≡ length ad % 256
      = ap (λ (l : List ℕ). get_or l 33 0) cut_front
      ∙ get_or_at front (length ad % 256) (length ad / 256 ∷ (ad ++ (text ++ tag))) 0 33 front_length in
      let high : get_or whole 34 0 ≡ length ad / 256
      = ap (λ (l : List ℕ). get_or l 34 0) (cut_front ∙ sym (append_assoc front (length ad % 256 ∷ []) (length ad / 256 ∷ (ad ++ (text ++ tag)))))
      ∙ get_or_at (front ++ (length ad % 256 ∷ [])) (length ad / 256) (ad ++ (text ++ tag)) 0 34
      (length-append front (length ad % 256 ∷ []) ∙ omega (arith, front_length)) in
      omega arith

  abbrev start : ℕ
  start = head_size + length ad

  abbrev end : ℕ
  end = head_size + length ad + length text

  start_is : start ≡ text_start whole
  start_is = ap (λ (n : ℕ). head_size + n) (sym ad_length_is)

  end_is : end ≡ text_end whole
  end_is = let n = record_of-length in let t = tag_size_is in omega arith

  shaped : shape (length whole) (tag_size_in whole) (ad_length_in whole) ≡ 0
  shaped =
      let n : length whole ≡ head_size + length ad + length text + length tag = record_of-length in
      let t : tag_size_in whole ≡ length tag = tag_size_is in
      let a : ad_length_in whole ≡ length ad = ad_length_is in
      let w : length tag ≤ 32 = tag_within (length tag) fit.tag_size_ok in
      ok_shape (length whole) (tag_size_in whole) (ad_length_in whole)
      (record {
        input_fits = omega (arith, fit.ad_fits, fit.text_fits);
        head = omega arith;
        ad_fits = omega (arith, fit.ad_fits);
        tag_size_ok = ap tag_size t ∙ fit.tag_size_ok;
        parts = omega arith;
        text_fits = omega (arith, fit.text_fits);
      })

  -- its parts, each where the layout has it
  key_is : between 1 17 whole ≡ key
  unfolding record_of
  key_is = between-at (length tag ∷ []) key _ 1 17 refl fit.key_size

  nonce_is : between 17 33 whole ≡ nonce
  unfolding record_of
  nonce_is = between-at (length tag ∷ key) nonce _ 17 33 (omega (arith, fit.key_size)) fit.nonce_size

  ad_is : between head_size start whole ≡ ad
  ad_is = ap (between head_size start) cut_head ∙ between-at head ad (text ++ tag) head_size start head-length (omega arith)

  text_is : between start end whole ≡ text
  text_is = ap (between start end) cut_ad ∙ between-at (head ++ ad) text tag start end length_ad (omega arith)

  tag_is : between end (length whole) whole ≡ tag
  tag_is =
      let n = record_of-length in
      ap (between end (length whole)) (cut_text ∙ ap (λ (x : List ℕ). ((head ++ ad) ++ text) ++ x) (sym (append-nil tag)))
      ∙ between-at ((head ++ ad) ++ text) tag [] end (length whole) length-text (omega arith)

  reads : parts_by start end whole ≡ record { key = key; nonce = nonce; ad = ad; text = text; tag = tag }
  reads = λ i. record { key = key_is i; nonce = nonce_is i; ad = ad_is i; text = text_is i; tag = tag_is i }

  pub parts_read : parts_in whole ≡ record { key = key; nonce = nonce; ad = ad; text = text; tag = tag }
  parts_read = sym (λ i. parts_by (start_is i) (end_is i) whole) ∙ reads

  -- with another text in the place of its own
  replaced : (msg : List ℕ) → take start whole ++ (msg ++ drop end whole) ≡ record_of key nonce ad msg tag
  unfolding record_of
  replaced msg =
      (λ i.
      (ap (take start) cut_ad ∙ take_at (head ++ ad) (text ++ tag) start length_ad) i
      ++ (msg ++ (ap (drop end) cut_text ∙ drop_at ((head ++ ad) ++ text) tag end length-text) i))
      ∙ append_assoc head ad (msg ++ tag)
      ∙ append_assoc front (length ad % 256 ∷ length ad / 256 ∷ []) (ad ++ (msg ++ tag))
      ∙ append_assoc (length tag ∷ key) nonce (length ad % 256 ∷ length ad / 256 ∷ (ad ++ (msg ++ tag)))

  -- ---- a sealed form opens

  module _ (msg : List ℕ) (form : SealedForm aegis128l key nonce ad msg text tag) where
    opened : open_in_place_of aegis128l key nonce ad text tag ≡ record { answer = 0; out = msg }
    opened =
        let n : length text ≡ length msg = form_length aegis128l key nonce ad msg text tag form in
        opens_to aegis128l key nonce ad text tag text
        (record {
          key_size = fit.key_size;
          nonce_size = fit.nonce_size;
          ad_fits = omega (arith, fit.ad_fits);
          tag_size_ok = fit.tag_size_ok;
        })
        (omega arith) msg form
        ∙ ap (λ (x : List ℕ). record { answer = 0; out = x }) (onto-whole msg text (omega arith))

    parts_are : open_parts whole start end ≡ record { answer = 0; out = record_of key nonce ad msg tag }
    unfolding open_parts
    parts_are =
        let r = (λ i. let p = reads i in open_in_place_of aegis128l p.key p.nonce p.ad p.text p.tag) ∙ opened in
        (λ i. record { answer = (r i).answer; out = take start whole ++ ((r i).out ++ drop end whole) })
        ∙ ap (λ (x : List ℕ). record { answer = 0; out = x }) (replaced msg)

    -- the record of a sealed message opens, and its message stands in the place of the ciphertext
    pub sealed_record_opens : open_record_of whole
        ≡ record { answer = 0; start = head_size + length ad; count = length msg; input = record_of key nonce ad msg tag }
    sealed_record_opens =
        let n : length text ≡ length msg = form_length aegis128l key nonce ad msg text tag form in
        sym (verdict-opened whole start end 0 _ shaped start_is end_is (sym parts_are) (length msg) (omega arith) refl)

-- ---- what seal writes makes such a record, for every message within the limits

module _ (key nonce ad msg out tag_buf : List ℕ) (done : Done aegis128l key nonce ad msg out tag_buf) where
  -- what seal wrote: as many bytes of the output as the message has, and the tag
  abbrev sealed_text : List ℕ
  sealed_text = take (length msg) (seals aegis128l key nonce ad msg out tag_buf).out

  abbrev sealed_tag : List ℕ
  sealed_tag = (seals aegis128l key nonce ad msg out tag_buf).tag

  form : SealedForm aegis128l key nonce ad msg sealed_text sealed_tag
  form = seal_writes aegis128l key nonce ad msg out tag_buf done

  fitting : length ad ≤ ad_limit → length msg ≤ text_limit → Fitting key nonce ad sealed_text sealed_tag
  fitting a t =
      let k = seal_zero aegis128l key nonce ad msg out tag_buf done in
      record {
        key_size = k.key_size;
        nonce_size = k.nonce_size;
        ad_fits = a;
        text_fits = omega (arith, form_length aegis128l key nonce ad msg sealed_text sealed_tag form);
        tag_size_ok = ap tag_size (seal_out_tag_length aegis128l key nonce ad msg out tag_buf) ∙ k.tag_size_ok;
      }

  pub seal_makes_records : length ad ≤ ad_limit → length msg ≤ text_limit
      → open_record_of (record_of key nonce ad sealed_text sealed_tag)
      ≡ record { answer = 0; start = head_size + length ad; count = length msg; input = record_of key nonce ad msg sealed_tag }
  seal_makes_records a t = sealed_record_opens key nonce ad sealed_text sealed_tag (fitting a t) msg form

-- the witness: any message within the limit, under a key and a nonce that are neither all 00 nor all ff, makes a record that opens
pub opened_witness : (msg : List ℕ) → length msg ≤ text_limit → (l : List ℕ) × ((open_record_of l).answer ≡ 0)
opened_witness msg t =
    let fixed : Allowed aegis128l (some_key 16) (some_nonce 16) some_data 16 =
    record { key_size = refl; nonce_size = refl; ad_fits = lit≤ tt; tag_size_ok = refl } in
    let done = ap (λ (r : SealLeft). r.answer)
    (seal_answers aegis128l (some_key 16) (some_nonce 16) some_data msg msg (zeros 16) fixed (omega arith) (le_refl (length msg))) in (
      _,
      ap (λ (r : RecordLeft). r.answer) (seal_makes_records (some_key 16) (some_nonce 16) some_data msg msg (zeros 16) done (omega arith) t),
    )

-- ---- the other way round: a record that opens holds the sealed form of its plaintext

accepted_parts : (l : List ℕ) → (open_parts l (text_start l) (text_end l)).answer ≡ 0
    → (open_in_place_of aegis128l (parts_in l).key (parts_in l).nonce (parts_in l).ad (parts_in l).text (parts_in l).tag).answer ≡ 0
unfolding open_parts
accepted_parts l e = e

pub opened_record-sealed : (l : List ℕ) → (open_record_of l).answer ≡ 0
    → SealedForm aegis128l (parts_in l).key (parts_in l).nonce (parts_in l).ad (plain_in l) (parts_in l).text (parts_in l).tag
opened_record-sealed l h =
    let z = open_zero aegis128l (parts_in l).key (parts_in l).nonce (parts_in l).ad (parts_in l).text (parts_in l).tag (parts_in l).text (accepted_parts l (opens l h).accepted) in
    due_form aegis128l (parts_in l).key (parts_in l).nonce (parts_in l).ad (parts_in l).text (parts_in l).tag z.0.msg_fits z.1
