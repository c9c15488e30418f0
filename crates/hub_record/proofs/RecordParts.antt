-- The parts of a record, cut out of what stands before, in and behind its ciphertext, and opened in place.
-- Assumes nothing.
use Prim.Native.Nat.{ℕ, ◌+◌, ◌≤◌}
use mathlib.Core.Path.{◌≡◌, sym, ap, ◌∙◌}
use mathlib.Core.List.{List, ◌++◌}
use native.Mathlib.Omega.{arith}
use lib.ListN.{length, take, drop}
use lib.Seq.{length-take-le, take-take}
use Rattle.std.proofs.lemmas.List.{drop-drop, take_rest}
use Rattle.std.proofs.lemmas.Slice.{between_is}
use Rattle.promises.specs.OneShot.{Left, open_in_place_of}
use Rattle.aegis128l.specs.Cipher.{aegis128l}
use Rattle.hub_record.specs.Record.{head_size, between, open_parts}

-- a part that ends within the first n bytes is a part of these
between-take : (i j n : ℕ) (l : List ℕ) → j ≤ n → between i j (take n l) ≡ between i j l
between-take i j n l h = between_is (take n l) i j ∙ ap (drop i) (take-take j n l h) ∙ sym (between_is l i j)

module _ (l : List ℕ) (a n : ℕ) (head : head_size ≤ a) (within : a + n ≤ length l) where
  text_is : take n (drop a l) ≡ between a (a + n) l
  text_is = ap (λ (k : ℕ). take k (drop a l)) (omega arith)

  ad_is : between head_size (length (take a l)) (take a l) ≡ between head_size a l
  ad_is = ap (λ (k : ℕ). between head_size k (take a l)) (length-take-le a l (omega arith)) ∙ between-take head_size a a l (omega arith)

  behind : drop n (drop a l) ≡ drop (a + n) l
  behind = drop-drop n a l

  -- the one-shot on the parts, each lent where it stands
  pub parts_opened : {r : ℕ} {f t g ys : List ℕ} → f ≡ take a l → t ≡ take n (drop a l) → g ≡ drop n (drop a l)
      → ◌≡◌ {A = Left} (record { answer = r; out = ys }) (open_in_place_of aegis128l (between 1 17 f) (between 17 33 f) (between head_size (length f) f) t g)
      → ◌≡◌ {A = Left} (record { answer = r; out = f ++ (ys ++ g) }) (open_parts l a (a + n))
  unfolding open_parts
  parts_opened ef et eg h =
      let key = ap (between 1 17) ef ∙ between-take 1 17 a l (omega arith) in
      let nonce = ap (between 17 33) ef ∙ between-take 17 33 a l (omega arith) in
      let ad = ap (λ (x : List ℕ). between head_size (length x) x) ef ∙ ad_is in
      let text = et ∙ text_is in
      let tag = eg ∙ behind in
      let o = h ∙ (λ i. open_in_place_of aegis128l (key i) (nonce i) (ad i) (text i) ((tag ∙ sym (take_rest l (a + n))) i)) in
      λ i. record { answer = (o i).answer; out = ef i ++ ((o i).out ++ tag i) }
