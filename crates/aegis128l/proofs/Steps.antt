-- The steps of the draft's definitions, from what the calls of a step give: what the code of a step cites.
-- Assumes nothing.
use Prim.Native.Nat.{ℕ, zero, suc, ◌+◌, ◌-◌, ◌≤◌, ◌<◌}
use mathlib.Core.Path.{◌≡◌, refl, sym, ap, ◌∙◌}
use mathlib.Core.List.{List, [], ◌∷◌}
use native.Mathlib.Omega.{arith}
use lib.ListN.{length, take, drop, length-drop}
use lib.Seq.{take_all, get_or-drop}
use Rattle.aes.specs.Round.{block, block_at, xor_of, and_of}
use Rattle.aegis128l.specs.Aegis128L.{Blocks, S, c0, c1, update, updates, absorb, keystream, loaded, init}
use Rattle.aegis128l.specs.View.{joined}

-- ---- many updates: i of n are done, and the state is s

pub updates_turn : (n i : ℕ) (s₀ s s' : Blocks) (a b : List ℕ) → i < n → updates n s₀ a b ≡ updates (n - i) s a b
    → s' ≡ update s a b → updates n s₀ a b ≡ updates (n - (i + 1)) s' a b
unfolding updates
updates_turn n i s₀ s s' a b h e u =
    let k : n - i ≡ suc (n - (i + 1)) = omega arith in
    e ∙ ap (λ (j : ℕ). updates j s a b) k ∙ ap (λ (x : Blocks). updates (n - (i + 1)) x a b) (sym u)

pub updates-end : (n i : ℕ) (s₀ s : Blocks) (a b : List ℕ) → n ≤ i → updates n s₀ a b ≡ updates (n - i) s a b → s ≡ updates n s₀ a b
unfolding updates
updates-end n i s₀ s a b h e =
    let k : n - i ≡ 0 = omega arith in
    sym (e ∙ ap (λ (j : ℕ). updates j s a b) k)

-- ---- only the first 16 bytes of a key, a nonce or a message block count

update_reads : (s : Blocks) (a b : List ℕ) → update s (block_at a 0) (block_at b 0) ≡ update s a b
unfolding update xor_of
update_reads s a b = refl

updates_reads : (n : ℕ) (s : Blocks) (a b : List ℕ) → updates n s (block_at a 0) (block_at b 0) ≡ updates n s a b
unfolding updates
updates_reads zero s a b = refl
updates_reads (suc n) s a b =
    ap (λ (x : Blocks). updates n x (block_at a 0) (block_at b 0)) (update_reads s a b) ∙ updates_reads n (update s a b) a b

loaded_reads : (key nonce : List ℕ) → loaded (block_at key 0) (block_at nonce 0) ≡ loaded key nonce
unfolding loaded xor_of
loaded_reads key nonce = refl

pub init_reads : (key nonce k n : List ℕ) (s r : Blocks) → k ≡ block_at key 0 → n ≡ block_at nonce 0
    → s ≡ loaded k n → r ≡ updates 10 s n k → r ≡ init key nonce
unfolding init
init_reads key nonce k n s r ek en es er =
    er ∙ (λ i. updates 10 (es i) (en i) (ek i)) ∙ (λ i. updates 10 (loaded (ek i) (en i)) (block_at nonce 0) (block_at key 0))
    ∙ ap (λ (x : Blocks). updates 10 x (block_at nonce 0) (block_at key 0)) (loaded_reads key nonce)
    ∙ updates_reads 10 (loaded key nonce) nonce key

-- ---- the halves of a block, the second lent as the part from n on

half : (n : ℕ) (l : List ℕ) → block_at (take (length l - n) (drop n l)) 0 ≡ block_at l n
half n l =
    let k : length (drop n l) ≡ length l - n = length-drop n l in
    ap (λ (x : List ℕ). block_at x 0) (take_all (length l - n) (drop n l) (omega arith)) ∙ (λ j. block (λ i. get_or-drop n l i 0 j))

pub absorbed : (s r : Blocks) (part a b : List ℕ) → a ≡ block_at part 0 → b ≡ block_at (take (length part - 16) (drop 16 part)) 0
    → r ≡ update s a b → r ≡ absorb s part
unfolding absorb
absorbed s r part a b ea eb er = er ∙ (λ i. update s (ea i) ((eb ∙ half 16 part) i))

-- ---- the keystream and its start, from what each xor and and gives

pub keyed : (s : Blocks) {p q x p' q' y r : List ℕ}
    → p ≡ xor_of (S s 6) (S s 1) → q ≡ and_of (S s 2) (S s 3) → x ≡ xor_of p q
    → p' ≡ xor_of (S s 2) (S s 5) → q' ≡ and_of (S s 6) (S s 7) → y ≡ xor_of p' q'
    → r ≡ joined x y → r ≡ keystream s
unfolding keystream xor_of
keyed s ep eq ex ep' eq' ey er =
    er ∙ (λ i. joined ((ex ∙ (λ j. xor_of (ep j) (eq j))) i) ((ey ∙ (λ j. xor_of (ep' j) (eq' j))) i))

pub begun : (k n : List ℕ) {kn k0 k1 : List ℕ} → kn ≡ xor_of k n → k0 ≡ xor_of k c0 → k1 ≡ xor_of k c1
    → ◌≡◌ {A = Blocks} (kn ∷ c1 ∷ c0 ∷ c1 ∷ kn ∷ k0 ∷ k1 ∷ k0 ∷ []) (loaded k n)
unfolding loaded
begun k n a b c = (λ i. a i ∷ c1 ∷ c0 ∷ c1 ∷ a i ∷ b i ∷ c i ∷ b i ∷ [])
