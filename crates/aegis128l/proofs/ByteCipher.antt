-- AEGIS-128L maps bytes to bytes: its states are blocks of bytes, and so keystream and tags are.
-- Assumes nothing.
use Prim.Native.Nat.{ℕ, zero, suc, ◌+◌, ◌/◌, ◌%◌, ◌<◌}
use mathlib.Core.Bool.{Bool, true, false}
use mathlib.Core.List.{List, [], ◌∷◌}
use lib.Dec.{eqb, lit<}
use lib.ListN.{get_or}
use Rattle.machine.specs.Bytes.{Bytes}
use Rattle.machine.specs.Lengths.{length_block}
use Rattle.machine.proofs.ByteLists.{byte_at, bytes-append, xor_byte, and_byte}
use Rattle.machine.proofs.Lengths.{length_block-bytes}
use Rattle.aes.specs.Round.{block, block_at, at, columns_of, sub_bytes, shift_rows, mix_columns, add_round_key, round_of, xor_of, and_of}
use Rattle.aes.proofs.ByteRounds.{round_byte}
use Rattle.promises.proofs.ByteTexts.{Bytewise}
use Rattle.aegis128l.specs.Aegis128L.{Blocks, c0, c1, S, update, updates, absorb, keystream, loaded, init, finalized, tag16, tag32, tag_by, tag}
use Rattle.aegis128l.specs.Cipher.{aegis128l}

block-bytes : (f : ℕ → ℕ) → ((i : ℕ) → f i < 256) → Bytes (block f)
block-bytes f h = (h 0, (h 1, (h 2, (h 3, (h 4, (h 5, (h 6, (h 7, (h 8, (h 9, (h 10, (h 11, (h 12, (h 13, (h 14, (h 15, tt))))))))))))))))

xor_bytes : (a b : List ℕ) → Bytes a → Bytes b → Bytes (xor_of a b)
unfolding xor_of
xor_bytes a b ha hb = block-bytes (λ i. _) (λ i. xor_byte (get_or a i 0) (get_or b i 0) (byte_at a ha i) (byte_at b hb i))

and_bytes : (a b : List ℕ) → Bytes a → Bytes b → Bytes (and_of a b)
unfolding and_of
and_bytes a b ha hb = block-bytes (λ i. _) (λ i. and_byte (get_or a i 0) (get_or b i 0) (byte_at a ha i) (byte_at b hb i))

round_bytes : (b k : List ℕ) → Bytes k → Bytes (round_of b k)
unfolding round_of
round_bytes b k h =
    block-bytes (λ i. at (add_round_key (mix_columns (shift_rows (sub_bytes (columns_of b)))) (columns_of k)) (i % 4) (i / 4))
    (λ i. round_byte b k (byte_at k h) (i % 4) (i / 4))

-- ---- states

abbrev AllBytes : Blocks → Type 0
AllBytes [] = Unit {0}
AllBytes (b ∷ bs) = Bytes b × AllBytes bs

S-bytes : (s : Blocks) → AllBytes s → (i : ℕ) → Bytes (S s i)
S-bytes [] h i = tt
S-bytes (b ∷ bs) h zero = h.0
S-bytes (b ∷ bs) h (suc i) = S-bytes bs h.1 i

update-bytes : (s : Blocks) (m0 m1 : List ℕ) → AllBytes s → Bytes m0 → Bytes m1 → AllBytes (update s m0 m1)
unfolding update
update-bytes s m0 m1 h h0 h1 =
    let k = S-bytes s h in (
      xor_bytes (round_of (S s 7) (S s 0)) m0 (round_bytes (S s 7) (S s 0) (k 0)) h0,
      (
        round_bytes (S s 0) (S s 1) (k 1),
        (
          round_bytes (S s 1) (S s 2) (k 2),
          (
            round_bytes (S s 2) (S s 3) (k 3),
            (
              xor_bytes (round_of (S s 3) (S s 4)) m1 (round_bytes (S s 3) (S s 4) (k 4)) h1,
              (
                round_bytes (S s 4) (S s 5) (k 5),
                (
                  round_bytes (S s 5) (S s 6) (k 6),
                  (round_bytes (S s 6) (S s 7) (k 7), tt),
                ),
              ),
            ),
          ),
        ),
      ),
    )

updates-bytes : (n : ℕ) (s : Blocks) (m0 m1 : List ℕ) → AllBytes s → Bytes m0 → Bytes m1 → AllBytes (updates n s m0 m1)
unfolding updates
updates-bytes zero s m0 m1 h h0 h1 = h
updates-bytes (suc n) s m0 m1 h h0 h1 = updates-bytes n (update s m0 m1) m0 m1 (update-bytes s m0 m1 h h0 h1) h0 h1

block_at-bytes : (b : List ℕ) (o : ℕ) → Bytes b → Bytes (block_at b o)
block_at-bytes b o h = block-bytes (λ i. get_or b (o + i) 0) (λ i. byte_at b h (o + i))

absorb-bytes : (s : Blocks) (b : List ℕ) → AllBytes s → Bytes b → AllBytes (absorb s b)
unfolding absorb
absorb-bytes s b h hb = update-bytes s (block_at b 0) (block_at b 16) h (block_at-bytes b 0 hb) (block_at-bytes b 16 hb)

keystream-bytes : (s : Blocks) → AllBytes s → Bytes (keystream s)
unfolding keystream
keystream-bytes s h =
    let k = S-bytes s h in
    bytes-append (xor_of (xor_of (S s 6) (S s 1)) (and_of (S s 2) (S s 3))) (xor_of (xor_of (S s 2) (S s 5)) (and_of (S s 6) (S s 7)))
    (xor_bytes (xor_of (S s 6) (S s 1)) (and_of (S s 2) (S s 3)) (xor_bytes (S s 6) (S s 1) (k 6) (k 1)) (and_bytes (S s 2) (S s 3) (k 2) (k 3)))
    (xor_bytes (xor_of (S s 2) (S s 5)) (and_of (S s 6) (S s 7)) (xor_bytes (S s 2) (S s 5) (k 2) (k 5)) (and_bytes (S s 6) (S s 7) (k 6) (k 7)))

c0-bytes : Bytes c0
c0-bytes = (lit< tt, (lit< tt, (lit< tt, (lit< tt, (lit< tt, (lit< tt, (lit< tt, (lit< tt, (lit< tt, (lit< tt, (lit< tt, (lit< tt, (lit< tt, (lit< tt, (lit< tt, (lit< tt, tt))))))))))))))))

c1-bytes : Bytes c1
c1-bytes = (lit< tt, (lit< tt, (lit< tt, (lit< tt, (lit< tt, (lit< tt, (lit< tt, (lit< tt, (lit< tt, (lit< tt, (lit< tt, (lit< tt, (lit< tt, (lit< tt, (lit< tt, (lit< tt, tt))))))))))))))))

init-bytes : (key nonce : List ℕ) → Bytes key → Bytes nonce → AllBytes (init key nonce)
unfolding init loaded
init-bytes key nonce hk hn =
    let kn = xor_bytes key nonce hk hn in
    let k0 = xor_bytes key c0 hk c0-bytes in
    let k1 = xor_bytes key c1 hk c1-bytes in
    updates-bytes 10 (loaded key nonce) nonce key (kn, (c1-bytes, (c0-bytes, (c1-bytes, (kn, (k0, (k1, (k0, tt)))))))) hn hk

finalized-bytes : (s : Blocks) (a b : ℕ) → AllBytes s → AllBytes (finalized s a b)
unfolding finalized
finalized-bytes s a b h =
    let t = xor_bytes (S s 2) (length_block a b) (S-bytes s h 2) (length_block-bytes a b) in
    updates-bytes 7 s (xor_of (S s 2) (length_block a b)) (xor_of (S s 2) (length_block a b)) h t t

tag_by-bytes : (t : Bool) (s : Blocks) → AllBytes s → Bytes (tag_by t s)
unfolding tag16 tag32
tag_by-bytes true s h =
    let k = S-bytes s h in
    xor_bytes _ (S s 6) (xor_bytes _ (S s 5) (xor_bytes _ (S s 4) (xor_bytes _ (S s 3) (xor_bytes _ (S s 2) (xor_bytes (S s 0) (S s 1) (k 0) (k 1)) (k 2)) (k 3)) (k 4)) (k 5)) (k 6)
tag_by-bytes false s h =
    let k = S-bytes s h in
    bytes-append (xor_of (xor_of (xor_of (S s 0) (S s 1)) (S s 2)) (S s 3)) (xor_of (xor_of (xor_of (S s 4) (S s 5)) (S s 6)) (S s 7))
    (xor_bytes _ (S s 3) (xor_bytes _ (S s 2) (xor_bytes (S s 0) (S s 1) (k 0) (k 1)) (k 2)) (k 3))
    (xor_bytes _ (S s 7) (xor_bytes _ (S s 6) (xor_bytes (S s 4) (S s 5) (k 4) (k 5)) (k 6)) (k 7))

tag-bytes : (s : Blocks) (a b n : ℕ) → AllBytes s → Bytes (tag s a b n)
unfolding tag
tag-bytes s a b n h = tag_by-bytes (eqb n 16) (finalized s a b) (finalized-bytes s a b h)

pub aegis128l-bytes : Bytewise aegis128l
aegis128l-bytes = record { P = AllBytes; inits = init-bytes; begins = keystream-bytes; absorbs = absorb-bytes; tags = tag-bytes }
