-- Start, absorbing and finalization of AEGIS-128L in the form that computes fast. Each hands its state on, written out.
-- Assumes nothing.
use Prim.Native.Nat.{ℕ}
use mathlib.Core.Path.{◌≡◌, ap, ◌∙◌}
use mathlib.Core.List.{List}
use Rattle.machine.specs.Draft.{zero_pad, split, draft_absorb}
use Rattle.machine.specs.Lengths.{length_block}
use Rattle.aes.specs.Round.{xor_of}
use Rattle.aegis128l.specs.Aegis128L.{Blocks, S, machine, loaded, init, finalized}
use Rattle.draft_vectors.proofs.Computing.{with_blocks, blocks_are, computed, is_computed, absorbs, is_absorbed}

-- whole blocks of an input, the last one padded
abbrev pub padded : List ℕ → List (List ℕ)
padded xs = split 32 (zero_pad 32 xs)

-- what is added to the state before the tag
abbrev with_lengths : Blocks → ℕ → ℕ → List ℕ
with_lengths s a b = xor_of (S s 2) (length_block a b)

module _ {A : Type 0} where
  -- seven updates, and the state after them
  unfoldable pub finally : ℕ → ℕ → (Blocks → A) → Blocks → A
  finally a b k m = with_blocks (computed 7 m (with_lengths m a b) (with_lengths m a b)) k

  pub is_final : (a b : ℕ) (k : Blocks → A) (m : Blocks) → finally a b k m ≡ k (finalized m a b)
  unfolding finally finalized
  is_final a b k m =
      blocks_are (computed 7 m (with_lengths m a b) (with_lengths m a b)) k ∙ ap k (is_computed 7 m (with_lengths m a b) (with_lengths m a b))

  -- an input absorbed
  unfoldable pub absorbing : List ℕ → (Blocks → A) → Blocks → A
  absorbing xs k s = with_blocks (absorbs s (padded xs)) k

  pub is_absorbing : (xs : List ℕ) (k : Blocks → A) (s : Blocks) → absorbing xs k s ≡ k (draft_absorb machine s xs)
  unfolding absorbing draft_absorb
  is_absorbing xs k s = blocks_are (absorbs s (padded xs)) k ∙ ap k (is_absorbed s (padded xs))

  -- key and nonce
  unfoldable pub starting : List ℕ → List ℕ → (Blocks → A) → A
  starting key nonce k = with_blocks (computed 10 (loaded key nonce) nonce key) k

  pub is_starting : (key nonce : List ℕ) (k : Blocks → A) → starting key nonce k ≡ k (init key nonce)
  unfolding starting init
  is_starting key nonce k = blocks_are (computed 10 (loaded key nonce) nonce key) k ∙ ap k (is_computed 10 (loaded key nonce) nonce key)
