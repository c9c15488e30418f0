-- A loop that lays the keystream over a buffer: zeros are absorbed, whatever the buffer holds.
-- Assumes nothing.
use Prim.Native.Nat.{ℕ, ◌-◌, ◌≤◌}
use mathlib.Core.Path.{◌≡◌, refl, sym, ◌∙◌}
use mathlib.Core.List.{List, []}
use native.Mathlib.Omega.{arith}
use lib.ListN.{length, take, drop, length-drop}
use lib.Seq.{length-take-le}
use borrow.Rule.Slice.PartMut.{put_mid}
use Rattle.machine.specs.Bytes.{xors, zeros}
use Rattle.machine.specs.Machine.{Machine, enc}
use Rattle.machine.specs.Kinds.{streaming, stream_xor}
use Rattle.machine.proofs.Block.{start-out}
use Rattle.machine.proofs.Stream.{stream-out}
use Rattle.lent.proofs.Rest.{Blocks, Going, going_tail, going_done}
use Rattle.aegis128l_core.proofs.Loop.{out_from, by_blocks, from_nil}

-- no state is handed on at the end
abbrev no_state : {S : Type 0} → S → List ℕ → List ℕ
no_state s l = []

module _ {S : Type 0} (M : Machine S) where
  open M use {rate, begin, absorb}

  abbrev pub Streamed : S → List ℕ → S → List ℕ → ℕ → Type 0
  Streamed = Going no_state (out_from (streaming M) enc)

  pub stream-blocks : Blocks rate (λ s b. absorb s (zeros rate)) (λ s b. xors b (begin s)) no_state (out_from (streaming M) enc)
  stream-blocks = record {
    state = λ s l h. refl;
    out = λ s l h. (by_blocks (streaming M) enc).out s l h;
    size = λ s b h. (by_blocks (streaming M) enc).size s b h;
  }

  module _ {s₀ : S} {l₀ : List ℕ} (s : S) (l : List ℕ) (i : ℕ) (p : Streamed s₀ l₀ s l i) where
    pub streamed_tail : (k : ℕ) {ys : List ℕ} → ys ≡ xors (take k (drop i l)) (begin s) → k ≡ length l - i → k ≤ rate
        → put_mid i k l ys ≡ stream_xor M s₀ l₀
    streamed_tail k {ys} ey v h =
        let n : length (take k (drop i l)) ≡ k = length-take-le k (drop i l) (omega (arith, length-drop i l)) in
        (going_tail s l i p k [] ys refl (ey ∙ sym (start-out (streaming M) enc s (take k (drop i l)) (omega arith))) v).1
        ∙ stream-out M enc s₀ l₀

    pub streamed_done : length l ≤ i → l ≡ stream_xor M s₀ l₀
    streamed_done h = (going_done s l i p refl (from_nil (streaming M) enc s).1 h).1 ∙ stream-out M enc s₀ l₀
