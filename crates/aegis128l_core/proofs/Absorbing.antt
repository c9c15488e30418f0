-- A loop over input that is only read and absorbed, and the end of that input.
-- Assumes nothing.
use Prim.Native.Nat.{ℕ, ◌+◌, ◌-◌, ◌≤◌, ◌<◌}
use mathlib.Core.Path.{◌≡◌, sym, ap, ◌∙◌}
use mathlib.Core.List.{List}
use native.Mathlib.Omega.{arith}
use lib.ListN.{length, take, drop, length-drop, drop_of_length-le}
use lib.Seq.{drop-drop}
use Rattle.machine.specs.Machine.{Machine, Core, enc, start, after, close}
use Rattle.machine.specs.Draft.{draft_absorb}
use Rattle.machine.specs.Kinds.{silent}
use Rattle.machine.proofs.Blockwise.{after_block}
use Rattle.machine.proofs.Silent.{silent-start, silent-close, silent-absorbs}
use Rattle.machine.proofs.Kept.{start_kept, after_kept}
use Rattle.lent.proofs.Parts.{take_rest}
use Rattle.aegis128l_core.proofs.Loop.{after_from, from_nil}

module _ {S : Type 0} (M : Machine S) where
  open M use {rate, absorb}

  abbrev pub absorbed_from : S → List ℕ → Core S
  absorbed_from = after_from (silent M) enc

  -- i bytes of l are done, and the state is s
  pub record Absorbed (l : List ℕ) (s₀ s : S) (i : ℕ) : Type 0 where
    pub within : i ≤ length l
    pub state : absorbed_from s₀ l ≡ absorbed_from s (drop i l)

  module _ {l : List ℕ} {s₀ : S} (s : S) (i : ℕ) (p : Absorbed l s₀ s i) where
    pub absorbed_turn : (k e : ℕ) {s' : S} → s' ≡ absorb s (take k (drop i l)) → k ≡ rate → e ≡ i + k → e ≤ length l → Absorbed l s₀ s' e
    absorbed_turn k e {s'} es v q h =
        let r : rate ≤ length (drop i l) = omega (arith, length-drop i l) in
        record {
          within = h;
          state =
              p.state
              ∙ after_block (silent M) enc s (drop i l) r
              ∙ ap (λ (j : ℕ). absorbed_from (absorb s (take j (drop i l))) (drop j (drop i l))) (sym v)
              ∙ ap (absorbed_from (absorb s (take k (drop i l)))) (drop-drop k i l ∙ ap (λ (j : ℕ). drop j l) (sym q))
              ∙ ap (λ (t : S). absorbed_from t (drop e l)) (sym es);
        }

    pub absorbed_tail : {d r : Core S} → d ≡ start M s → r ≡ after (silent M) enc d (take (length l - i) (drop i l)) → r ≡ absorbed_from s₀ l
    absorbed_tail ed er =
        er ∙ ap (λ (x : Core S). after (silent M) enc x (take (length l - i) (drop i l))) (ed ∙ sym (silent-start M s))
        ∙ ap (absorbed_from s) (take_rest i l) ∙ sym p.state

    pub absorbed_done : {d : Core S} → d ≡ start M s → length l ≤ i → d ≡ absorbed_from s₀ l
    absorbed_done ed h =
        ed ∙ sym (silent-start M s) ∙ sym (from_nil (silent M) enc s).0 ∙ ap (absorbed_from s) (sym (drop_of_length-le l h)) ∙ sym p.state

-- the end of input that is only absorbed is what the draft absorbs
module _ {S : Type 0} (M : Machine S) (s : S) (l : List ℕ) {d : Core S} (e : d ≡ absorbed_from M s l) where
  pub absorbed_below : d.fill < Machine.rate M
  absorbed_below = rw e (after_kept (silent M) enc (start (silent M) s) l (start_kept (silent M) s)).fill_below

  pub absorbed_closed : {r : S} → r ≡ close M d → r ≡ draft_absorb M s l
  absorbed_closed er = er ∙ sym (silent-close M d) ∙ ap (close (silent M)) e ∙ silent-absorbs M s l
