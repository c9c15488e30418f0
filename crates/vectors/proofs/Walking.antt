-- A walk goes on with a section after one record more.
-- Assumes nothing.
use Prim.Native.Nat.{ℕ, ◌+◌, ◌≤◌}
use mathlib.Core.Path.{◌≡◌, sym, ap, subst}
use mathlib.Core.List.{List}
use native.Mathlib.Omega.{arith}
use lib.ListN.{length, drop, length-drop}
use Rattle.std.specs.Prelude.{Option, Some, IfSome}
use Rattle.std.specs.Option.{MatchOption}
use Rattle.recorded.specs.declared.list.Kind.{Kind}
use Rattle.recorded.specs.declared.list.Short.{Short}
use Rattle.recorded.specs.declared.list.Entry.{Entry}
use Rattle.recorded.specs.declared.list.Entry.TheVariants as entry
use Rattle.recorded.specs.Entries.{Begins, Taken}
use Rattle.vectors.specs.declared.replay.Section.{Section}
use Rattle.vectors.specs.Walk.{Walked, step, Stepped}

-- what a list begins with, where that is a record
pub taken_of : {l : List ℕ} {e : Option Entry} {kind : Kind} {s : Short} {end : ℕ} → IfSome e (Begins l) → e ≡ Some (entry.Record kind s end)
    → Taken l kind s.parts end
taken_of {l = l} b is = subst (λ (e : Option Entry). IfSome e (Begins l)) is b

-- what a step gives, where that is a section
pub stepped_of : {left : List ℕ} (P : Type 0) {s r : Section} {o : Option Section} → MatchOption o P (λ (n : Section). Stepped left s n) → o ≡ Some r
    → Stepped left s r
stepped_of {left = left} P {s = s} m is = subst (λ (o : Option Section). MatchOption o P (λ (n : Section). Stepped left s n)) is m

module _ (l : List ℕ) {left : List ℕ} {s r : Section} (n : Stepped left s r) (here : left ≡ drop s.at l) where
  pub walked_on : {from : ℕ} → Walked l from s.at s.tally → Walked l from r.at r.tally
  walked_on {from = from} w =
      let taken = subst (λ (x : List ℕ). Taken x n.kind n.parts n.end) here n.taken in
      subst (λ (at : ℕ). Walked l from at r.tally) (sym n.further)
      (subst (Walked l from (s.at + n.end)) (sym n.counts) (step n.kind n.parts n.end n.cuttings w taken n.holds))

  pub inside_on : s.at ≤ length l → r.at ≤ length l
  inside_on h = omega (arith, n.further, n.taken.inside, ap length here, length-drop s.at l)
