-- Pieces: what makes a call's outcome the promised one, where its ladder refused, and where it counted.
-- Assumes nothing.
use Prim.Native.Nat.{ℕ, ◌+◌, ◌-◌, ◌≤◌}
use native.Mathlib.Omega.{arith}
use mathlib.Core.Path.{◌≡◌, refl, ap, ◌∙◌}
use mathlib.Core.List.{List, ◌++◌}
use lib.ListN.{length, take, drop, length-drop}
use lib.Seq.{length-take-le}
use borrow.Rule.Slice.PartMut.{put_mid}
use Rattle.machine.specs.Machine.{Machine, Core, Mode, after, out}
use Rattle.machine.proofs.Cutting.{out-length}
use Rattle.answers.specs.declared.Refusal.{Refusal}
use Rattle.answers.specs.Refusals.{number}
use Rattle.answers.specs.Length.{Counted, counted}
use Rattle.answers.proofs.Refusals.{number_zero}
use Rattle.answers.proofs.Counter.{told_answer}
use Rattle.lent.specs.Lent.{over}
use Rattle.lent.proofs.Over.{over-same}
use Rattle.promises.specs.OneShot.{on_done}
use Rattle.promises.specs.Texts.{onto}
use Rattle.promises.specs.SessionCalls.{advanced, wrote_more}
use Rattle.promises.specs.Session.{Session, core}
use Rattle.promises.proofs.Ladder.{does, refuses}
use Rattle.session.specs.View.{with_total, with_core}

-- ---- what a call leaves, by what its ladder a told

module _ {A : Type 0} (refused : ℕ → A) (done : A) (a total n : ℕ) where
  pub not_counted : (r : Refusal) → ◌≡◌ {A = Counted} (record { answer = number r; total = total }) (counted a total n)
      → refused (number r) ≡ on_done a refused done
  not_counted r e = refuses a (number r) refused done (told_answer total a n e) (number_zero r)

  pub is_counted : {t : ℕ} {x : A} → ◌≡◌ {A = Counted} (record { answer = 0; total = t }) (counted a total n) → x ≡ done → x ≡ on_done a refused done
  is_counted {t} {x} e h = does a 0 refused done x (told_answer total a n e) refl h

-- ---- a session that took xs, and whose counter was then brought to t

pub advances : {S : Type 0} (M : Machine S) (m : Mode) (s fed q : Session S) (xs : List ℕ) (t n : ℕ)
    → q ≡ with_total fed t → fed ≡ with_core s (after M m (core s) xs) → t ≡ s.msg_length + n → q ≡ advanced s (after M m (core s) xs) n
unfolding advanced
advances M m s fed q xs t n e f h = e ∙ (λ k. with_total (f k) (h k))

-- and whose count written was brought to w
abbrev pub with_written : {S : Type 0} → Session S → ℕ → Session S
with_written s w = record {
  state = s.state;
  buf = s.buf;
  fill = s.fill;
  ad_length = s.ad_length;
  msg_length = s.msg_length;
  tag_size = s.tag_size;
  mark = s.mark;
  room = s.room;
  written = w;
}

pub wrote : {S : Type 0} (s q : Session S) (c : Core S) (n : ℕ) → q ≡ advanced s c n → with_written q (s.written + n) ≡ wrote_more (advanced s c n) n
unfolding advanced wrote_more
wrote {S = S} s q c n e = ap (λ (x : Session S). with_written x (s.written + n)) e

-- ---- bytes laid over a part of a buffer that has their length, and what comes out for them put back

module _ (w : ℕ) (xs buf : List ℕ) where
  pub laid : w + length xs ≤ length buf → over xs (take ((w + length xs) - w) (drop w buf)) ≡ xs
  laid h =
      let d : length (drop w buf) ≡ length buf - w = length-drop w buf in
      let t = length-take-le ((w + length xs) - w) (drop w buf) (omega arith) in
      over-same xs _ (omega (arith, t))

  pub put_back : {S : Type 0} (M : Machine S) (m : Mode) (c : Core S) (o : List ℕ) → o ≡ out M m c xs
      → put_mid w ((w + length xs) - w) buf o ≡ take w buf ++ onto (out M m c xs) (drop w buf)
  put_back M m c o e =
      let n : (w + length xs) - w ≡ length (out M m c xs) = omega (arith, out-length M m c xs) in
      λ k. take w buf ++ (e k ++ drop (n k) (drop w buf))
