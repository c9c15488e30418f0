-- The calls of a trace are calls like any other, so the first that applies is the answer of each; and there is a trace for any calls on any
-- session, in any order.
-- Assumes nothing.
use mathlib.Core.Path.{◌≡◌, sym, ap, ◌∙◌}
use mathlib.Core.List.{List, [], ◌∷◌, ◌++◌, append-nil, append_assoc}
use Rattle.promises.specs.Cipher.{Cipher, Mac}
use Rattle.promises.specs.Session.{Session}
use Rattle.promises.specs.Trace.{Ask, asked, Calls, none, ◌▸◌, Trace, at_start, made}
use Rattle.promises.specs.AnyCall.{asks}
use Rattle.promises.proofs.TracesAnswered.{answered}

module _ {S : Type 0} (C : Cipher S) (M : Mac S) where
  more : {s : Session S} (cs : Calls) (s' : Session S) (t : Trace C M s cs s') (qs : List Ask)
      → (ds : Calls) × (s'' : Session S) × (asks ds ≡ asks cs ++ qs) × Trace C M s ds s''
  more cs s' t [] = (cs, s', sym (append-nil (asks cs)), t)
  more cs s' t (q ∷ qs) =
      let a = answered C M s' q in
      let r = more (cs ▸ a.0) a.1 (made t a.0 a.3) qs in
      (r.0, r.1, r.2 ∙ append_assoc (asks cs) (asked a.0 ∷ []) qs ∙ ap (λ (x : Ask). asks cs ++ x ∷ qs) a.2, r.3)

  pub in_any_order : (s : Session S) (qs : List Ask) → (cs : Calls) × (s' : Session S) × (asks cs ≡ qs) × Trace C M s cs s'
  in_any_order s qs = more none s at_start qs
