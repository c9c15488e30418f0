-- Calls on several sessions may be interleaved: those on each one are a trace of it.
-- Assumes nothing.
use Prim.Native.Nat.{ℕ}
use mathlib.Core.Path.{◌≡◌, refl, sym, subst}
use mathlib.Core.Bool.{Bool, true, false}
use lib.Dec.{eqb}
use borrow.Author.Tests.{eqb-true}
use Rattle.promises.specs.Cipher.{Cipher, Mac}
use Rattle.promises.specs.Session.{Session, pick}
use Rattle.promises.specs.Trace.{◌▸◌, Met, Trace, at_start, made}
use Rattle.promises.specs.Interleaved.{Interleaving, calls_on, Interleaved, not_yet, one_more}

module _ {S : Type 0} (C : Cipher S) (M : Mac S) where
  pub each_is_a_trace : {first last : ℕ → Session S} {ks : Interleaving} → Interleaved C M first ks last → (j : ℕ) → Trace C M (first j) (calls_on j ks) (last j)
  each_is_a_trace not_yet j = at_start
  each_is_a_trace {first} (one_more {ks} {last} t k c s' m) j = go (eqb j k) refl (each_is_a_trace t j)
    where
      go : (b : Bool) → eqb j k ≡ b → Trace C M (first j) (calls_on j ks) (last j)
          → Trace C M (first j) (pick b (calls_on j ks ▸ c) (calls_on j ks)) (pick b s' (last j))
      go true e t = made t c (subst (λ (i : ℕ). Met C M (last i) c s') (sym (eqb-true j k e)) m)
      go false e t = t
