-- The tag of a session, from the machine at work in it (k) and the state that it is closed to (e).
-- Assumes nothing.
use Prim.Native.Nat.{ℕ}
use mathlib.Core.Path.{◌≡◌, ap, ◌∙◌}
use mathlib.Core.List.{List}
use Rattle.machine.specs.Machine.{Core, close}
use Rattle.promises.specs.Cipher.{Cipher}
use Rattle.promises.specs.Session.{Session, core, session_tag}

module _ {S : Type 0} (C : Cipher S) where
  open C use {machine, tag}

  module _ (s : Session S) (k : Core S) (e : S) (o : List ℕ) (n : ℕ) (of-s : k ≡ core s) (own_size : n ≡ s.tag_size) where
    pub tag_is : e ≡ close machine k → o ≡ tag e s.ad_length s.msg_length n → o ≡ session_tag C s
    unfolding session_tag
    tag_is ee eo = eo ∙ (λ j. tag ((ee ∙ ap (close machine) of-s) j) s.ad_length s.msg_length (own_size j))
