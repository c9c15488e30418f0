-- Several sessions, each with a number, whose calls come in any order: each call continues the session of its number, as the last call on that
-- session left it.
-- Assumes nothing.
use Rattle.std.specs.Prelude.{ℕ, eqb}
use Rattle.promises.specs.Cipher.{Cipher, Mac}
use Rattle.promises.specs.Session.{Session, pick}
use Rattle.promises.specs.Trace.{Made, Calls, none, ◌▸◌, Met}

-- all calls so far, each on the session of its number; the last one on the right
pub data Interleaving : Type 0 where
  nothing : Interleaving
  and_then : Interleaving → ℕ → Made → Interleaving

-- those on the session j
abbrev pub calls_on : ℕ → Interleaving → Calls
calls_on j nothing = none
calls_on j (and_then ks k c) = pick (eqb j k) (calls_on j ks ▸ c) (calls_on j ks)

-- the sessions, of which k becomes s
abbrev pub put : {S : Type 0} → ℕ → Session S → (ℕ → Session S) → ℕ → Session S
put k s sessions j = pick (eqb j k) s (sessions j)

-- the sessions were `first` before all calls, and are `last` behind them
pub data Interleaved {S : Type 0} (C : Cipher S) (M : Mac S) (first : ℕ → Session S) : Interleaving → (ℕ → Session S) → Type 0 where
  not_yet : Interleaved C M first nothing first
  one_more : {ks : Interleaving} {last : ℕ → Session S} → Interleaved C M first ks last → (k : ℕ) (c : Made) (s' : Session S) → Met C M (last k) c s'
      → Interleaved C M first (and_then ks k c) (put k s' last)
