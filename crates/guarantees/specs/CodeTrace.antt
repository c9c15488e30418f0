-- A trace of the code: calls of the exported functions (crates/thin) on the caller's own struct, each of which met its contract
-- (CallContracts.antt), each lent the struct as the last one left it. A start comes first: it writes the struct, whatever that held.
-- Assumes nothing.
use Rattle.std.specs.Prelude.{ℕ, List, length}
use Rattle.promises.specs.Met.{SealStartMet, OpenStartMet, MacStartMet}
use Rattle.promises.specs.Trace.{Made, Calls, none, ◌▸◌, Met, OneBuffer}
use Rattle.aegis128l.specs.Cipher.{aegis128l, mac_of_aegis128l}
use Rattle.session.specs.declared.Session.{Session}
use Rattle.session.specs.View.{session_of}

-- the calls, made one after the other on a struct that was s₀ before them and is s behind them
pub data CodeTrace (s₀ : Session) : Calls → Session → Type 0 where
  as_started : CodeTrace s₀ none s₀
  called : {cs : Calls} {s s' : Session} → CodeTrace s₀ cs s → (c : Made) → Met aegis128l mac_of_aegis128l (session_of s) c (session_of s') → CodeTrace s₀ (cs ▸ c) s'

-- aegis128l_seal_start, and the calls behind it
pub record Sealing (key nonce ad : List ℕ) (n : ℕ) (cs : Calls) : Type 0 where
  pub started : ℕ
  pub first : Session
  pub last : Session
  pub start_met : SealStartMet aegis128l key nonce ad n started (session_of first)
  pub trace : CodeTrace first cs last

-- aegis128l_open_start with the length of a buffer, and the calls behind it, which are lent that buffer, untouched in between
pub record Opening (key nonce ad : List ℕ) (n : ℕ) (p₀ : List ℕ) (cs : Calls) (p : List ℕ) : Type 0 where
  pub started : ℕ
  pub first : Session
  pub last : Session
  pub start_met : OpenStartMet aegis128l key nonce ad n (length p₀) started (session_of first)
  pub trace : CodeTrace first cs last
  pub buffer : OneBuffer p₀ cs p

-- aegis128l_mac_start, and the calls behind it
pub record Macing (key nonce : List ℕ) (n : ℕ) (cs : Calls) : Type 0 where
  pub started : ℕ
  pub first : Session
  pub last : Session
  pub start_met : MacStartMet aegis128l key nonce n started (session_of first)
  pub trace : CodeTrace first cs last
