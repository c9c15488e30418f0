-- The demands at AEGIS-128L, and every trace of the code is one that they speak of.
-- Assumes nothing.
use Prim.Native.Nat.{ℕ}
use mathlib.Core.List.{List}
use Rattle.promises.specs.Allowed.{Allowed}
use Rattle.promises.specs.Trace.{Calls, Trace, at_start, made, SealSession, OpenSession, MacSession}
use Rattle.promises.specs.Demands.{Demand1, Demand2, Demand3}
use Rattle.promises.proofs.Demand1.{demand_1}
use Rattle.promises.proofs.Demand2.{demand_2}
use Rattle.promises.proofs.Demand3.{demand_3}
use Rattle.aegis128l.specs.Cipher.{aegis128l, mac_of_aegis128l}
use Rattle.aegis128l.proofs.ByteCipher.{aegis128l-bytes}
use Rattle.session.specs.declared.Session.{Session}
use Rattle.session.specs.View.{session_of}
use Rattle.guarantees.specs.CodeTrace.{CodeTrace, as_started, called, Sealing, Opening, Macing}

code_trace : {s₀ s : Session} {cs : Calls} → CodeTrace s₀ cs s → Trace aegis128l mac_of_aegis128l (session_of s₀) cs (session_of s)
code_trace as_started = at_start
code_trace (called t c m) = made (code_trace t) c m

pub code-seals : {key nonce ad : List ℕ} {n : ℕ} {cs : Calls} → Sealing key nonce ad n cs → SealSession aegis128l mac_of_aegis128l key nonce ad n cs
code-seals t = record {
  started = t.started;
  first = session_of t.first;
  last = session_of t.last;
  start_met = t.start_met;
  trace = code_trace t.trace;
}

pub code-opens : {key nonce ad p₀ p : List ℕ} {n : ℕ} {cs : Calls} → Opening key nonce ad n p₀ cs p → OpenSession aegis128l mac_of_aegis128l key nonce ad n p₀ cs p
code-opens t = record {
  started = t.started;
  first = session_of t.first;
  last = session_of t.last;
  start_met = t.start_met;
  trace = code_trace t.trace;
  buffer = t.buffer;
}

pub code-macs : {key nonce : List ℕ} {n : ℕ} {cs : Calls} → Macing key nonce n cs → MacSession aegis128l mac_of_aegis128l key nonce n cs
code-macs t = record {
  started = t.started;
  first = session_of t.first;
  last = session_of t.last;
  start_met = t.start_met;
  trace = code_trace t.trace;
}

pub aegis128l_demand_1 : Demand1 aegis128l mac_of_aegis128l
aegis128l_demand_1 = demand_1 aegis128l mac_of_aegis128l

pub aegis128l_demand_2 : Demand2 aegis128l mac_of_aegis128l
aegis128l_demand_2 = demand_2 aegis128l mac_of_aegis128l

pub aegis128l_demand_3 : (key nonce ad : List ℕ) (n : ℕ) → Allowed aegis128l key nonce ad n → Demand3 aegis128l mac_of_aegis128l key nonce ad n
aegis128l_demand_3 key nonce ad n fixed = demand_3 aegis128l mac_of_aegis128l key nonce ad n fixed aegis128l-bytes
