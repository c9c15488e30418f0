use Rattle.std.proofs.Common.{◌-◌, ◌≡◌}
use Rattle.aegis128l.specs.Aegis128L as draft
use Rattle.aegis128l.specs.View.{state_of}
use Rattle.aegis128l.proofs.state.State.updates.Given as goal

abbrev pub invariant-loop : goal.invariant-loop
invariant-loop l = draft.updates l.n (state_of l.initial.s) l.a.bytes l.b.bytes ≡ draft.updates (l.n - l.counter) (state_of l.s) l.a.bytes l.b.bytes
