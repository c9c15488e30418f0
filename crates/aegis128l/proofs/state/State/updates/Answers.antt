-- `State::updates` meets its contract: the updates that are left come to what all come to.
use Rattle.std.proofs.Common.{arith}
use Rattle.aegis128l.specs.View.{state_of}
use Rattle.aegis128l.proofs.Steps.{updates_turn, updates-end}
use Rattle.aegis128l.proofs.state.State.updates.Goals as goal

pub loop-preserved : goal.loop-preserved
loop-preserved c =
    let L = c.loop in
    updates_turn _ L.counter _ (state_of L.s) _ _ _ (omega arith) L.invariant c.update-s.ensures

pub returns : goal.returns
returns c =
    let L = c.loop in
    updates-end _ L.counter _ (state_of L.s) _ _ (omega arith) L.invariant
