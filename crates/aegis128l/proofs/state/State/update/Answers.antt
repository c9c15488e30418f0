-- `State::update` meets its contract: a round for each block, all from old values, and two xors.
use Rattle.std.proofs.Common.{arith}
use Rattle.aegis128l.proofs.Rounds.{turned, updated}
use Rattle.aegis128l.proofs.state.State.update.Goals as goal

pub loop-i-preserved : goal.loop-i-preserved
loop-i-preserved c = turned c.loop-i.invariant _ (omega arith) c.round.ensures

pub returns : goal.returns
returns c = updated c.loop-i.invariant _ _ (omega arith) _ _ c.bitxor.ensures c.bitxor-2.ensures
