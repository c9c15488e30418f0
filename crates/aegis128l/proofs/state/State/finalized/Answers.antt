-- `State::finalized` meets its contract: seven updates with the third block xored with the lengths.
use Rattle.aegis128l.proofs.Tags.{finished}
use Rattle.aegis128l.proofs.state.State.finalized.Goals as goal

pub returns : goal.returns
returns c = finished _ _ _ c.length_block.ensures c.bitxor-x.ensures c.updates.ensures
