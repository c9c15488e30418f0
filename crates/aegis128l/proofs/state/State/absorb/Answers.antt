-- `State::absorb` meets its contract: an update with the two halves of the part.
use Rattle.aegis128l.proofs.Steps.{absorbed}
use Rattle.aegis128l.proofs.state.State.absorb.Goals as goal

pub returns : goal.returns
returns c =
    absorbed _ _ _ _ _ c.from_part-a.ensures c.from_part-b.ensures c.update.ensures
