-- `State::new` meets its contract: the state is loaded, and updated ten times.
use Rattle.aegis128l.proofs.Steps.{init_reads}
use Rattle.aegis128l.proofs.state.State.new.Goals as goal

pub returns : goal.returns
returns c =
    init_reads _ _ _ _ _ _ c.from_part-k.ensures c.from_part-n.ensures
    c.loaded-s.ensures c.updates.ensures
