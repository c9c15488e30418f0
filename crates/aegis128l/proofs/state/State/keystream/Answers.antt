-- `State::keystream` meets its contract: z0 and z1, one behind the other.
use Rattle.aegis128l.proofs.Steps.{keyed}
use Rattle.aegis128l.proofs.state.State.keystream.Goals as goal

pub returns : goal.returns
returns c =
    keyed _ c.bitxor.ensures c.bitand.ensures c.bitxor-a.ensures c.bitxor-2.ensures c.bitand-2.ensures c.bitxor-b.ensures
    c.join.ensures
