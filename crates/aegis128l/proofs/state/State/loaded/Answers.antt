-- `State::loaded` meets its contract: three xors, and the constants.
use Rattle.aegis128l.proofs.Steps.{begun}
use Rattle.aegis128l.proofs.state.State.loaded.Goals as goal

pub returns : goal.returns
returns c = begun _ _ c.bitxor-kn.ensures c.bitxor-k0.ensures c.bitxor-k1.ensures
