-- `State::tag16` meets its contract: the first seven blocks, xored.
use Rattle.aegis128l.proofs.Tags.{xored_16}
use Rattle.aegis128l.proofs.state.State.tag16.Goals as goal

pub returns : goal.returns
returns c =
    xored_16 _ c.bitxor.ensures c.bitxor-2.ensures c.bitxor-3.ensures c.bitxor-4.ensures c.bitxor-5.ensures
    c.bitxor-x.ensures
