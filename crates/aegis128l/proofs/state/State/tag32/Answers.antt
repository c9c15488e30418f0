-- `State::tag32` meets its contract: the first four blocks, xored, and the last four.
use Rattle.aegis128l.proofs.Tags.{xored_32}
use Rattle.aegis128l.proofs.state.State.tag32.Goals as goal

pub returns : goal.returns
returns c =
    xored_32 _ c.bitxor.ensures c.bitxor-2.ensures c.bitxor-a.ensures c.bitxor-3.ensures c.bitxor-4.ensures
    c.bitxor-b.ensures c.join.ensures
