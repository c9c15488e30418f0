-- `State::tag` meets its contract: the tag of the buffer's size fills the buffer.
use Rattle.std.proofs.Common.{eq-eqb, false, ne_eqb, true}
use Rattle.aegis128l.proofs.Tags.{written}
use Rattle.aegis128l.proofs.state.State.tag.Goals as goal

pub returns-then-out-eq16 : goal.returns-then-out-eq16
returns-then-out-eq16 c =
    written _ _ _ _ true _ c.requires c.finalized-s.ensures (eq-eqb _ _ c.if-out-eq16.true) c.tag16-tag.ensures
    c.put.ensures

pub returns-else-out-eq16 : goal.returns-else-out-eq16
returns-else-out-eq16 c =
    written _ _ _ _ false _ c.requires c.finalized-s.ensures (ne_eqb _ _ c.if-out-eq16.false) c.tag32.ensures
    c.put-else-out-eq16.ensures
