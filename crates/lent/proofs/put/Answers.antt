use Rattle.std.proofs.Common.{arith, refl, ◌∙◌}
use Rattle.lent.specs.Lent.{over}
use Rattle.lent.proofs.Over.{over_store, over_short}
use Rattle.lent.proofs.put.Goals as goal

pub loop-i-init : goal.loop-i-init
unfolding over
loop-i-init c = refl

pub loop-i-preserved : goal.loop-i-preserved
loop-i-preserved c = over_store _ _ _ c.loop-i.i (omega arith) (omega arith) c.loop-i.invariant

pub returns : goal.returns
returns c = c.loop-i.invariant ∙ over_short _ _ c.loop-i.i (omega arith)
