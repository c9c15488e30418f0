use Rattle.std.proofs.Common.{arith, refl, ◌∙◌}
use Rattle.lent.specs.Lent.{wiped}
use Rattle.lent.proofs.Wiped.{wiped_store, wiped_short}
use Rattle.lent.proofs.wipe.Goals as goal

pub loop-i-init : goal.loop-i-init
unfolding wiped
loop-i-init c = refl

pub loop-i-preserved : goal.loop-i-preserved
loop-i-preserved c = wiped_store c.loop-i.i _ _ _ (omega arith) c.loop-i.invariant

pub returns : goal.returns
returns c = c.loop-i.invariant ∙ wiped_short c.loop-i.i _ _ _ (omega arith)
