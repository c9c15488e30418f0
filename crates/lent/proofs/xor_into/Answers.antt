use Rattle.std.proofs.Common.{arith, refl, ◌∙◌}
use Rattle.lent.specs.Lent.{xored}
use Rattle.lent.proofs.Xored.{xored_store, xored_short}
use Rattle.lent.proofs.xor_into.Goals as goal

pub loop-i-init : goal.loop-i-init
unfolding xored
loop-i-init c = refl

pub loop-i-preserved : goal.loop-i-preserved
loop-i-preserved c = xored_store _ _ _ c.loop-i.i (omega arith) (omega arith) c.loop-i.invariant

pub returns : goal.returns
returns c = c.loop-i.invariant ∙ xored_short _ _ c.loop-i.i (omega arith)
