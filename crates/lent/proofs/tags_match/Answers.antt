use Rattle.std.proofs.Common.{arith, sym, ◌∙◌}
use Rattle.lent.proofs.Same.{same_length, same_turn, same_end}
use Rattle.lent.proofs.tags_match.Goals as goal

pub returns-then-a-b : goal.returns-then-a-b
returns-then-a-b c = sym (same_length _ _ c.if-a-b.true)

pub loop-i-preserved : goal.loop-i-preserved
loop-i-preserved c = c.loop-i.invariant ∙ same_turn _ _ c.loop-i.i c.loop-i.d (omega arith) (omega arith)

pub returns : goal.returns
returns c = sym (c.loop-i.invariant ∙ same_end _ _ c.loop-i.i c.loop-i.d (omega arith) (omega arith))
