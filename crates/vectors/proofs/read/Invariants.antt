use Rattle.std.proofs.Common.{length, ◌-◌, ◌≤◌}
use Rattle.vectors.proofs.read.Given as goal

abbrev pub invariant-loop-n : goal.invariant-loop-n
invariant-loop-n _ l = l.n ≤ length l.room

abbrev pub decreases-loop-n : goal.decreases-loop-n
decreases-loop-n _ l = length l.room - l.n
