use Rattle.std.proofs.Common.{take, ◌≡◌}
use Rattle.lent.specs.Lent.{over}
use Rattle.lent.proofs.put.Given as goal

abbrev pub invariant-loop-i : goal.invariant-loop-i
invariant-loop-i l = l.dst ≡ over (take l.i l.src) l.initial.dst
