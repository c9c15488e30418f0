use Rattle.std.proofs.Common.{◌≡◌}
use Rattle.lent.specs.Lent.{wiped}
use Rattle.lent.proofs.wipe.Given as goal

abbrev pub invariant-loop-i : goal.invariant-loop-i
invariant-loop-i l = l.buf ≡ wiped l.i l.v l.initial.buf
