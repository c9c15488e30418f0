use Rattle.std.proofs.Common.{take, ◌≡◌}
use Rattle.lent.specs.Lent.{xored}
use Rattle.lent.proofs.xor_into.Given as goal

abbrev pub invariant-loop-i : goal.invariant-loop-i
invariant-loop-i l = l.dst ≡ xored (take l.i l.ks) l.initial.dst
