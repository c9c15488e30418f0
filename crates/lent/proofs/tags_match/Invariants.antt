use Rattle.std.proofs.Common.{drop, eqb, ◌&&◌, ◌≡◌}
use Rattle.lent.specs.Lent.{same}
use Rattle.lent.proofs.tags_match.Given as goal

abbrev pub invariant-loop-i : goal.invariant-loop-i
invariant-loop-i l = same l.a l.b ≡ (eqb l.d 0 && same (drop l.i l.a) (drop l.i l.b))
