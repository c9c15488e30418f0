use Rattle.aegis128l.proofs.Rounds.{Rounds}
use Rattle.aegis128l.proofs.state.State.update.Given as goal

abbrev pub invariant-loop-i : goal.invariant-loop-i
invariant-loop-i l = Rounds l.s l.n l.i
