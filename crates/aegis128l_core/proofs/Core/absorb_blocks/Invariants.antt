use Rattle.std.proofs.Common.{◌*◌}
use Rattle.aegis128l.specs.View.{state_of}
use Rattle.aegis128l.specs.Aegis128L as draft
use Rattle.aegis128l_core.proofs.Absorbing.{Absorbed}
use Rattle.aegis128l_core.proofs.Core.absorb_blocks.Given as goal

abbrev pub invariant-loop-k : goal.invariant-loop-k
invariant-loop-k l = Absorbed draft.machine l.input (state_of l.initial.s) (state_of l.s) (32 * l.k)
