use Rattle.std.proofs.Common.{◌*◌}
use Rattle.aegis128l.specs.View.{state_of, mode_of}
use Rattle.aegis128l.specs.Aegis128L as draft
use Rattle.aegis128l_core.proofs.Loop.{Transformed}
use Rattle.aegis128l_core.proofs.Core.blocks.Given as goal

abbrev pub invariant-loop-k : goal.invariant-loop-k
invariant-loop-k l = Transformed draft.machine (mode_of l.mode) (state_of l.initial.s) l.initial.mc (state_of l.s) l.mc (32 * l.k)
