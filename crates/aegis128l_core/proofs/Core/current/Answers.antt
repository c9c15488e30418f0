-- `Core::current` meets its contract: new keystream at fill 0, and else the buffer.
use Rattle.std.proofs.Common.{arith, sym, ◌∙◌}
use Rattle.machine.proofs.Cases.{current-fresh, current-begun}
use Rattle.aegis128l.specs.Aegis128L as draft
use Rattle.aegis128l_core.specs.View.{core_of}
use Rattle.aegis128l_core.proofs.Core.current.Goals as goal

pub returns-then-self-eq0 : goal.returns-then-self-eq0
returns-then-self-eq0 c = c.keystream.ensures ∙ sym (current-fresh draft.machine (core_of c.args.self) c.if-self-eq0.true)

pub returns-else-self-eq0 : goal.returns-else-self-eq0
returns-else-self-eq0 c = sym (current-begun draft.machine (core_of c.args.self) (omega arith))
