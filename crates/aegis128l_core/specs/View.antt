-- The struct of the code as the definitions have it: the machine at work.
-- Assumes nothing.
use Rattle.machine.specs.Machine.{Core}
use Rattle.aegis128l.specs.Aegis128L.{Blocks}
use Rattle.aegis128l.specs.View.{state_of}
use Rattle.aegis128l_core.specs.declared.Core as code

abbrev pub core_of : code.Core → Core Blocks
core_of c = record { state = state_of c.state; buf = c.buf; fill = c.fill }
