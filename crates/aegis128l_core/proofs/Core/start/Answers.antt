-- `Core::start` meets its contract: zeros, and nothing filled.
use Rattle.std.proofs.Common.{refl}
use Rattle.machine.specs.Machine.{start}
use Rattle.aegis128l_core.proofs.Core.start.Goals as goal

pub returns : goal.returns
unfolding start
returns c = refl
