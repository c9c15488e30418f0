-- `Core::settled` meets its contract: a full buffer is absorbed, and any other stays.
use Rattle.std.proofs.Common.{ap, sym, ◌∙◌}
use Rattle.machine.specs.Machine.{start}
use Rattle.machine.proofs.Cases.{settled_full}
use Rattle.aegis128l.specs.Aegis128L as draft
use Rattle.aegis128l_core.proofs.Within.{settled-other}
use Rattle.aegis128l_core.proofs.Core.settled.Goals as goal

pub returns-then-fill-eq32 : goal.returns-then-fill-eq32
returns-then-fill-eq32 c =
    c.start.ensures ∙ ap (start draft.machine) c.absorb.ensures
    ∙ sym (settled_full draft.machine _ _ _ c.if-fill-eq32.true)

pub returns-else-fill-eq32 : goal.returns-else-fill-eq32
returns-else-fill-eq32 c = sym (settled-other draft.machine _ _ _ c.if-fill-eq32.false)
