-- `Core::within` meets its contract: the current block is filled, and settled.
use Rattle.std.proofs.Common.{length, rules, ◌≡◌}
use Rattle.aegis128l.specs.View.{mode_of}
use Rattle.aegis128l.specs.Aegis128L as draft
use Rattle.aegis128l_core.specs.View.{core_of}
use Rattle.aegis128l_core.proofs.Within.{falls_within}
use Rattle.aegis128l_core.proofs.Core.within.Goals as goal

pub returns : goal.returns
returns c =
    let full : length c.args.self.buf ≡ 32 = search rules in
    let A = c.args in
    let p = c.requires in
    falls_within draft.machine (mode_of A.mode) (core_of A.self) A.part.now full p.0 p.1 c.current-k.ensures
    c.filled-b.ensures.1 c.filled-b.ensures.0 c.settled.ensures
