-- `Core::transform` meets its contract: the rest of a block that has been begun, and then whole blocks.
use Rattle.std.proofs.Common.{arith, length, rules, ◌-◌, ◌≡◌}
use Rattle.aegis128l.specs.View.{mode_of}
use Rattle.aegis128l.specs.Aegis128L as draft
use Rattle.aegis128l_core.specs.View.{core_of}
use Rattle.aegis128l_core.proofs.Pieces.{nothing, from_edge, transformed_both}
use Rattle.aegis128l_core.proofs.Core.transform.Goals as goal

pub returns-then-mc-eq0 : goal.returns-then-mc-eq0
returns-then-mc-eq0 c =
    let A = c.args in
    nothing draft.machine (mode_of A.mode) (core_of A.self) A.mc.now c.if-mc-eq0.true

pub returns-then-self-eq0 : goal.returns-then-self-eq0
returns-then-self-eq0 c =
    let A = c.args in
    from_edge draft.machine (mode_of A.mode) (core_of A.self) A.mc.now c.if-self-eq0.true (omega arith)
    c.blocks-then-self-eq0.ensures.0 c.blocks-then-self-eq0.ensures.1

pub returns : goal.returns
returns c =
    let full : length c.args.self.buf ≡ 32 = search rules in
    let A = c.args in
    let l = A.mc.now in
    let n = 32 - A.self.fill in
    transformed_both draft.machine (mode_of A.mode) (core_of A.self) l n full (omega arith) (omega arith) (omega arith)
    c.within-c.ensures.0 c.within-c.ensures.1
    c.blocks-2.ensures.0 c.blocks-2.ensures.1
