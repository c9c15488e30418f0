-- `Core::absorb` meets its contract: the rest of a block that has been begun, and then whole blocks.
use Rattle.std.proofs.Common.{arith, length, rules, sym, ◌-◌, ◌∙◌, ◌≡◌}
use Rattle.machine.specs.Machine.{enc}
use Rattle.machine.specs.Kinds.{silent}
use Rattle.machine.proofs.Fresh.{after-fresh}
use Rattle.aegis128l.specs.Aegis128L as draft
use Rattle.aegis128l_core.specs.View.{core_of}
use Rattle.aegis128l_core.proofs.Pieces.{nothing, absorbed_both}
use Rattle.aegis128l_core.proofs.Core.absorb.Goals as goal

pub returns-then-input-eq0 : goal.returns-then-input-eq0
returns-then-input-eq0 c =
    let A = c.args in
    (nothing (silent draft.machine) enc (core_of A.self) A.input.now c.if-input-eq0.true).0

pub returns-then-self-eq0 : goal.returns-then-self-eq0
returns-then-self-eq0 c =
    let A = c.args in
    c.absorb_blocks.ensures ∙ sym (after-fresh (silent draft.machine) enc (core_of A.self) c.if-self-eq0.true A.input.now (omega arith))

pub returns : goal.returns
returns c =
    let full : length c.args.self.buf ≡ 32 = search rules in
    let A = c.args in
    let l = A.input.now in
    let n = 32 - A.self.fill in
    absorbed_both (silent draft.machine) enc (core_of A.self) l n full (omega arith) (omega arith) (omega arith)
    c.take_in-c.ensures c.absorb_blocks-2.ensures
