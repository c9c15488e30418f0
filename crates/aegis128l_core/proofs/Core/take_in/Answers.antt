-- `Core::take_in` meets its contract: the bytes are laid into the current block, which is settled.
use Rattle.std.proofs.Common.{arith, length, rules, ◌+◌, ◌-◌, ◌≡◌}
use Rattle.aegis128l.specs.Aegis128L as draft
use Rattle.aegis128l_core.specs.View.{core_of}
use Rattle.aegis128l_core.proofs.Within.{taken_in}
use Rattle.aegis128l_core.proofs.Core.take_in.Goals as goal

pub returns : goal.returns
returns c =
    let full : length c.args.self.buf ≡ 32 = search rules in
    let A = c.args in
    let xs = A.part.now in
    let p = c.requires in
    taken_in draft.machine (core_of A.self) xs full p.0 p.1 ((A.self.fill + length xs) - A.self.fill) _
    c.current_silent-b.ensures (omega arith) c.put.ensures c.settled.ensures
