-- `Core::close` meets its contract: only the filled part is absorbed, over zeros.
use Rattle.std.proofs.Common.{arith, length, rules, sym, ◌≡◌}
use Rattle.machine.proofs.Cases.{close-fresh}
use Rattle.aegis128l.specs.Aegis128L as draft
use Rattle.aegis128l_core.specs.View.{core_of}
use Rattle.aegis128l_core.proofs.Within.{closed}
use Rattle.aegis128l_core.proofs.Core.close.Goals as goal

pub returns-then-self-eq0 : goal.returns-then-self-eq0
returns-then-self-eq0 c = sym (close-fresh draft.machine (core_of c.args.self) c.if-self-eq0.true)

pub returns : goal.returns
returns c =
    let A = c.args in
    let l : length A.self.buf ≡ 32 = search rules in
    closed draft.machine (core_of A.self) _ (omega arith) (omega arith) (omega arith)
    c.put.ensures c.absorb.ensures
