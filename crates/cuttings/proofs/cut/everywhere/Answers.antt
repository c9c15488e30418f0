-- `everywhere` meets its contract: the pairs of places are counted.
use Rattle.std.proofs.Common.{rules}
use Rattle.cuttings.proofs.cut.everywhere.Goals as goal

pub returns-clause-counted : goal.returns-clause-counted
returns-clause-counted g c = search rules
