-- `is_well_formed` meets its contract: each test of the definition in its order.
use Rattle.std.proofs.Common.{rules}
use Rattle.promises.specs.Session.{well_formed}
use Rattle.session.proofs.Session.is_well_formed.Goals as goal

pub returns-then-self : goal.returns-then-self
unfolding well_formed
returns-then-self c = search rules
