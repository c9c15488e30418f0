-- `live` meets its contract: each test of the definition in its order.
use Rattle.std.proofs.Common.{rules}
use Rattle.promises.specs.Session.{live}
use Rattle.session.proofs.Session.live.Goals as goal

pub returns-then-marked : goal.returns-then-marked
unfolding live
returns-then-marked c = search rules

pub returns-else-marked : goal.returns-else-marked
unfolding live
returns-else-marked c = search rules
