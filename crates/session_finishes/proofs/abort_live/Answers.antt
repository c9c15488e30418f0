-- `abort_live` meets its contract: each test of the definition in its order.
use Rattle.std.proofs.Common.{rules}
use Rattle.promises.specs.Session.{abort_live}
use Rattle.session_finishes.proofs.abort_live.Goals as goal

pub returns-then-marked : goal.returns-then-marked
unfolding abort_live
returns-then-marked c = search rules

pub returns-else-marked : goal.returns-else-marked
unfolding abort_live
returns-else-marked c = search rules
