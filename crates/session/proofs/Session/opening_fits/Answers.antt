-- `opening_fits` meets its contract: each test of the definition in its order.
use Rattle.std.proofs.Common.{rules}
use Rattle.promises.specs.Session.{opening_fits}
use Rattle.session.proofs.Session.opening_fits.Goals as goal

pub returns-then-self : goal.returns-then-self
unfolding opening_fits
returns-then-self c = search rules
