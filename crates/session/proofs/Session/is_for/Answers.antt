-- `is_for` meets its contract: the mark is compared with the kind's own.
use Rattle.std.proofs.Common.{rules}
use Rattle.session.proofs.Session.is_for.Goals as goal

pub returns : goal.returns
returns c = search rules
