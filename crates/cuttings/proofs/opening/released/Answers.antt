-- `released` meets its contract: an opening that is released has the tag that is due.
use Rattle.std.proofs.Common.{rules}
use Rattle.lent.proofs.Same.{same_equal}
use Rattle.promises.specs.SessionCalls.{open_finish, released}
use Rattle.cuttings.proofs.opening.released.Goals as goal

pub returns : goal.returns
unfolding open_finish released
returns c = search (rules, same_equal)
