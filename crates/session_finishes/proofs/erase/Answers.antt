-- `erase` meets its contract: an opener's written bytes are wiped.
use Rattle.std.proofs.Common.{rules}
use Rattle.session_finishes.proofs.erase.Goals as goal

pub returns-then-is_for : goal.returns-then-is_for
returns-then-is_for c = search rules
