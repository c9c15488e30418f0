-- `opening` meets its contract: the call gives the answer, and the buffer holds what is recorded.
use Rattle.recorded.proofs.Answers.{open_says, refuse_says}
use Rattle.recorded.proofs.oneshots.opening.Goals as goal

pub returns : goal.returns
returns c = (
  open_says _ _ _ _ _ _ c.aegis128l_open-outcome.ensures c.if-buf-record.false c.in_ok-same.ensures,
  refuse_says _ _ _ _ _ _ c.aegis128l_open-outcome.ensures c.if-buf-record.false c.in_ok-same.ensures,
)
