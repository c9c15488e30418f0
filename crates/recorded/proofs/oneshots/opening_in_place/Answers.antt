-- `opening_in_place` meets its contract: the ciphertext lies in the buffer, and becomes what is recorded there.
use Rattle.recorded.proofs.Answers.{open_in_place_says, refuse_in_place_says}
use Rattle.recorded.proofs.oneshots.opening_in_place.Goals as goal

pub returns : goal.returns
returns c = (
  open_in_place_says _ _ _ _ _ c.in_ok-lay.ensures c.aegis128l_open_in_place-outcome.ensures c.in_ok-same.ensures,
  refuse_in_place_says _ _ _ _ _ c.in_ok-lay.ensures c.aegis128l_open_in_place-outcome.ensures c.in_ok-same.ensures,
)
