-- `stream_cancels` meets its contract: what xors to zeros is the keystream.
use Rattle.recorded.proofs.Answers.{done, said, cancel_says}
use Rattle.recorded.proofs.oneshots.stream_cancels.Goals as goal

pub returns : goal.returns
returns c =
    said _ c.then_some.ensures
    (λ yes. cancel_says _ _ _ c.in_ok-lay.ensures c.aegis128l_stream_xor.ensures (done _ c.in_ok-ok.ensures.value) (c.is_zero.ensures yes))
