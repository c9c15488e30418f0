-- `streams` meets its contract: the call answers 0, and the buffer holds the keystream.
use Rattle.std.proofs.lemmas.Option.{IfSome_then}
use Rattle.recorded.proofs.Answers.{done, stream_says}
use Rattle.recorded.proofs.oneshots.streams.Goals as goal

pub returns : goal.returns
returns c =
    IfSome_then c.same.result c.same.ensures
    (λ _ held. stream_says _ _ _ c.aegis128l_stream.ensures (done _ c.in_ok-ok.ensures.value) c.if-buf-keystream.false held)
