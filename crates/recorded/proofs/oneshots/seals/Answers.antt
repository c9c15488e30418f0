-- `seals` meets its contract: the call answers 0, and both buffers hold what is recorded.
use Rattle.std.proofs.lemmas.Option.{IfSome_then}
use Rattle.recorded.proofs.Answers.{done, seal_says}
use Rattle.recorded.proofs.oneshots.seals.Goals as goal

pub returns : goal.returns
returns c =
    IfSome_then c.same-2.result c.same-2.ensures
    (λ _ tagged. seal_says _ _ _ _ _ _ c.aegis128l_seal.ensures (done _ c.in_ok-ok.ensures.value) c.if-buf-record.false c.if-made-record.false c.in_ok-same.ensures tagged)
