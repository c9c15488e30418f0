-- `seals_in_place` meets its contract: the message lies in the buffer, and becomes the ciphertext there.
use Rattle.std.proofs.lemmas.Option.{IfSome_then}
use Rattle.recorded.proofs.Answers.{done, seal_in_place_says}
use Rattle.recorded.proofs.oneshots.seals_in_place.Goals as goal

pub returns : goal.returns
returns c =
    IfSome_then c.same-2.result c.same-2.ensures
    (λ _ tagged. seal_in_place_says _ _ _ _ _ c.in_ok-lay.ensures c.aegis128l_seal_in_place.ensures (done _ c.in_ok-ok.ensures.value) c.if-made-record.false c.in_ok-same.ensures tagged)
