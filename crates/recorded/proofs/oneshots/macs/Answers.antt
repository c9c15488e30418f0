-- `macs` meets its contract: the call answers 0, and the buffer holds the tag.
use Rattle.std.proofs.lemmas.Option.{IfSome_then}
use Rattle.recorded.proofs.Answers.{done, mac_says}
use Rattle.recorded.proofs.oneshots.macs.Goals as goal

pub returns : goal.returns
returns c =
    IfSome_then c.same.result c.same.ensures
    (λ _ held. mac_says _ _ _ _ c.aegis128l_mac.ensures (done _ c.in_ok-ok.ensures.value) c.if-made-record.false held)
