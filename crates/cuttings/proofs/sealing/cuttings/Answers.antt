-- `cuttings` meets its contract: the session starts, and every cutting seals the message.
use Rattle.std.proofs.lemmas.Option.{IfSome_then}
use Rattle.cuttings.proofs.FromStart.{sealed_from_start}
use Rattle.cuttings.proofs.sealing.cuttings.Goals as goal

pub returns-clause-sealed : goal.returns-clause-sealed
returns-clause-sealed c =
    IfSome_then c.everywhere.result c.everywhere.ensures.shown (λ _ shown. sealed_from_start _ _ _ _ _ _ c.in_ok-s.ensures c.if-record-n.false shown)
