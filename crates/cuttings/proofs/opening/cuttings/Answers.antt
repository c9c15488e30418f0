-- `cuttings` meets its contract: the session starts, and every cutting is accepted.
use Rattle.std.proofs.lemmas.Option.{IfSome_then}
use Rattle.cuttings.proofs.FromStart.{accepted_from_start}
use Rattle.cuttings.proofs.opening.cuttings.Goals as goal

pub returns-clause-accepted : goal.returns-clause-accepted
returns-clause-accepted c =
    IfSome_then c.everywhere.result c.everywhere.ensures.shown (λ _ shown. accepted_from_start _ _ _ _ _ _ c.in_ok-s.ensures shown)
