-- `cuttings` meets its contract: the session starts, and every cutting gives the tag.
use Rattle.std.proofs.lemmas.Option.{IfSome_then}
use Rattle.cuttings.proofs.FromStart.{maced_from_start}
use Rattle.cuttings.proofs.macing.cuttings.Goals as goal

pub returns-clause-maced : goal.returns-clause-maced
returns-clause-maced c =
    IfSome_then c.everywhere.result c.everywhere.ensures.shown (λ _ shown. maced_from_start _ _ _ _ c.in_ok-s.ensures shown)
