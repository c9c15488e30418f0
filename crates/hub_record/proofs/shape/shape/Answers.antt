-- `shape` meets its contract: each return is one way down the ladder.
use Rattle.hub_record.specs.Record.{shape}
use Rattle.hub_record.proofs.Rungs.{handed_on, climbing}
use Rattle.hub_record.proofs.shape.shape.Goals as goal

pub returns-in_err-refuse_unless : goal.returns-in_err-refuse_unless
unfolding shape
returns-in_err-refuse_unless c = rw (handed_on _ _ c.from_residual.ensures.1) (search climbing depth 12)

pub returns-in_err-refuse_unless-2 : goal.returns-in_err-refuse_unless-2
unfolding shape
returns-in_err-refuse_unless-2 c = rw (handed_on _ _ c.from_residual-in_err-refuse_unless-2.ensures.1) (search climbing depth 12)

pub returns-in_err-refuse_unless-3 : goal.returns-in_err-refuse_unless-3
unfolding shape
returns-in_err-refuse_unless-3 c = rw (handed_on _ _ c.from_residual-in_err-refuse_unless-3.ensures.1) (search climbing depth 12)

pub returns-in_err-refuse_unless-4 : goal.returns-in_err-refuse_unless-4
unfolding shape
returns-in_err-refuse_unless-4 c = rw (handed_on _ _ c.from_residual-in_err-refuse_unless-4.ensures.1) (search climbing depth 12)

pub returns-in_err-refuse_unless-5 : goal.returns-in_err-refuse_unless-5
unfolding shape
returns-in_err-refuse_unless-5 c = rw (handed_on _ _ c.from_residual-in_err-refuse_unless-5.ensures.1) (search climbing depth 12)

pub returns : goal.returns
unfolding shape
returns c = search climbing depth 12
