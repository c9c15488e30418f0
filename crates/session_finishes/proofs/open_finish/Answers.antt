-- `open_finish` meets its contract: the ladder refuses, or the tags are compared; the prefix is released, or erased.
use Rattle.std.proofs.Common.{ap, rules}
use Rattle.answers.specs.Refusals.{answer_of}
use Rattle.aegis128l.specs.Cipher.{aegis128l}
use Rattle.promises.specs.SessionCalls.{open_finish, released}
use Rattle.session_finishes.proofs.FinishCalls.{open_asks, open_erased}
use Rattle.session_finishes.proofs.open_finish.Goals as goal

pub returns-in-Err : goal.returns-in-Err
unfolding open_finish
returns-in-Err c = search rules

pub is_due-requires : goal.is_due-requires
is_due-requires c =
    open_asks aegis128l _ c.args.tag.now c.args.plain.now _ _ c.is_live-live.ensures c.open_finish.ensures (ap answer_of c.in_default.is)

pub returns-then-is_due : goal.returns-then-is_due
unfolding open_finish released
returns-then-is_due c = search rules

pub returns : goal.returns
returns c =
    rw c.over-2.ensures.outcome (open_erased aegis128l _ _ _ _ _ c.is_live-live.ensures c.open_finish.ensures (ap answer_of c.in_default.is)
    _ c.is_due.ensures _ c.over-2.ensures.session c.if-is_due.false _ c.erase.ensures)
