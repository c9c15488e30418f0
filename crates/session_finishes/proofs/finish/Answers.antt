-- `finish` meets its contract: a session that the ladder lets through is well formed, and the tag has its size.
use Rattle.std.proofs.Common.{ap}
use Rattle.answers.specs.Refusals.{answer_of}
use Rattle.aegis128l.specs.Cipher.{aegis128l}
use Rattle.session.specs.View.{mark_of}
use Rattle.session_finishes.proofs.FinishCalls.{finish-asks}
use Rattle.session_finishes.proofs.finish.Goals as goal

pub put_due-requires : goal.put_due-requires
put_due-requires c =
    finish-asks aegis128l (mark_of c.args.kind) _ c.args.tag.now _ _ c.is_live.ensures c.finish.ensures (ap answer_of c.in_default.is)
