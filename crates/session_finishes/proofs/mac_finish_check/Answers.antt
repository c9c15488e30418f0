-- `mac_finish_check` meets its contract: a session that the ladder lets through is well formed, and the tag has its size.
use Rattle.std.proofs.Common.{ap}
use Rattle.answers.specs.Refusals.{answer_of}
use Rattle.aegis128l.specs.Cipher.{aegis128l}
use Rattle.promises.specs.Session.{macing}
use Rattle.session_finishes.proofs.FinishCalls.{finish-asks}
use Rattle.session_finishes.proofs.mac_finish_check.Goals as goal

pub is_due-requires : goal.is_due-requires
is_due-requires c =
    finish-asks aegis128l macing _ c.args.tag.now _ _ c.is_live.ensures c.finish.ensures (ap answer_of c.in_default.is)
