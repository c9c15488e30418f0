-- `abort` meets its contract: where the ladder lets it through, what was written is erased and the session ended.
use Rattle.std.proofs.Common.{ap}
use Rattle.answers.specs.Refusals.{answer_of}
use Rattle.aegis128l.specs.Cipher.{aegis128l}
use Rattle.session_finishes.proofs.FinishCalls.{abort_done}
use Rattle.session_finishes.proofs.abort.Goals as goal

pub returns : goal.returns
returns c =
    rw c.over.ensures.outcome (abort_done aegis128l _ _ _ _ _ c.abort_live.ensures c.same_buffer_lent.ensures
    c.abort.ensures (ap answer_of c.in_default.is)
    _ _ (λ k. record { answer = 0; session = c.over.ensures.session k }) c.erase.ensures)
