-- `seal_piece` meets its contract: the ladder refuses, or the message goes through the machine into the output buffer.
use Rattle.std.proofs.Common.{sym, ◌∙◌}
use Rattle.machine.specs.Machine.{enc}
use Rattle.answers.proofs.Answers.{seal_piece_ok}
use Rattle.answers.proofs.Counter.{told_done, told_total}
use Rattle.lent.proofs.Over.{over-same}
use Rattle.promises.specs.SessionCalls.{seal_piece}
use Rattle.aegis128l.specs.Aegis128L.{machine}
use Rattle.aegis128l.specs.Cipher.{aegis128l}
use Rattle.session.proofs.LiveFacts.{live_fill}
use Rattle.session_pieces.proofs.PieceCalls.{not_counted, is_counted, advances}
use Rattle.session_pieces.proofs.seal_piece.Goals as goal

pub transformed_into-requires : goal.transformed_into-requires
transformed_into-requires c =
    live_fill aegis128l _ 0 (sym c.is_live-live.ensures ∙ (seal_piece_ok (told_done _ _ _ c.in-Ok.ensures)).is_live)

pub returns-in-Ok : goal.returns-in-Ok
unfolding seal_piece
returns-in-Ok c =
    let o = over-same _ _ (seal_piece_ok (told_done _ _ _ c.in-Ok.ensures)).same_length in
    let t = rw o at c.transformed_into.ensures in
    let q = advances machine enc _ _ _ _ _ _ c.with_length.ensures t.0 (told_total _ _ _ c.in-Ok.ensures) in
    rw (← c.is_live-live.ensures) (is_counted _ _ _ _ _ c.in-Ok.ensures (λ k. record { answer = 0; session = q k; out = t.1 k }))

pub returns-in-Err : goal.returns-in-Err
unfolding seal_piece
returns-in-Err c = rw c.refused.ensures.outcome (rw c.refused.ensures.session (rw (← c.is_live-live.ensures) (not_counted _ _ _ _ _ _ c.in-Err.ensures)))
