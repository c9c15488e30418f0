-- `mac_piece` meets its contract: the ladder refuses, or the machine at work in the session reads the data.
use Rattle.std.proofs.Common.{sym, ap, ◌∙◌}
use Rattle.machine.specs.Machine.{enc}
use Rattle.machine.specs.Kinds.{silent}
use Rattle.answers.proofs.Answers.{piece_ok}
use Rattle.answers.proofs.Counter.{told_done, told_total}
use Rattle.promises.specs.SessionCalls.{mac_piece}
use Rattle.aegis128l.specs.Aegis128L.{machine}
use Rattle.aegis128l.specs.Cipher.{aegis128l}
use Rattle.session.specs.View.{session_of, with_core}
use Rattle.session.proofs.LiveFacts.{live_fill, core_fill}
use Rattle.session_pieces.proofs.PieceCalls.{not_counted, is_counted, advances}
use Rattle.session_pieces.proofs.mac_piece.Goals as goal

pub absorb-requires : goal.absorb-requires
absorb-requires c =
    let alive = sym c.is_live-live.ensures ∙ (piece_ok (told_done _ _ _ c.in-Ok.ensures)).is_live in
    core_fill aegis128l (session_of c.args.s) _ c.core.ensures (live_fill aegis128l _ 2 alive)

pub returns-in-Ok : goal.returns-in-Ok
unfolding mac_piece
returns-in-Ok c =
    let s = session_of c.args.s in
    let k = rw c.core.ensures at c.absorb.ensures in
    let fed = c.with_core-fed.ensures ∙ ap (with_core s) k in
    let q = advances (silent machine) enc _ _ _ _ _ _ c.with_length.ensures fed (told_total _ _ _ c.in-Ok.ensures) in
    rw (← c.is_live-live.ensures) (is_counted _ _ _ _ _ c.in-Ok.ensures (λ i. record { answer = 0; session = q i }))

pub returns-in-Err : goal.returns-in-Err
unfolding mac_piece
returns-in-Err c = rw c.refused.ensures.outcome (rw c.refused.ensures.session (rw (← c.is_live-live.ensures) (not_counted _ _ _ _ _ _ c.in-Err.ensures)))
