-- `open_piece` meets its contract: the ladder refuses, or the ciphertext goes through the machine into the next part of the buffer.
use Rattle.std.proofs.Common.{arith, sym, ◌∙◌}
use Rattle.machine.specs.Machine.{dec}
use Rattle.answers.proofs.Answers.{open_piece_ok}
use Rattle.answers.proofs.Counter.{told_done, told_total}
use Rattle.promises.specs.SessionCalls.{open_piece}
use Rattle.aegis128l.specs.Aegis128L.{machine}
use Rattle.aegis128l.specs.Cipher.{aegis128l}
use Rattle.session.specs.View.{session_of}
use Rattle.session.proofs.LiveFacts.{live_fill}
use Rattle.session_pieces.proofs.PieceCalls.{not_counted, is_counted, advances, wrote, laid, put_back}
use Rattle.session_pieces.proofs.open_piece.Goals as goal

pub overflow_add-end : goal.overflow_add-end
overflow_add-end c =
    let o = open_piece_ok (told_done _ _ _ c.in-Ok.ensures) in
    omega (arith, c.well_formed.1.1.0, o.in_room, o.same_buffer)

pub slice_bounds-transformed_into-end : goal.slice_bounds-transformed_into-end
slice_bounds-transformed_into-end c =
    let o = open_piece_ok (told_done _ _ _ c.in-Ok.ensures) in omega (arith, o.in_room, o.same_buffer)

pub transformed_into-fed-requires : goal.transformed_into-fed-requires
transformed_into-fed-requires c =
    live_fill aegis128l _ 1 (sym c.is_live-live.ensures ∙ (open_piece_ok (told_done _ _ _ c.in-Ok.ensures)).is_live)

pub returns-in-Ok : goal.returns-in-Ok
unfolding open_piece
returns-in-Ok c =
    let g = c.args in
    let s = session_of g.s in
    let o = open_piece_ok (told_done _ _ _ c.in-Ok.ensures) in
    let t = rw (laid s.written g.ct.now g.plain.now (omega (arith, o.in_room, o.same_buffer))) at c.transformed_into-fed.ensures in
    let q = advances machine dec _ _ _ _ _ _ c.with_length.ensures t.0 (told_total _ _ _ c.in-Ok.ensures) in
    let w = wrote s _ _ _ q in
    let p = put_back s.written g.ct.now g.plain.now machine dec _ _ t.1 in
    rw (← c.is_live-live.ensures) (is_counted _ _ _ _ _ c.in-Ok.ensures (λ k. record { answer = 0; session = w k; out = p k }))

pub returns-in-Err : goal.returns-in-Err
unfolding open_piece
returns-in-Err c = rw c.refused.ensures.outcome (rw c.refused.ensures.session (rw (← c.is_live-live.ensures) (not_counted _ _ _ _ _ _ c.in-Err.ensures)))
