-- `refuse` meets its contract: the line goes to the start of the buffer, if it has room.
use Rattle.std.proofs.Common.{arith, length, ap, ◌∙◌}
use Rattle.hub_record.specs.Reply.{refused_word, line}
use Rattle.hub_record.proofs.Placing.{placed-none, placed-front}
use Rattle.hub_record.proofs.reply.refuse.Goals as goal

pub returns-then-buf-count : goal.returns-then-buf-count
returns-then-buf-count c =
    let t = c.line-text.ensures ∙ ap (line refused_word) c.number.ensures in
    placed-none _ _ 0 (omega (arith, c.if-buf-count.true, c.len-count.ensures.value ∙ ap length t))

pub returns : goal.returns
returns c =
    let t = c.line-text.ensures ∙ ap (line refused_word) c.number.ensures in
    placed-front _ c.args.buf.now c.len-count.result
    (c.len-count.ensures.value ∙ ap length t) (omega arith)
    (c.copy_from_slice.ensures.after ∙ c.as_bytes.ensures.value ∙ c.deref.ensures.0 ∙ t)
