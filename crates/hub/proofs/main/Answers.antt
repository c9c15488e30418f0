-- `main` is safe and ends: the reply is a part of the buffer.
use Rattle.std.proofs.Common.{arith}
use Rattle.hub_record.proofs.ReplyText.{reply_part}
use Rattle.hub.proofs.main.Goals as goal

pub overflow_add-end : goal.overflow_add-end
overflow_add-end c =
    let r = c.reply-reply in
    omega (arith, reply_part _ _ r.result r.new.buf r.ensures)

pub slice_bounds-write_all-end : goal.slice_bounds-write_all-end
slice_bounds-write_all-end c =
    let r = c.reply-reply in
    omega (arith, reply_part _ _ r.result r.new.buf r.ensures)
