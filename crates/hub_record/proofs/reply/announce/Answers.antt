-- `announce` meets its contract: the line goes right before the plaintext.
use Rattle.std.proofs.Common.{arith, length, ap, ◌-◌, ◌∙◌}
use Rattle.hub_record.proofs.Placing.{placed-before}
use Rattle.hub_record.proofs.reply.announce.Goals as goal

pub returns : goal.returns
returns c =
    let t = c.line-text.ensures in
    let p = c.args.plaintext in
    placed-before _ c.args.buf.now (p.start - c.len.result) p.start p.count c.len-2.result
    (c.len-2.ensures.value ∙ ap length t) (omega arith) c.requires.1
    (c.copy_from_slice.ensures.after ∙ c.as_bytes.ensures.value ∙ c.deref.ensures.0 ∙ t)
