-- `reply` meets its contract: the record is opened where it stands, and the line is written.
use Rattle.std.proofs.Common.{arith, refl, Ok, Err}
use Rattle.answers.proofs.Refusals.{number_zero}
use Rattle.hub_record.specs.View.{record_left}
use Rattle.hub_record.proofs.Replying.{replied_refused, replied-opened, opened-place}
use Rattle.hub_record.proofs.reply.reply.Goals as goal

pub announce-requires : goal.announce-requires
announce-requires c =
    let r = record_left (Ok c.in-Ok.plaintext) c.open_record.new.input in
    let p = opened-place c.args.buf.now c.args.n c.min-n.result r c.min-n.ensures c.in-Ok.ensures refl in
    (omega (arith, p.0), p.1)

pub returns-in-Ok : goal.returns-in-Ok
returns-in-Ok c =
    let r = record_left (Ok c.in-Ok.plaintext) c.open_record.new.input in
    replied-opened c.args.buf.now c.args.n c.min-n.result r c.min-n.ensures c.in-Ok.ensures refl c.announce.ensures

pub returns-in-Err : goal.returns-in-Err
returns-in-Err c =
    let r = record_left (Err c.in-Err.refusal) c.open_record.new.input in
    replied_refused c.args.buf.now c.args.n c.min-n.result r c.min-n.ensures c.in-Err.ensures (number_zero c.in-Err.refusal) c.refuse.ensures
