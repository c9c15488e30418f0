-- `aegis128l_open` meets its contract: a refusal changes nothing; else the ciphertext is laid over the output and opened there, and wiped if the tag differs.
use Rattle.std.proofs.Common.{ap, arith, length, sym, ◌∙◌}
use Rattle.answers.proofs.Answers.{one_shot_ok}
use Rattle.aegis128l.specs.Cipher.{aegis128l}
use Rattle.oneshot.proofs.OpenLeaves.{differs, open_refuses, opens-over, erases_over}
use Rattle.oneshot.proofs.Laid.{part_fits, text_there}
use Rattle.oneshot.proofs.aegis128l_open.Goals as goal

pub returns-in-Err : goal.returns-in-Err
returns-in-Err c = open_refuses aegis128l _ _ _ _ _ _ _ c.in-Err.ensures

pub slice_bounds-opened-end : goal.slice_bounds-opened-end
slice_bounds-opened-end c =
    let ok = one_shot_ok (sym c.in_default.ensures) in
    omega (arith, c.put.auto.dst, ok.in_room)

pub slice_bounds-opened-end-2 : goal.slice_bounds-opened-end-2
slice_bounds-opened-end-2 c =
    let ok = one_shot_ok (sym c.in_default.ensures) in
    sym (ap length (text_there _ _ ok.in_room c.put.ensures))

pub opened-requires-clause-within_limit : goal.opened-requires-clause-within_limit
opened-requires-clause-within_limit c =
    let ok = one_shot_ok (sym c.in_default.ensures) in
    (ok.ad_fits, part_fits _ _ ok.in_room c.put.ensures ok.msg_fits)

pub opened-requires-clause-tag_allowed : goal.opened-requires-clause-tag_allowed
opened-requires-clause-tag_allowed c = (one_shot_ok (sym c.in_default.ensures)).tag_size_ok

pub returns-in_default-opened : goal.returns-in_default-opened
returns-in_default-opened c =
    opens-over aegis128l _ _ _ _ _ _ (one_shot_ok (sym c.in_default.ensures)) c.put.ensures c.opened.ensures.0 c.in_default-opened.ensures.1

pub returns : goal.returns
returns c =
    let seven = differs _ _ c.in-Err-opened.ensures.1 in
    let answered = c.in-Err-opened.ensures.1 ∙ sym seven in
    erases_over aegis128l _ _ _ _ _ _ (one_shot_ok (sym c.in_default.ensures)) c.put.ensures c.opened.ensures.0 seven c.wipe.ensures (search answered)
