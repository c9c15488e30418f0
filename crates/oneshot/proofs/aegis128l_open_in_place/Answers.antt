-- `aegis128l_open_in_place` meets its contract: a refusal changes nothing; else the buffer is opened where it is, and wiped if the tag differs.
use Rattle.std.proofs.Common.{sym, ◌∙◌}
use Rattle.answers.proofs.Answers.{one_shot_ok}
use Rattle.aegis128l.specs.Cipher.{aegis128l}
use Rattle.oneshot.proofs.OpenLeaves.{differs, open_refuses, opens_in_place, erases_in_place}
use Rattle.oneshot.proofs.aegis128l_open_in_place.Goals as goal

pub returns-in-Err : goal.returns-in-Err
returns-in-Err c = open_refuses aegis128l _ _ _ _ _ _ _ c.in-Err.ensures

pub opened-requires-clause-within_limit : goal.opened-requires-clause-within_limit
opened-requires-clause-within_limit c =
    let ok = one_shot_ok (sym c.in_default.ensures) in
    (ok.ad_fits, ok.msg_fits)

pub opened-requires-clause-tag_allowed : goal.opened-requires-clause-tag_allowed
opened-requires-clause-tag_allowed c = (one_shot_ok (sym c.in_default.ensures)).tag_size_ok

pub returns-in_default-opened : goal.returns-in_default-opened
returns-in_default-opened c =
    opens_in_place aegis128l _ _ _ _ _ (one_shot_ok (sym c.in_default.ensures)) c.opened.ensures.0 c.in_default-opened.ensures.1

pub returns : goal.returns
returns c =
    let seven = differs _ _ c.in-Err-opened.ensures.1 in
    let answered = c.in-Err-opened.ensures.1 ∙ sym seven in
    erases_in_place aegis128l _ _ _ _ _ (one_shot_ok (sym c.in_default.ensures)) c.opened.ensures.0 seven c.wipe.ensures (search answered)
