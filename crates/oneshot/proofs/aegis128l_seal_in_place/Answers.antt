-- `aegis128l_seal_in_place` meets its contract: a refusal changes nothing; else the buffer is sealed where it is.
use Rattle.std.proofs.Common.{sym}
use Rattle.answers.proofs.Answers.{one_shot_ok}
use Rattle.aegis128l.specs.Cipher.{aegis128l}
use Rattle.oneshot.proofs.SealLeaves.{seal_refuses, seals_in_place}
use Rattle.oneshot.proofs.aegis128l_seal_in_place.Goals as goal

pub returns-in-Err : goal.returns-in-Err
returns-in-Err c = seal_refuses aegis128l _ _ _ _ _ _ _ c.in-Err.ensures

pub sealed-requires-clause-within_limit : goal.sealed-requires-clause-within_limit
sealed-requires-clause-within_limit c =
    let ok = one_shot_ok (sym c.in_default.ensures) in
    (ok.ad_fits, ok.msg_fits)

pub sealed-requires-clause-tag_allowed : goal.sealed-requires-clause-tag_allowed
sealed-requires-clause-tag_allowed c = (one_shot_ok (sym c.in_default.ensures)).tag_size_ok

pub returns : goal.returns
returns c =
    seals_in_place aegis128l _ _ _ _ _ (one_shot_ok (sym c.in_default.ensures)) c.sealed.ensures.0 c.sealed.ensures.1
