-- `aegis128l_seal` meets its contract: a refusal changes nothing; else the message is laid over the output and sealed there.
use Rattle.std.proofs.Common.{ap, arith, length, sym}
use Rattle.answers.proofs.Answers.{one_shot_ok}
use Rattle.aegis128l.specs.Cipher.{aegis128l}
use Rattle.oneshot.proofs.SealLeaves.{seal_refuses, seals-over}
use Rattle.oneshot.proofs.Laid.{part_fits, text_there}
use Rattle.oneshot.proofs.aegis128l_seal.Goals as goal

pub returns-in-Err : goal.returns-in-Err
returns-in-Err c = seal_refuses aegis128l _ _ _ _ _ _ _ c.in-Err.ensures

pub slice_bounds-sealed-end : goal.slice_bounds-sealed-end
slice_bounds-sealed-end c =
    let ok = one_shot_ok (sym c.in_default.ensures) in
    omega (arith, c.put.auto.dst, ok.in_room)

pub slice_bounds-sealed-end-2 : goal.slice_bounds-sealed-end-2
slice_bounds-sealed-end-2 c =
    let ok = one_shot_ok (sym c.in_default.ensures) in
    let there = sym (ap length (text_there _ _ ok.in_room c.put.ensures)) in
    search there

pub sealed-requires-clause-within_limit : goal.sealed-requires-clause-within_limit
sealed-requires-clause-within_limit c =
    let ok = one_shot_ok (sym c.in_default.ensures) in
    let there = part_fits _ _ ok.in_room c.put.ensures ok.msg_fits in
    (ok.ad_fits, omega (arith, there))

pub sealed-requires-clause-tag_allowed : goal.sealed-requires-clause-tag_allowed
sealed-requires-clause-tag_allowed c = (one_shot_ok (sym c.in_default.ensures)).tag_size_ok

pub returns : goal.returns
returns c =
    seals-over aegis128l _ _ _ _ _ _ (one_shot_ok (sym c.in_default.ensures)) c.put.ensures c.sealed.ensures.0 c.sealed.ensures.1
