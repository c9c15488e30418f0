-- `aegis128l_mac_check` meets its contract: a refusal, or the verdict on the tag.
use Rattle.std.proofs.Common.{arith, length, refl, sym}
use Rattle.answers.proofs.Answers.{mac_ok}
use Rattle.aegis128l.specs.Cipher.{aegis128l, mac_of_aegis128l}
use Rattle.oneshot.proofs.Texts.{macs-tag}
use Rattle.oneshot.proofs.OtherLeaves.{check_refuses, checks}
use Rattle.oneshot.proofs.Expected.{size_limit}
use Rattle.oneshot.proofs.mac.aegis128l_mac_check.Goals as goal

pub returns-in-Err : goal.returns-in-Err
returns-in-Err c = check_refuses aegis128l mac_of_aegis128l _ _ _ _ _ c.in-Err.ensures

pub mac_lengths-requires : goal.mac_lengths-requires
mac_lengths-requires c =
    let ok = mac_ok (sym c.in_default.ensures) in
    let of_tag = size_limit (length c.args.tag.now) ok.tag_size_ok in
    (omega (arith, ok.msg_fits, of_tag), omega (arith, ok.msg_fits, of_tag))

pub verified-requires : goal.verified-requires
verified-requires c = (mac_ok (sym c.in_default.ensures)).tag_size_ok

pub returns : goal.returns
returns c =
    checks aegis128l mac_of_aegis128l _ _ _ _ (mac_ok (sym c.in_default.ensures))
    (macs-tag aegis128l mac_of_aegis128l _ _ _ _ c.mac_state-end.ensures c.mac_lengths.ensures.0 c.mac_lengths.ensures.1 refl) c.verified.ensures
