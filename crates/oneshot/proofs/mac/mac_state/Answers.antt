-- `mac_state` meets its contract: the data is absorbed, or a block of zeros where there is none.
use Rattle.aegis128l.specs.Cipher.{aegis128l, mac_of_aegis128l}
use Rattle.oneshot.proofs.Texts.{macs, macs-none}
use Rattle.oneshot.proofs.mac.mac_state.Goals as goal

pub returns-then-data-eq0 : goal.returns-then-data-eq0
returns-then-data-eq0 c =
    macs-none aegis128l mac_of_aegis128l _ _ c.if-data-eq0.true c.new-s.ensures c.absorb.ensures

pub returns : goal.returns
returns c = macs aegis128l mac_of_aegis128l _ _ c.if-data-eq0.false c.new-s.ensures c.absorb_ad.ensures
