-- `transformed` meets its contract: the machine starts from key, nonce and associated data, and goes over the text in place.
use Rattle.aegis128l.specs.Aegis128L.{machine}
use Rattle.aegis128l.specs.Cipher.{aegis128l}
use Rattle.oneshot.proofs.Texts.{begun, ends, gives}
use Rattle.oneshot.proofs.Expected.{fresh_fill, fed_fill}
use Rattle.oneshot.proofs.transformed.Goals as goal

pub transform-requires : goal.transform-requires
transform-requires c = fresh_fill machine _ _ c.start.ensures

pub close-requires : goal.close-requires
close-requires c = fed_fill machine _ _ _ _ _ c.start.ensures c.transform.ensures.0

pub returns : goal.returns
returns c =
    let fresh = begun aegis128l _ _ _ c.new.ensures c.absorb_ad-s.ensures c.start.ensures in (
      ends aegis128l _ _ _ _ _ fresh c.transform.ensures.0 c.close.ensures,
      gives aegis128l _ _ _ _ _ fresh c.transform.ensures.1,
    )
