-- `sealed` meets its contract: the machine over the message in place, and the tag at the end.
use Rattle.aegis128l.specs.Cipher.{aegis128l}
use Rattle.oneshot.proofs.Texts.{seals, seals-tag}
use Rattle.oneshot.proofs.sealed.Goals as goal

pub returns : goal.returns
returns c = (
  seals aegis128l _ _ _ _ c.transformed-end.ensures.1,
  seals-tag aegis128l _ _ _ _ _ c.transformed-end.ensures.0 c.tag.ensures,
)
