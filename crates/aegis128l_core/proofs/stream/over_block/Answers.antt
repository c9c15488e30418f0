-- `over_block` meets its contract: the part is xored with the keystream, and zeros are absorbed.
use Rattle.aegis128l.proofs.OneBlock.{covered}
use Rattle.aegis128l_core.proofs.stream.over_block.Goals as goal

pub returns : goal.returns
returns c =
    (c.absorb.ensures, covered _ _ _ _ c.keystream.ensures c.xor_into.ensures c.requires)
