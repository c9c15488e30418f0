-- `State::block` meets its contract: the block is xored with the keystream, and its plaintext absorbed.
use Rattle.std.proofs.Common.{le_of_eq}
use Rattle.aegis128l.proofs.OneBlock.{covered, decrypted, encrypted}
use Rattle.aegis128l.proofs.state.State.block.Goals as goal

pub returns-in-Encrypt : goal.returns-in-Encrypt
returns-in-Encrypt c =
    encrypted _ _ _ _ _ (covered _ _ _ _ c.keystream-z.ensures c.xor_into.ensures (le_of_eq c.requires))
    c.in-Encrypt.is c.absorb-s.ensures

pub returns-in-Decrypt : goal.returns-in-Decrypt
returns-in-Decrypt c =
    decrypted _ _ _ _ _ (covered _ _ _ _ c.keystream-z.ensures c.xor_into-in-Decrypt.ensures (le_of_eq c.requires))
    c.in-Decrypt.is c.absorb.ensures
