-- A world of crates that has this crate's table of functions, and the code of each function that they call, has the code of each function here that is
-- called from above. The table, and what is called, are as Rattle makes them of src/.
-- Assumes nothing.
use Rattle.std.proofs.Common.{true}
use prog.Linked.{Tree, World, Holds, in_world}
use prog.LinkedThreads.{HasT}
use Rattle.aes.proofs.TheLink as link
use Rattle.aes.proofs.AesBlock.from_part.Symbol as AesBlock_from_part-symbol
use Rattle.aes.proofs.AesBlock.round.Symbol as AesBlock_round-symbol
use Rattle.aes.proofs.AesBlockBitAnd.bitand.Symbol as AesBlockBitAnd_bitand-symbol
use Rattle.aes.proofs.AesBlockBitXor.bitxor.Symbol as AesBlockBitXor_bitxor-symbol
use Rattle.aes.proofs.sbox.Symbol as sbox-symbol

pub table : Tree
table = link.table

-- the code of the functions of other crates that are called here, as Rattle lists them
abbrev pub Below : World → Type 0
Below = link.Below

module _ (W : World) (held : Holds W "aes" table) (below : Below W) where
  pub AesBlock_from_part : HasT (in_world W) true AesBlock_from_part-symbol.code
  unfolding table
  AesBlock_from_part = link.linked-aes::AesBlock::from_part W held below

  pub AesBlock_round : HasT (in_world W) true AesBlock_round-symbol.code
  unfolding table
  AesBlock_round = link.linked-aes::AesBlock::round W held below

  pub AesBlockBitAnd_bitand : HasT (in_world W) true AesBlockBitAnd_bitand-symbol.code
  unfolding table
  AesBlockBitAnd_bitand = link.linked-aes::AesBlockBitAnd::bitand W held below

  pub AesBlockBitXor_bitxor : HasT (in_world W) true AesBlockBitXor_bitxor-symbol.code
  unfolding table
  AesBlockBitXor_bitxor = link.linked-aes::AesBlockBitXor::bitxor W held below

  pub sbox : HasT (in_world W) true sbox-symbol.code
  unfolding table
  sbox = link.linked-aes::sbox W held below
