-- A world of crates that has this crate's table of functions, and the code of each function that they call, has the code of each function here that is
-- called from above. The table, and what is called, are as Rattle makes them of src/.
-- Assumes nothing.
use Rattle.std.proofs.Common.{true}
use prog.Linked.{Tree, World, Holds, in_world}
use prog.LinkedThreads.{HasT}
use Rattle.lent.proofs.TheLink as link
use Rattle.lent.proofs.put.Symbol as put-symbol
use Rattle.lent.proofs.tags_match.Symbol as tags_match-symbol
use Rattle.lent.proofs.wipe.Symbol as wipe-symbol
use Rattle.lent.proofs.xor_into.Symbol as xor_into-symbol

pub table : Tree
table = link.table

-- the code of the functions of other crates that are called here, as Rattle lists them
abbrev pub Below : World → Type 0
Below = link.Below

module _ (W : World) (held : Holds W "lent" table) (below : Below W) where
  pub put : HasT (in_world W) true put-symbol.code
  unfolding table
  put = link.linked-lent::put W held below

  pub tags_match : HasT (in_world W) true tags_match-symbol.code
  unfolding table
  tags_match = link.linked-lent::tags_match W held below

  pub wipe : HasT (in_world W) true wipe-symbol.code
  unfolding table
  wipe = link.linked-lent::wipe W held below

  pub xor_into : HasT (in_world W) true xor_into-symbol.code
  unfolding table
  xor_into = link.linked-lent::xor_into W held below
