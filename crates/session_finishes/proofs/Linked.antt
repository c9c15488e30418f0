-- A world of crates that has this crate's table of functions, and the code of each function that they call, has the code of each function here that is
-- called from above. The table, and what is called, are as Rattle makes them of src/.
-- Assumes nothing.
use Rattle.std.proofs.Common.{true}
use prog.Linked.{Tree, World, Holds, in_world}
use prog.LinkedThreads.{HasT}
use Rattle.session_finishes.proofs.TheLink as link
use Rattle.session_finishes.proofs.abort.Symbol as abort-symbol
use Rattle.session_finishes.proofs.mac_finish.Symbol as mac_finish-symbol
use Rattle.session_finishes.proofs.mac_finish_check.Symbol as mac_finish_check-symbol
use Rattle.session_finishes.proofs.open_finish.Symbol as open_finish-symbol
use Rattle.session_finishes.proofs.seal_finish.Symbol as seal_finish-symbol

pub table : Tree
table = link.table

-- the code of the functions of other crates that are called here, as Rattle lists them
abbrev pub Below : World → Type 0
Below = link.Below

module _ (W : World) (held : Holds W "session_finishes" table) (below : Below W) where
  pub abort : HasT (in_world W) true abort-symbol.code
  unfolding table
  abort = link.linked-session_finishes::abort W held below

  pub mac_finish : HasT (in_world W) true mac_finish-symbol.code
  unfolding table
  mac_finish = link.linked-session_finishes::mac_finish W held below

  pub mac_finish_check : HasT (in_world W) true mac_finish_check-symbol.code
  unfolding table
  mac_finish_check = link.linked-session_finishes::mac_finish_check W held below

  pub open_finish : HasT (in_world W) true open_finish-symbol.code
  unfolding table
  open_finish = link.linked-session_finishes::open_finish W held below

  pub seal_finish : HasT (in_world W) true seal_finish-symbol.code
  unfolding table
  seal_finish = link.linked-session_finishes::seal_finish W held below
