-- A world of crates that has this crate's table of functions, and the code of each function that they call, has the code of each function here. The
-- table, and what is called, are as Rattle makes them of src/.
-- Assumes nothing.
use Rattle.std.proofs.Common.{true}
use prog.Linked.{Tree, World, Holds, in_world}
use prog.LinkedThreads.{HasT}
use Rattle.thin.proofs.TheLink as link
use Rattle.thin.proofs.aegis128l_abort.Symbol as aegis128l_abort-symbol
use Rattle.thin.proofs.aegis128l_mac_finish.Symbol as aegis128l_mac_finish-symbol
use Rattle.thin.proofs.aegis128l_mac_finish_check.Symbol as aegis128l_mac_finish_check-symbol
use Rattle.thin.proofs.aegis128l_mac_piece.Symbol as aegis128l_mac_piece-symbol
use Rattle.thin.proofs.aegis128l_mac_start.Symbol as aegis128l_mac_start-symbol
use Rattle.thin.proofs.aegis128l_open_finish.Symbol as aegis128l_open_finish-symbol
use Rattle.thin.proofs.aegis128l_open_piece.Symbol as aegis128l_open_piece-symbol
use Rattle.thin.proofs.aegis128l_open_start.Symbol as aegis128l_open_start-symbol
use Rattle.thin.proofs.aegis128l_seal_finish.Symbol as aegis128l_seal_finish-symbol
use Rattle.thin.proofs.aegis128l_seal_piece.Symbol as aegis128l_seal_piece-symbol
use Rattle.thin.proofs.aegis128l_seal_piece_in_place.Symbol as aegis128l_seal_piece_in_place-symbol
use Rattle.thin.proofs.aegis128l_seal_start.Symbol as aegis128l_seal_start-symbol
use Rattle.thin.proofs.once.aegis128l_mac.Symbol as once_aegis128l_mac-symbol
use Rattle.thin.proofs.once.aegis128l_mac_check.Symbol as once_aegis128l_mac_check-symbol
use Rattle.thin.proofs.once.aegis128l_open.Symbol as once_aegis128l_open-symbol
use Rattle.thin.proofs.once.aegis128l_open_in_place.Symbol as once_aegis128l_open_in_place-symbol
use Rattle.thin.proofs.once.aegis128l_seal.Symbol as once_aegis128l_seal-symbol
use Rattle.thin.proofs.once.aegis128l_seal_in_place.Symbol as once_aegis128l_seal_in_place-symbol
use Rattle.thin.proofs.once.aegis128l_stream.Symbol as once_aegis128l_stream-symbol
use Rattle.thin.proofs.once.aegis128l_stream_xor.Symbol as once_aegis128l_stream_xor-symbol

pub table : Tree
table = link.table

-- the code of the functions of other crates that are called here, as Rattle lists them
abbrev pub Below : World → Type 0
Below = link.Below

module _ (W : World) (held : Holds W "thin" table) (below : Below W) where
  pub aegis128l_abort : HasT (in_world W) true aegis128l_abort-symbol.code
  unfolding table
  aegis128l_abort = link.linked-thin::aegis128l_abort W held below

  pub aegis128l_mac_finish : HasT (in_world W) true aegis128l_mac_finish-symbol.code
  unfolding table
  aegis128l_mac_finish = link.linked-thin::aegis128l_mac_finish W held below

  pub aegis128l_mac_finish_check : HasT (in_world W) true aegis128l_mac_finish_check-symbol.code
  unfolding table
  aegis128l_mac_finish_check = link.linked-thin::aegis128l_mac_finish_check W held below

  pub aegis128l_mac_piece : HasT (in_world W) true aegis128l_mac_piece-symbol.code
  unfolding table
  aegis128l_mac_piece = link.linked-thin::aegis128l_mac_piece W held below

  pub aegis128l_mac_start : HasT (in_world W) true aegis128l_mac_start-symbol.code
  unfolding table
  aegis128l_mac_start = link.linked-thin::aegis128l_mac_start W held below

  pub aegis128l_open_finish : HasT (in_world W) true aegis128l_open_finish-symbol.code
  unfolding table
  aegis128l_open_finish = link.linked-thin::aegis128l_open_finish W held below

  pub aegis128l_open_piece : HasT (in_world W) true aegis128l_open_piece-symbol.code
  unfolding table
  aegis128l_open_piece = link.linked-thin::aegis128l_open_piece W held below

  pub aegis128l_open_start : HasT (in_world W) true aegis128l_open_start-symbol.code
  unfolding table
  aegis128l_open_start = link.linked-thin::aegis128l_open_start W held below

  pub aegis128l_seal_finish : HasT (in_world W) true aegis128l_seal_finish-symbol.code
  unfolding table
  aegis128l_seal_finish = link.linked-thin::aegis128l_seal_finish W held below

  pub aegis128l_seal_piece : HasT (in_world W) true aegis128l_seal_piece-symbol.code
  unfolding table
  aegis128l_seal_piece = link.linked-thin::aegis128l_seal_piece W held below

  pub aegis128l_seal_piece_in_place : HasT (in_world W) true aegis128l_seal_piece_in_place-symbol.code
  unfolding table
  aegis128l_seal_piece_in_place = link.linked-thin::aegis128l_seal_piece_in_place W held below

  pub aegis128l_seal_start : HasT (in_world W) true aegis128l_seal_start-symbol.code
  unfolding table
  aegis128l_seal_start = link.linked-thin::aegis128l_seal_start W held below

  pub once_aegis128l_mac : HasT (in_world W) true once_aegis128l_mac-symbol.code
  unfolding table
  once_aegis128l_mac = link.linked-thin::once::aegis128l_mac W held below

  pub once_aegis128l_mac_check : HasT (in_world W) true once_aegis128l_mac_check-symbol.code
  unfolding table
  once_aegis128l_mac_check = link.linked-thin::once::aegis128l_mac_check W held below

  pub once_aegis128l_open : HasT (in_world W) true once_aegis128l_open-symbol.code
  unfolding table
  once_aegis128l_open = link.linked-thin::once::aegis128l_open W held below

  pub once_aegis128l_open_in_place : HasT (in_world W) true once_aegis128l_open_in_place-symbol.code
  unfolding table
  once_aegis128l_open_in_place = link.linked-thin::once::aegis128l_open_in_place W held below

  pub once_aegis128l_seal : HasT (in_world W) true once_aegis128l_seal-symbol.code
  unfolding table
  once_aegis128l_seal = link.linked-thin::once::aegis128l_seal W held below

  pub once_aegis128l_seal_in_place : HasT (in_world W) true once_aegis128l_seal_in_place-symbol.code
  unfolding table
  once_aegis128l_seal_in_place = link.linked-thin::once::aegis128l_seal_in_place W held below

  pub once_aegis128l_stream : HasT (in_world W) true once_aegis128l_stream-symbol.code
  unfolding table
  once_aegis128l_stream = link.linked-thin::once::aegis128l_stream W held below

  pub once_aegis128l_stream_xor : HasT (in_world W) true once_aegis128l_stream_xor-symbol.code
  unfolding table
  once_aegis128l_stream_xor = link.linked-thin::once::aegis128l_stream_xor W held below
