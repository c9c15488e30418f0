-- A world of crates that has this crate's table of functions, and the code of each function that they call, has the code of each function here that is
-- called from above. The table, and what is called, are as Rattle makes them of src/.
-- Assumes nothing.
use Rattle.std.proofs.Common.{true}
use prog.Linked.{Tree, World, Holds, in_world}
use prog.LinkedThreads.{HasT}
use Rattle.session_pieces.proofs.TheLink as link
use Rattle.session_pieces.proofs.mac_piece.Symbol as mac_piece-symbol
use Rattle.session_pieces.proofs.open_piece.Symbol as open_piece-symbol
use Rattle.session_pieces.proofs.seal_piece.Symbol as seal_piece-symbol
use Rattle.session_pieces.proofs.seal_piece_in_place.Symbol as seal_piece_in_place-symbol

pub table : Tree
table = link.table

-- the code of the functions of other crates that are called here, as Rattle lists them
abbrev pub Below : World → Type 0
Below = link.Below

module _ (W : World) (held : Holds W "session_pieces" table) (below : Below W) where
  pub mac_piece : HasT (in_world W) true mac_piece-symbol.code
  unfolding table
  mac_piece = link.linked-session_pieces::mac_piece W held below

  pub open_piece : HasT (in_world W) true open_piece-symbol.code
  unfolding table
  open_piece = link.linked-session_pieces::open_piece W held below

  pub seal_piece : HasT (in_world W) true seal_piece-symbol.code
  unfolding table
  seal_piece = link.linked-session_pieces::seal_piece W held below

  pub seal_piece_in_place : HasT (in_world W) true seal_piece_in_place-symbol.code
  unfolding table
  seal_piece_in_place = link.linked-session_pieces::seal_piece_in_place W held below
