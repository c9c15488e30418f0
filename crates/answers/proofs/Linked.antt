-- A world of crates that has this crate's table of functions, and the code of each function that they call, has the code of each function here that is
-- called from above. The table, and what is called, are as Rattle makes them of src/.
-- Assumes nothing.
use Rattle.std.proofs.Common.{true}
use prog.Linked.{Tree, World, Holds, in_world}
use prog.LinkedThreads.{HasT}
use Rattle.answers.proofs.TheLink as link
use Rattle.answers.proofs.Refusal.number.Symbol as Refusal_number-symbol
use Rattle.answers.proofs.answer.Symbol as answer-symbol
use Rattle.answers.proofs.once.mac.Symbol as once_mac-symbol
use Rattle.answers.proofs.once.mac_start.Symbol as once_mac_start-symbol
use Rattle.answers.proofs.once.one_shot.Symbol as once_one_shot-symbol
use Rattle.answers.proofs.once.start.Symbol as once_start-symbol
use Rattle.answers.proofs.once.stream.Symbol as once_stream-symbol
use Rattle.answers.proofs.once.tag_size.Symbol as once_tag_size-symbol
use Rattle.answers.proofs.pieces.abort.Symbol as pieces_abort-symbol
use Rattle.answers.proofs.pieces.finish.Symbol as pieces_finish-symbol
use Rattle.answers.proofs.pieces.open_finish.Symbol as pieces_open_finish-symbol
use Rattle.answers.proofs.pieces.open_piece.Symbol as pieces_open_piece-symbol
use Rattle.answers.proofs.pieces.piece.Symbol as pieces_piece-symbol
use Rattle.answers.proofs.pieces.seal_piece.Symbol as pieces_seal_piece-symbol

pub table : Tree
table = link.table

-- the code of the functions of other crates that are called here, as Rattle lists them
abbrev pub Below : World → Type 0
Below = link.Below

module _ (W : World) (held : Holds W "answers" table) (below : Below W) where
  pub Refusal_number : HasT (in_world W) true Refusal_number-symbol.code
  unfolding table
  Refusal_number = link.linked-answers::Refusal::number W held below

  pub answer : HasT (in_world W) true answer-symbol.code
  unfolding table
  answer = link.linked-answers::answer W held below

  pub once_mac : HasT (in_world W) true once_mac-symbol.code
  unfolding table
  once_mac = link.linked-answers::once::mac W held below

  pub once_mac_start : HasT (in_world W) true once_mac_start-symbol.code
  unfolding table
  once_mac_start = link.linked-answers::once::mac_start W held below

  pub once_one_shot : HasT (in_world W) true once_one_shot-symbol.code
  unfolding table
  once_one_shot = link.linked-answers::once::one_shot W held below

  pub once_start : HasT (in_world W) true once_start-symbol.code
  unfolding table
  once_start = link.linked-answers::once::start W held below

  pub once_stream : HasT (in_world W) true once_stream-symbol.code
  unfolding table
  once_stream = link.linked-answers::once::stream W held below

  pub once_tag_size : HasT (in_world W) true once_tag_size-symbol.code
  unfolding table
  once_tag_size = link.linked-answers::once::tag_size W held below

  pub pieces_abort : HasT (in_world W) true pieces_abort-symbol.code
  unfolding table
  pieces_abort = link.linked-answers::pieces::abort W held below

  pub pieces_finish : HasT (in_world W) true pieces_finish-symbol.code
  unfolding table
  pieces_finish = link.linked-answers::pieces::finish W held below

  pub pieces_open_finish : HasT (in_world W) true pieces_open_finish-symbol.code
  unfolding table
  pieces_open_finish = link.linked-answers::pieces::open_finish W held below

  pub pieces_open_piece : HasT (in_world W) true pieces_open_piece-symbol.code
  unfolding table
  pieces_open_piece = link.linked-answers::pieces::open_piece W held below

  pub pieces_piece : HasT (in_world W) true pieces_piece-symbol.code
  unfolding table
  pieces_piece = link.linked-answers::pieces::piece W held below

  pub pieces_seal_piece : HasT (in_world W) true pieces_seal_piece-symbol.code
  unfolding table
  pieces_seal_piece = link.linked-answers::pieces::seal_piece W held below
