-- A world of crates that has this crate's table of functions, and the code of each function that they call, has the code of each function here that is
-- called from above. The table, and what is called, are as Rattle makes them of src/.
-- Assumes nothing.
use Rattle.std.proofs.Common.{true}
use prog.Linked.{Tree, World, Holds, in_world}
use prog.LinkedThreads.{HasT}
use Rattle.aegis128l.proofs.TheLink as link
use Rattle.aegis128l.proofs.state.State.absorb.Symbol as state_State_absorb-symbol
use Rattle.aegis128l.proofs.state.State.block.Symbol as state_State_block-symbol
use Rattle.aegis128l.proofs.state.State.keystream.Symbol as state_State_keystream-symbol
use Rattle.aegis128l.proofs.state.State.new.Symbol as state_State_new-symbol
use Rattle.aegis128l.proofs.state.State.tag.Symbol as state_State_tag-symbol
use Rattle.aegis128l.proofs.state.State.verify.Symbol as state_State_verify-symbol

pub table : Tree
table = link.table

-- the code of the functions of other crates that are called here, as Rattle lists them
abbrev pub Below : World → Type 0
Below = link.Below

module _ (W : World) (held : Holds W "aegis128l" table) (below : Below W) where
  pub state_State_absorb : HasT (in_world W) true state_State_absorb-symbol.code
  unfolding table
  state_State_absorb = link.linked-aegis128l::state::State::absorb W held below

  pub state_State_block : HasT (in_world W) true state_State_block-symbol.code
  unfolding table
  state_State_block = link.linked-aegis128l::state::State::block W held below

  pub state_State_keystream : HasT (in_world W) true state_State_keystream-symbol.code
  unfolding table
  state_State_keystream = link.linked-aegis128l::state::State::keystream W held below

  pub state_State_new : HasT (in_world W) true state_State_new-symbol.code
  unfolding table
  state_State_new = link.linked-aegis128l::state::State::new W held below

  pub state_State_tag : HasT (in_world W) true state_State_tag-symbol.code
  unfolding table
  state_State_tag = link.linked-aegis128l::state::State::tag W held below

  pub state_State_verify : HasT (in_world W) true state_State_verify-symbol.code
  unfolding table
  state_State_verify = link.linked-aegis128l::state::State::verify W held below
