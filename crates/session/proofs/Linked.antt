-- A world of crates that has this crate's table of functions, and the code of each function that they call, has the code of each function here that is
-- called from above. The table, and what is called, are as Rattle makes them of src/.
-- Assumes nothing.
use Rattle.std.proofs.Common.{true}
use prog.Linked.{Tree, World, Holds, in_world}
use prog.LinkedThreads.{HasT}
use Rattle.session.proofs.TheLink as link
use Rattle.session.proofs.Session.core.Symbol as Session_core-symbol
use Rattle.session.proofs.Session.ended.Symbol as Session_ended-symbol
use Rattle.session.proofs.Session.is_for.Symbol as Session_is_for-symbol
use Rattle.session.proofs.Session.is_live.Symbol as Session_is_live-symbol
use Rattle.session.proofs.Session.is_well_formed.Symbol as Session_is_well_formed-symbol
use Rattle.session.proofs.Session.refused.Symbol as Session_refused-symbol
use Rattle.session.proofs.Session.with_core.Symbol as Session_with_core-symbol
use Rattle.session.proofs.Session.with_length.Symbol as Session_with_length-symbol
use Rattle.session.proofs.starts.mac_start.Symbol as starts_mac_start-symbol
use Rattle.session.proofs.starts.open_start.Symbol as starts_open_start-symbol
use Rattle.session.proofs.starts.seal_start.Symbol as starts_seal_start-symbol

pub table : Tree
table = link.table

-- the code of the functions of other crates that are called here, as Rattle lists them
abbrev pub Below : World → Type 0
Below = link.Below

module _ (W : World) (held : Holds W "session" table) (below : Below W) where
  pub Session_core : HasT (in_world W) true Session_core-symbol.code
  unfolding table
  Session_core = link.linked-session::Session::core W held below

  pub Session_ended : HasT (in_world W) true Session_ended-symbol.code
  unfolding table
  Session_ended = link.linked-session::Session::ended W held below

  pub Session_is_for : HasT (in_world W) true Session_is_for-symbol.code
  unfolding table
  Session_is_for = link.linked-session::Session::is_for W held below

  pub Session_is_live : HasT (in_world W) true Session_is_live-symbol.code
  unfolding table
  Session_is_live = link.linked-session::Session::is_live W held below

  pub Session_is_well_formed : HasT (in_world W) true Session_is_well_formed-symbol.code
  unfolding table
  Session_is_well_formed = link.linked-session::Session::is_well_formed W held below

  pub Session_refused : HasT (in_world W) true Session_refused-symbol.code
  unfolding table
  Session_refused = link.linked-session::Session::refused W held below

  pub Session_with_core : HasT (in_world W) true Session_with_core-symbol.code
  unfolding table
  Session_with_core = link.linked-session::Session::with_core W held below

  pub Session_with_length : HasT (in_world W) true Session_with_length-symbol.code
  unfolding table
  Session_with_length = link.linked-session::Session::with_length W held below

  pub starts_mac_start : HasT (in_world W) true starts_mac_start-symbol.code
  unfolding table
  starts_mac_start = link.linked-session::starts::mac_start W held below

  pub starts_open_start : HasT (in_world W) true starts_open_start-symbol.code
  unfolding table
  starts_open_start = link.linked-session::starts::open_start W held below

  pub starts_seal_start : HasT (in_world W) true starts_seal_start-symbol.code
  unfolding table
  starts_seal_start = link.linked-session::starts::seal_start W held below
