-- A world of crates that has this crate's table of functions, and the code of each function that they call, has the code of each function here that is
-- called from above. The table, and what is called, are as Rattle makes them of src/.
-- Assumes nothing.
use Rattle.std.proofs.Common.{true}
use prog.Linked.{Tree, World, Holds, in_world}
use prog.LinkedThreads.{HasT}
use Rattle.oneshot.proofs.TheLink as link
use Rattle.oneshot.proofs.aegis128l_open.Symbol as aegis128l_open-symbol
use Rattle.oneshot.proofs.aegis128l_open_in_place.Symbol as aegis128l_open_in_place-symbol
use Rattle.oneshot.proofs.aegis128l_seal.Symbol as aegis128l_seal-symbol
use Rattle.oneshot.proofs.aegis128l_seal_in_place.Symbol as aegis128l_seal_in_place-symbol
use Rattle.oneshot.proofs.mac.aegis128l_mac.Symbol as mac_aegis128l_mac-symbol
use Rattle.oneshot.proofs.mac.aegis128l_mac_check.Symbol as mac_aegis128l_mac_check-symbol
use Rattle.oneshot.proofs.stream.aegis128l_stream.Symbol as stream_aegis128l_stream-symbol
use Rattle.oneshot.proofs.stream.aegis128l_stream_xor.Symbol as stream_aegis128l_stream_xor-symbol

pub table : Tree
table = link.table

-- the code of the functions of other crates that are called here, as Rattle lists them
abbrev pub Below : World → Type 0
Below = link.Below

module _ (W : World) (held : Holds W "oneshot" table) (below : Below W) where
  pub aegis128l_open : HasT (in_world W) true aegis128l_open-symbol.code
  unfolding table
  aegis128l_open = link.linked-oneshot::aegis128l_open W held below

  pub aegis128l_open_in_place : HasT (in_world W) true aegis128l_open_in_place-symbol.code
  unfolding table
  aegis128l_open_in_place = link.linked-oneshot::aegis128l_open_in_place W held below

  pub aegis128l_seal : HasT (in_world W) true aegis128l_seal-symbol.code
  unfolding table
  aegis128l_seal = link.linked-oneshot::aegis128l_seal W held below

  pub aegis128l_seal_in_place : HasT (in_world W) true aegis128l_seal_in_place-symbol.code
  unfolding table
  aegis128l_seal_in_place = link.linked-oneshot::aegis128l_seal_in_place W held below

  pub mac_aegis128l_mac : HasT (in_world W) true mac_aegis128l_mac-symbol.code
  unfolding table
  mac_aegis128l_mac = link.linked-oneshot::mac::aegis128l_mac W held below

  pub mac_aegis128l_mac_check : HasT (in_world W) true mac_aegis128l_mac_check-symbol.code
  unfolding table
  mac_aegis128l_mac_check = link.linked-oneshot::mac::aegis128l_mac_check W held below

  pub stream_aegis128l_stream : HasT (in_world W) true stream_aegis128l_stream-symbol.code
  unfolding table
  stream_aegis128l_stream = link.linked-oneshot::stream::aegis128l_stream W held below

  pub stream_aegis128l_stream_xor : HasT (in_world W) true stream_aegis128l_stream_xor-symbol.code
  unfolding table
  stream_aegis128l_stream_xor = link.linked-oneshot::stream::aegis128l_stream_xor W held below
