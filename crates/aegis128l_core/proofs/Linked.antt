-- A world of crates that has this crate's table of functions, and the code of each function that they call, has the code of each function here that is
-- called from above. The table, and what is called, are as Rattle makes them of src/.
-- Assumes nothing.
use Rattle.std.proofs.Common.{true}
use prog.Linked.{Tree, World, Holds, in_world}
use prog.LinkedThreads.{HasT}
use Rattle.aegis128l_core.proofs.TheLink as link
use Rattle.aegis128l_core.proofs.Core.absorb.Symbol as Core_absorb-symbol
use Rattle.aegis128l_core.proofs.Core.close.Symbol as Core_close-symbol
use Rattle.aegis128l_core.proofs.Core.start.Symbol as Core_start-symbol
use Rattle.aegis128l_core.proofs.Core.transform.Symbol as Core_transform-symbol
use Rattle.aegis128l_core.proofs.absorb_ad.Symbol as absorb_ad-symbol
use Rattle.aegis128l_core.proofs.stream.stream_xor.Symbol as stream_stream_xor-symbol

pub table : Tree
table = link.table

-- the code of the functions of other crates that are called here, as Rattle lists them
abbrev pub Below : World → Type 0
Below = link.Below

module _ (W : World) (held : Holds W "aegis128l_core" table) (below : Below W) where
  pub Core_absorb : HasT (in_world W) true Core_absorb-symbol.code
  unfolding table
  Core_absorb = link.linked-aegis128l_core::Core::absorb W held below

  pub Core_close : HasT (in_world W) true Core_close-symbol.code
  unfolding table
  Core_close = link.linked-aegis128l_core::Core::close W held below

  pub Core_start : HasT (in_world W) true Core_start-symbol.code
  unfolding table
  Core_start = link.linked-aegis128l_core::Core::start W held below

  pub Core_transform : HasT (in_world W) true Core_transform-symbol.code
  unfolding table
  Core_transform = link.linked-aegis128l_core::Core::transform W held below

  pub absorb_ad : HasT (in_world W) true absorb_ad-symbol.code
  unfolding table
  absorb_ad = link.linked-aegis128l_core::absorb_ad W held below

  pub stream_stream_xor : HasT (in_world W) true stream_stream_xor-symbol.code
  unfolding table
  stream_stream_xor = link.linked-aegis128l_core::stream::stream_xor W held below
