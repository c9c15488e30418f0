-- `absorb_ad` meets its contract: what is absorbed is closed.
use Rattle.aegis128l.specs.View.{state_of}
use Rattle.aegis128l.specs.Aegis128L as draft
use Rattle.aegis128l_core.proofs.Absorbing.{absorbed_below, absorbed_closed}
use Rattle.aegis128l_core.proofs.absorb_ad.Goals as goal

pub close-requires : goal.close-requires
close-requires c =
    let A = c.args in
    absorbed_below draft.machine (state_of A.s) A.ad.now c.absorb_blocks.ensures

pub returns : goal.returns
returns c = absorbed_closed draft.machine _ _ c.absorb_blocks.ensures c.close.ensures
