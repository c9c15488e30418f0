-- `Core::absorb_blocks` meets its contract: a loop over whole blocks, and what is left begins a new one.
use Rattle.std.proofs.Common.{arith, length, ◌*◌, ◌+◌, ◌-◌, ◌/◌, ◌≡◌}
use Rattle.aegis128l.specs.View.{state_of}
use Rattle.aegis128l.specs.Aegis128L as draft
use Rattle.aegis128l_core.specs.View.{core_of}
use Rattle.aegis128l_core.proofs.Loop.{rest-length, starts_empty}
use Rattle.aegis128l_core.proofs.Absorbing.{absorbed_turn, absorbed_tail, absorbed_done}
use Rattle.aegis128l_core.proofs.Core.absorb_blocks.Goals as goal

pub loop-k-preserved : goal.loop-k-preserved
loop-k-preserved c =
    let L = c.loop-k in
    let i = 32 * L.k in
    absorbed_turn draft.machine (state_of L.s) i L.invariant ((i + 32) - i) (32 * (L.k + 1)) c.absorb-s.ensures
    (omega arith) (omega arith) (omega arith)

pub take_in-requires : goal.take_in-requires
take_in-requires c =
    let L = c.loop-k in
    let x = c.args.input.now in
    let e = c.start-c in
    let n = rest-length (32 * (length x / 32)) x in
    let z : e.result.fill ≡ 0 = starts_empty draft.machine (state_of L.s) (core_of e.result) e.ensures in
    (omega arith, omega arith)

pub returns-then-n-input : goal.returns-then-n-input
returns-then-n-input c =
    let L = c.loop-k in
    let e : L.k ≡ length c.args.input.now / 32 = omega arith in
    absorbed_tail draft.machine (state_of L.s) (32 * (length c.args.input.now / 32)) (rw e at L.invariant) c.start-c.ensures
    c.take_in.ensures

pub returns-else-n-input : goal.returns-else-n-input
returns-else-n-input c =
    let L = c.loop-k in
    absorbed_done draft.machine (state_of L.s) (32 * L.k) L.invariant c.start-c.ensures (omega arith)
