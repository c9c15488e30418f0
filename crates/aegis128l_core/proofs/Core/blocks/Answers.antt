-- `Core::blocks` meets its contract: a loop over whole blocks, and what is left begins a new one.
use Rattle.std.proofs.Common.{arith, length, refl, ◌*◌, ◌+◌, ◌-◌, ◌/◌, ◌≡◌}
use Rattle.lent.proofs.Rest.{going_turn}
use Rattle.aegis128l.specs.View.{state_of, mode_of}
use Rattle.aegis128l.specs.Aegis128L as draft
use Rattle.aegis128l_core.specs.View.{core_of}
use Rattle.aegis128l_core.proofs.Loop.{by_blocks, blocks-tail, blocks_done, rest-length, starts_empty}
use Rattle.aegis128l_core.proofs.Core.blocks.Goals as goal

pub loop-k-preserved : goal.loop-k-preserved
loop-k-preserved c =
    let L = c.loop-k in
    let m = c.args.mode in
    let q = c.block-s.ensures in
    let i = 32 * L.k in
    going_turn (state_of L.s) L.mc i (by_blocks draft.machine (mode_of m)) L.invariant ((i + 32) - i) (32 * (L.k + 1)) _ _
    q.0 q.1 (omega arith) (omega arith) (omega arith)

pub within-requires : goal.within-requires
within-requires c =
    let L = c.loop-k in
    let e = c.start-c in
    let n = rest-length (32 * (length c.args.mc.now / 32)) L.mc in
    let z : e.result.fill ≡ 0 = starts_empty draft.machine (state_of L.s) (core_of e.result) e.ensures in
    (omega arith, omega arith)

pub returns-then-n-mc : goal.returns-then-n-mc
returns-then-n-mc c =
    let L = c.loop-k in
    let m = c.args.mode in
    let i = 32 * (length c.args.mc.now / 32) in
    let e : L.k ≡ length c.args.mc.now / 32 = omega arith in
    blocks-tail draft.machine (mode_of m) (state_of L.s) L.mc i (rw e at L.invariant) c.start-c.ensures (length L.mc - i)
    c.within.ensures.0 c.within.ensures.1 refl

pub returns-else-n-mc : goal.returns-else-n-mc
returns-else-n-mc c =
    let L = c.loop-k in
    let m = c.args.mode in
    blocks_done draft.machine (mode_of m) (state_of L.s) L.mc (32 * L.k) L.invariant c.start-c.ensures (omega arith)
