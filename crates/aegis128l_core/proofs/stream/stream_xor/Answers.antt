-- `stream_xor` meets its contract: a loop over whole blocks of keystream, and a part of one.
use Rattle.std.proofs.Common.{arith, length, refl, ◌*◌, ◌+◌, ◌-◌, ◌/◌, ◌≡◌}
use Rattle.lent.proofs.Rest.{going_turn}
use Rattle.aegis128l.specs.View.{state_of}
use Rattle.aegis128l.specs.Aegis128L as draft
use Rattle.aegis128l_core.proofs.Streaming.{stream-blocks, streamed_tail, streamed_done}
use Rattle.aegis128l_core.proofs.stream.stream_xor.Goals as goal

pub loop-k-preserved : goal.loop-k-preserved
loop-k-preserved c =
    let L = c.loop-k in
    let q = c.over_block-s.ensures in
    let i = 32 * L.k in
    going_turn (state_of L.s) L.buf i (stream-blocks draft.machine) L.invariant ((i + 32) - i) (32 * (L.k + 1)) _ _
    q.0 q.1 (omega arith) (omega arith) (omega arith)

pub returns-then-n-buf : goal.returns-then-n-buf
returns-then-n-buf c =
    let L = c.loop-k in
    let i = 32 * (length c.args.buf.now / 32) in
    let e : L.k ≡ length c.args.buf.now / 32 = omega arith in
    streamed_tail draft.machine (state_of L.s) L.buf i (rw e at L.invariant) (length L.buf - i) c.over_block.ensures.1
    refl (omega arith)

pub returns-else-n-buf : goal.returns-else-n-buf
returns-else-n-buf c =
    let L = c.loop-k in
    streamed_done draft.machine (state_of L.s) L.buf (32 * L.k) L.invariant (omega arith)
