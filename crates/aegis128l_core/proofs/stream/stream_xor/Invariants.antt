use Rattle.std.proofs.Common.{◌*◌}
use Rattle.aegis128l.specs.View.{state_of}
use Rattle.aegis128l.specs.Aegis128L as draft
use Rattle.aegis128l_core.proofs.Streaming.{Streamed}
use Rattle.aegis128l_core.proofs.stream.stream_xor.Given as goal

abbrev pub invariant-loop-k : goal.invariant-loop-k
invariant-loop-k l = Streamed draft.machine (state_of l.initial.s) l.initial.buf (state_of l.s) l.buf (32 * l.k)
