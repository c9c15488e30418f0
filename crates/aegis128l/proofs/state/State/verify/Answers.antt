-- `verify` meets its contract: the first bytes of a buffer of 32 hold the tag that is due, and are compared.
use Rattle.std.proofs.Common.{rules}
use Rattle.std.proofs.Math.Seq.{take-append_seam}
use Rattle.aegis128l.proofs.state.State.verify.Goals as goal

pub returns : goal.returns
returns c = search (rules, take-append_seam)
