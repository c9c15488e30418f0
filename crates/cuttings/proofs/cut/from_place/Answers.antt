-- `from_place` meets its contract: one cutting more is counted where all is as recorded.
use Rattle.std.proofs.Common.{rules}
use Rattle.cuttings.proofs.cut.from_place.Goals as goal

pub loop-j-preserved : goal.loop-j-preserved
loop-j-preserved g c = search rules
