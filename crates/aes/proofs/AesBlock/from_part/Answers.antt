-- `aes::AesBlock::from_part` meets its contract. The first i bytes are stored, and the loop ends at 16 or at the part's end.
use Rattle.std.proofs.Common.{arith}
use Rattle.aes.proofs.Filling.{padded}
use Rattle.aes.proofs.AesBlock.from_part.Goals as goal

pub returns : goal.returns
returns c =
    let held = c.loop-i.invariant in
    padded c.args.src.now held.filled (λ h. omega (arith, held.least.one (omega arith)))
