-- `aes::steps::mix` meets its contract: {02} • a is a doubled, and {03} • b is b plus b doubled.
use Rattle.aes.specs.Round.{mixed}
use Rattle.aes.proofs.Field.{mul-two, mul_three}
use Rattle.aes.proofs.steps.mix.Goals as goal

pub returns : goal.returns
unfolding mixed
returns c = simp (mul-two, mul_three, c.double-2.ensures, c.double.ensures)
