-- `aes::sbox` keeps the invariant of what it hands back: by the rule of the table.
use Rattle.aes.proofs.Table.{right}
use Rattle.aes.proofs.sbox.Goals as goal

pub invariant_of-result : goal.invariant_of-result
invariant_of-result c = record { is_table = right }
