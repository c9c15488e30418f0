-- `line` meets its contract: the word, the number and the line feed are put one behind the other.
use Rattle.std.proofs.Common.{arith}
use mathlib.Core.List.{append_assoc}
use Rattle.hub_record.specs.Reply.{line}
use Rattle.hub_record.proofs.DecimalDigits.{decimal_std}
use Rattle.hub_record.proofs.line.line.Goals as goal

pub returns : goal.returns
unfolding line
returns c =
    let n = decimal_std c.args.n (omega arith) in
    let text = c.format.ensures.text in
    rw (c.push.ensures.ascii (omega arith), c.push_str-2.ensures.bytes, text, c.push_str.ensures.bytes, c.new-text.ensures, ← n)
    (append_assoc c.args.word.now _ _)
