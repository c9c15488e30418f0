-- `&` of two blocks meets its contract: the block of the bytes' ands.
use Rattle.std.proofs.Common.{get_or, length, of_calls, rules, ◌≡◌}
use Rattle.std.specs.Int.Bits.{bit_and}
use Rattle.aes.specs.Round.{and_of}
use Rattle.aes.proofs.Block.{block_of}
use Rattle.aes.proofs.AesBlockBitAnd.bitand.Goals as goal

pub returns : goal.returns
unfolding and_of
returns c =
    let a = c.args.self.bytes in
    let b = c.args.other.bytes in
    let r = c.each_byte.result.bytes in
    let long : length r ≡ 16 = search rules in
    block_of (λ i. bit_and (get_or a i 0) (get_or b i 0)) r long (λ i h. let e = c.each_byte.ensures i h in search (rules, of_calls))
