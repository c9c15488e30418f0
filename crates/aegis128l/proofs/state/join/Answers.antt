-- `join` meets its contract: the two blocks, one behind the other.
use Rattle.std.proofs.Common.{arith, length, refl, rules, ◌≡◌, ◌∙◌}
use Rattle.aes.proofs.Block.{block_of}
use Rattle.lent.proofs.Over.{over-same}
use Rattle.aegis128l.specs.View.{joined}
use Rattle.aegis128l.proofs.state.join.Goals as goal

pub returns : goal.returns
returns c =
    let a : length c.args.a ≡ 16 = search rules in
    let b : length c.args.b ≡ 16 = search rules in
    let ea = c.put.ensures ∙ over-same _ _ a ∙ block_of _ _ a (λ k h. refl) in
    let eb = c.put-2.ensures ∙ over-same _ _ (omega (arith, b, c.put.auto.dst)) ∙ block_of _ _ b (λ k h. refl) in
    rw (ea, eb) (refl {a = joined c.args.a c.args.b})
