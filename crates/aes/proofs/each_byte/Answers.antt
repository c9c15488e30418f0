-- `aes::each_byte` meets its contract: a turn stores one byte more, and those below it stay.
use Rattle.std.proofs.Common.{arith, below_more, get_or, length, length-set, set, subst, sym, ℕ, ◌≡◌, ◌∙◌}
use Rattle.std.proofs.Math.Seq.{get_or-set_same, get_or-set_other}
use Rattle.aes.proofs.each_byte.Goals as goal

pub loop-i-preserved : goal.loop-i-preserved
loop-i-preserved g c =
    let L = c.loop-i in
    let r = c.f.result in
    let next = set L.bytes L.i r in
    let met = λ (k y : ℕ). goal.F-post g c.args.f (get_or c.args.a.bytes k 0) (get_or c.args.b.bytes k 0) y in
    let long : length L.bytes ≡ 16 = L.invariant.long in
    record {
      long = length-set L.bytes L.i r ∙ long;
      met =
          below_more (λ k. met k (get_or next k 0)) L.i
          (λ k h. subst (met k) (sym (get_or-set_other L.bytes L.i k r 0 (λ q. omega arith))) (L.invariant.met k h))
          (subst (met L.i) (sym (get_or-set_same L.bytes L.i r 0 (omega arith))) c.f.ensures);
    }
