-- `in_three` meets its contract: three pieces that meet are the whole text.
use Prim.Native.Nat.{zero-le}
use Rattle.std.proofs.Common.{◌∙◌}
use Rattle.std.proofs.lemmas.Option.{IfSome_then}
use Rattle.cuttings.proofs.cut.in_three.Goals as goal

pub returns-clause-shown : goal.returns-clause-shown
returns-clause-shown g c =
    let laws = g.met.C.Cut.laws (g.C.Cut.parts c.args.cut.now) in
    let after_a = c.piece.ensures.kept in
    let after_b = c.middle.ensures.kept ∙ after_a in
    let after_c = c.piece-2.ensures.kept ∙ after_b in
    let b = rw after_a at c.in_ok-b.ensures.taken in
    let c' = rw (after_b, c.len-n.ensures) at c.in_ok-c.ensures.taken in
    IfSome_then c.finish.result (rw after_c at c.finish.ensures.ended)
    (λ _ ended. record {
      end = _;
      taken = laws.joined zero-le c.requires.1 (laws.joined zero-le c.requires.0 c.in_ok-a.ensures.taken b) c';
      ended = ended;
    })
