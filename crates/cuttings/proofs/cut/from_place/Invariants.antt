use Rattle.std.proofs.Common.{◌≡◌, ◌<◌, ◌+◌}
use Rattle.session.specs.View.{session_of}
use Rattle.cuttings.specs.Pieces.{Shown}
use Rattle.cuttings.proofs.cut.from_place.Given as goal

abbrev pub invariant-loop-j : goal.invariant-loop-j
invariant-loop-j g l =
    let t = g.C.Cut in
    let r = t.parts l.initial.cut in
    (t.parts l.cut ≡ r) × (l.count + l.i ≡ l.j) × (l.i < l.j → Shown (t.Taken r) (t.Ended r) (t.size r) (session_of l.s))
