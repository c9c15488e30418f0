use Rattle.std.proofs.Common.{◌≡◌}
use Rattle.session.specs.View.{session_of}
use Rattle.cuttings.proofs.cut.bytewise.Given as goal

abbrev pub invariant-loop-i : goal.invariant-loop-i
invariant-loop-i g l =
    let t = g.C.Cut in
    let r = t.parts l.initial.cut in
    (t.parts l.cut ≡ r) × t.Taken r 0 l.i (session_of l.initial.t) (session_of l.t)
