use Rattle.std.proofs.Common.{◌≡◌, ◌≤◌, ◌+◌, ◌*◌}
use Rattle.cuttings.proofs.cut.everywhere.Given as goal

-- the cuttings so far are the one after every byte, and those of the first i places
abbrev pub invariant-loop-i : goal.invariant-loop-i
invariant-loop-i g l =
    let t = g.C.Cut in
    let n = t.size (t.parts l.initial.cut) in
    (t.parts l.cut ≡ t.parts l.initial.cut) × (l.count ≤ 1 + 66 * l.i) × (2 * l.count + l.i * l.i ≡ 2 + l.i * (2 * n + 3))
