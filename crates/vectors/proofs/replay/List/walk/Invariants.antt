use Rattle.std.proofs.Common.{length, ◌-◌, ◌≤◌}
use Rattle.vectors.specs.Tallies.{Small}
use Rattle.vectors.specs.Walk.{Walked}
use Rattle.vectors.proofs.replay.List.walk.Given as goal

-- the section's place is l.section.0, and its tally l.section.1.0
abbrev pub invariant-loop-further : goal.invariant-loop-further
invariant-loop-further l = record {
  walked : Walked l.self.bytes.now l.from l.section.0 l.section.1.0;
  small : Small l.section.1.0 l.section.0;
  inside : l.section.0 ≤ length l.self.bytes.now;
}

abbrev pub decreases-loop-further : goal.decreases-loop-further
decreases-loop-further l = length l.self.bytes.now - l.section.0
