-- `next` meets its contract: the section goes on behind a record that holds.
use Rattle.std.proofs.Common.{rules, refl}
use Rattle.vectors.proofs.Walking.{taken_of}
use Rattle.vectors.proofs.replay.Section.next.Goals as goal

pub returns-in-Some-clause-step : goal.returns-in-Some-clause-step
returns-in-Some-clause-step c = record {
  kind = c.in-Some-Record.kind;
  parts = c.in-Some-Record.short.parts;
  end = c.in-Some-Record.end;
  cuttings = c.in-Some.cuttings.count;
  taken = search (rules, taken_of);
  holds = c.in-Some.ensures;
  further = refl;
  counts = c.count.ensures;
}

pub returns-in-Some-Mark-clause-step : goal.returns-in-Some-Mark-clause-step
returns-in-Some-Mark-clause-step c = search rules
