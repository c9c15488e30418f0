-- What a call left, as the definitions have it: what it handed back beside what its lent buffer then holds.
-- Assumes nothing.
use Rattle.std.specs.Prelude.{List, ℕ, Result, Ok, Err}
use Rattle.answers.specs.declared.Refusal.{Refusal}
use Rattle.answers.specs.Refusals.{number}
use Rattle.hub_record.specs.declared.part.Part.{Part}
use Rattle.hub_record.specs.Record.{RecordLeft, refused_record}
use Rattle.hub_record.specs.Reply.{Replied}

abbrev pub record_left : Result Part Refusal → List ℕ → RecordLeft
record_left (Ok p) input = record { answer = 0; start = p.start; count = p.count; input = input }
record_left (Err e) input = refused_record input (number e)

abbrev pub replied : Part → List ℕ → Replied
replied p buf = record { start = p.start; count = p.count; buf = buf }
