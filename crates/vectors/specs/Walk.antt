-- A section of the list that has been replayed up to a place: each record holds, and is counted.
-- Assumes nothing.
use Rattle.std.specs.Prelude.{ℕ, ◌+◌, ◌≡◌, List, drop}
use Rattle.recorded.specs.declared.list.Kind.{Kind}
use Rattle.recorded.specs.declared.list.Kind.TheVariants.{Seal, Refused, Mac, Stream}
use Rattle.recorded.specs.declared.list.Record.{Record}
use Rattle.recorded.specs.Entries.{code, Taken}
use Rattle.recorded.specs.Records.{IsSealed, IsOpened, IsRefused, IsMaced, IsStreamed}
use Rattle.vectors.specs.declared.tally.Tally.{Tally}
use Rattle.vectors.specs.declared.replay.Section.{Section}
use Rattle.vectors.specs.Tallies.{none, counted}

-- what a record says, by its kind
abbrev pub Holds : Record → Kind → Type 0
Holds r Seal = IsSealed r × IsOpened r
Holds r Refused = IsRefused r
Holds r Mac = IsMaced r
Holds r Stream = IsStreamed r

-- the records of l from one place up to another, each of which holds, and their tally
pub data Walked (l : List ℕ) (from : ℕ) : ℕ → Tally → Type 0 where
  start : Walked l from from none
  step : {at : ℕ} {t : Tally} (kind : Kind) (r : Record) (end cuttings : ℕ) → Walked l from at t → Taken (drop at l) kind r end → Holds r kind
      → Walked l from (at + end) (counted t (code kind) cuttings)

-- a section after one record more, which stands at the start of what is left of the list
pub record Stepped (left : List ℕ) (s r : Section) : Type 0 where
  pub kind : Kind
  pub parts : Record
  pub end : ℕ
  pub cuttings : ℕ
  pub taken : Taken left kind parts end
  pub holds : Holds parts kind
  pub further : r.at ≡ s.at + end
  pub counts : r.tally ≡ counted s.tally (code kind) cuttings
