-- The law of a job: what is printed of it, and the floor that is left.
use Rattle.std.specs.Prelude.{◌≡◌, ℕ, List, map, reverse, Some, None, Ok, Option, Result, Vec, IsErr}
use Rattle.std.specs.declared.alloc.Global.{Global}
use Rattle.floor.specs.State.{measure_of, price_of, tables_of}
use Rattle.floor.specs.declared.floor.Floor.{Floor}
use Rattle.history.specs.Histories.{call_of}
use Rattle.history.specs.Lawful.{Lawful}
use Rattle.history.specs.declared.call.Event.{Event}
use Rattle.job.specs.Opening.{opening}
use Rattle.job.specs.Records.{records_of}
use Rattle.lines.specs.Appended.{Appends}
use Rattle.measure.specs.declared.Measure.{Ghosts}
use Rattle.measure.specs.declared.name.MeasureName.{MeasureName}
use Rattle.run.specs.Texts.{calls_in, lines_with}

-- The events whose lines are printed, one for each record in the job's order, are those of the
-- calls that the records ask for, and they are the history of the floor that is left; so it obeys
-- the law, and the lines at the end tell of it.
pub record JobLaw {E : Type 0} {m : Ghosts MeasureName} (job : List ℕ) (before : Vec ℕ Global)
    (added : Result (Unit {0}) E) (after : Vec ℕ Global) (floor : Floor MeasureName m) : Type 0 where
  pub events : List Event
  pub printed :
      Appends before added (lines_with (price_of floor) job events (tables_of floor)) after
  pub calls : map call_of events ≡ calls_in (records_of job)
  pub lawful : Lawful (reverse events) floor
  pub measure : opening job ≡ Ok (measure_of floor)

-- what is left of a job: no floor where it cannot be opened, and else one that obeys the law
abbrev pub AtEnd : {E : Type 0} {m : Ghosts MeasureName} → List ℕ → Vec ℕ Global
    → Result (Unit {0}) E → Vec ℕ Global → Option (Floor MeasureName m) → Type 0
AtEnd job before added after None = IsErr (opening job)
AtEnd job before added after (Some floor) = JobLaw job before added after floor
