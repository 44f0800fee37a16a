-- What a whole job says: a line for each record, the line of the fault that ends it, and the lines
-- of what stands then.
use Rattle.std.specs.Prelude.{ℕ, ◌+◌, List, [], ◌∷◌, ◌++◌, map, Some, None, Ok, Err, Option, Result}
use Rattle.std.specs.List.{flat_map}
use Rattle.floor.specs.Tables.{Tables, no_tables}
use Rattle.floor.specs.declared.Seat.{Seat}
use Rattle.history.specs.Events.{events_of, tables_after}
use Rattle.history.specs.declared.call.Call.{Call}
use Rattle.history.specs.declared.call.Event.{Event}
use Rattle.job.specs.Format.{Content}
use Rattle.job.specs.Opening.{opening}
use Rattle.job.specs.Records.{records_of, fault_of}
use Rattle.job.specs.declared.record.Cause.{Cause}
use Rattle.job.specs.declared.record.Fault.{Fault}
use Rattle.measure.specs.Costs.{Price}
use Rattle.measure.specs.Names.{named_price}
use Rattle.measure.specs.declared.name.MeasureName.{MeasureName}
use Rattle.run.specs.Steps.{costs_text, seat_text}
use Rattle.run.specs.Turns.{call_in, event_said, name_in, unread_said}

-- the calls that records ask for
abbrev pub calls_in : List Content → List Call
calls_in records = map call_in records

-- a line for each record, from this index on, by what came of their calls
abbrev pub record_lines : ℕ → List Content → List Event → List ℕ
record_lines index [] events = []
record_lines index (c ∷ records) [] = []
record_lines index (c ∷ records) (event ∷ events) =
    (event_said index (name_in c) event).line ++ record_lines (index + 1) records events

-- the line of the fault that ends a job, if one does
abbrev pub fault_line : Option Fault → List ℕ
fault_line None = []
fault_line (Some fault) = (unread_said fault).line

-- a line for each seat
abbrev pub cell_lines : List Seat → List ℕ
cell_lines seats = flat_map seat_text seats

-- the lines of what stands: a line for each cell, and one for what they cost
abbrev pub end_lines : Price → Tables → List ℕ
end_lines price tables = cell_lines tables.seats ++ costs_text price tables

-- what a job says with these events, at whose end a floor holds these tables
abbrev pub lines_with : Price → List ℕ → List Event → Tables → List ℕ
lines_with price job events tables =
    (record_lines 0 (records_of job) events ++ fault_line (fault_of job)) ++ end_lines price tables

-- what a job says whose opening is answered so: its calls are made on a floor with nothing on it
abbrev pub opened_text : List ℕ → Result MeasureName Cause → List ℕ
opened_text job (Ok measure) =
    let price = named_price measure in
    let calls = calls_in (records_of job) in
    lines_with price job (events_of price no_tables calls) (tables_after price no_tables calls)
opened_text job (Err cause) = fault_line (fault_of job)

abbrev pub job_text : List ℕ → List ℕ
job_text job = opened_text job (opening job)
