-- What one step of a run says, and what it leaves.
use Rattle.std.specs.Prelude.{ℕ, ◌+◌, List, [], ◌∷◌, Some, None, Ok, Err, Option, Result}
use Rattle.std.specs.Option.{option_map}
use Rattle.measure.specs.Costs.{Price}
use Rattle.floor.specs.declared.Placing.{Placing}
use Rattle.floor.specs.declared.Refusal.{Refusal}
use Rattle.history.specs.Events.{event_of, tables_then}
use Rattle.history.specs.declared.call.Call.{Call}
use Rattle.history.specs.declared.call.Call.TheVariants.{AddRow, Place, Try, Withdraw}
use Rattle.history.specs.declared.call.Event.{Event}
use Rattle.history.specs.declared.call.Event.TheVariants.{Added, Placed, Tried, Withdrawn}
use Rattle.job.specs.Format.{Content}
use Rattle.job.specs.Format.Content.{row, place, withdraw, try}
use Rattle.job.specs.declared.record.Fault as unread
use Rattle.lines.specs.Texts.{text, granted_text, seated_text}
use Rattle.lines.specs.declared.Line.{Line}
use Rattle.run.specs.Faults.{fault_text}
use Rattle.run.specs.State.{State}
use Rattle.run.specs.declared.fault.Fault.{Fault}
use Rattle.run.specs.declared.fault.Fault.TheVariants.{Unread, Refused}

-- a line, and the run's fault if there is one
pub record Said : Type 0 where
  pub line : List ℕ
  pub fault : Option Fault

-- what is said of a record that was carried out
abbrev pub granted : List ℕ → Said
granted line = record { line = line; fault = None }

-- what is said of a record with this index, and its name if it has one, that was not carried out
abbrev pub faulted : ℕ → Option (List ℕ) → Fault → Said
faulted index name fault = record { line = fault_text index name fault; fault = Some fault }

-- the name in a record, if it has one
abbrev pub name_in : Content → Option (List ℕ)
name_in (row r) = None
name_in (place c) = option_map (λ name. name.bytes) c.name
name_in (withdraw number) = None
name_in (try c) = option_map (λ name. name.bytes) c.name

-- what is said of a record that was carried out, with its line, or was not
abbrev pub told : ℕ → Option (List ℕ) → Result Line Fault → Said
told index name (Ok line) = granted (text line)
told index name (Err fault) = faulted index name fault

-- the call that a record asks for
abbrev pub call_in : Content → Call
call_in (row r) = AddRow r
call_in (place c) = Place c.cell
call_in (withdraw number) = Withdraw number
call_in (try c) = Try c.cell

-- what an answer says of a record, by the line of what was granted
abbrev pub answer_said : {X : Type 0} → ℕ → Option (List ℕ) → (X → List ℕ) → Result X Refusal → Said
answer_said index name line (Ok value) = granted (line value)
answer_said index name line (Err refusal) = faulted index name (Refused refusal)

-- the line of a granted placing or try
abbrev pub placing_text : ℕ → Option (List ℕ) → Placing → List ℕ
placing_text index name placing =
    seated_text index placing.spot.line placing.spot.site placing.rise name

-- what an event says of a record with this index and name
abbrev pub event_said : ℕ → Option (List ℕ) → Event → Said
event_said index name (Added added answer) =
    answer_said index name (λ _. granted_text index name) answer
event_said index name (Placed cell answer) = answer_said index name (placing_text index name) answer
event_said index name (Tried cell answer) = answer_said index name (placing_text index name) answer
event_said index name (Withdrawn number answer) =
    answer_said index name (λ _. granted_text index name) answer

-- what is said of a record that cannot be read
abbrev pub unread_said : unread.Fault → Said
unread_said fault = faulted fault.index None (Unread fault)

-- a step: what it says, and what is left after it
pub record Turn : Type 0 where
  pub said : Said
  pub after : State

module _ (price : Price) where
  -- what comes of a record's call on a floor with the run's tables
  abbrev pub event_in : State → Content → Event
  event_in s c = event_of price s.tables (call_in c)

  -- the step of a record: its call is made
  abbrev pub record_turn : State → Content → List Content → Turn
  record_turn s c records = record {
    said = event_said s.index (name_in c) (event_in s c);
    after = record {
      index = s.index + 1;
      records = records;
      fault = s.fault;
      told = s.told;
      tables = tables_then price s.tables (call_in c);
    };
  }

  -- the step of the fault that ends the job: the floor stays
  abbrev pub fault_turn : State → unread.Fault → Turn
  fault_turn s fault = record {
    said = unread_said fault;
    after = record {
      index = s.index;
      records = [];
      fault = None;
      told = Some fault;
      tables = s.tables;
    };
  }

  -- the step by what is left: of the first record, else of the fault, else none
  abbrev pub turn_by : State → List Content → Option unread.Fault → Option Turn
  turn_by s (c ∷ records) fault = Some (record_turn s c records)
  turn_by s [] (Some fault) = Some (fault_turn s fault)
  turn_by s [] None = None

  abbrev pub turn : State → Option Turn
  turn s = turn_by s s.records s.fault

  -- what comes of the calls of a step: one event where these records are left, and none where none is
  abbrev pub turn_events : State → List Content → List Event
  turn_events s [] = []
  turn_events s (c ∷ records) = event_in s c ∷ []

  abbrev pub step_events : State → List Event
  step_events s = turn_events s s.records
