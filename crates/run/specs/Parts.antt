-- What only the private parts of a run cite: what is said inside a step, and what is left of a job.
use Rattle.std.specs.Prelude.{ℕ, List, ◌++◌, Some, None, Option}
use Rattle.floor.specs.Tables.{Tables}
use Rattle.history.specs.Events.{events_of, tables_after}
use Rattle.history.specs.declared.call.Event.{Event}
use Rattle.job.specs.declared.record.Fault as unread
use Rattle.lines.specs.Texts.{text}
use Rattle.measure.specs.Costs.{Price}
use Rattle.run.specs.State.{State}
use Rattle.run.specs.Texts.{calls_in, fault_line, record_lines}
use Rattle.run.specs.Turns as turns
use Rattle.run.specs.Turns.{Turn}
use Rattle.run.specs.declared.run.Said.{Said}

-- what is said by the program, with its line as text
abbrev pub as_said : Said → turns.Said
as_said said = record { line = text said.line; fault = said.fault }

-- what a step says
abbrev pub said_of : Turn → turns.Said
said_of t = t.said

-- the fault that ends what is left, or has ended it
abbrev pub last_fault : Option unread.Fault → Option unread.Fault → Option unread.Fault
last_fault told None = told
last_fault told (Some fault) = Some fault

abbrev pub rest_fault : State → Option unread.Fault
rest_fault s = last_fault s.told s.fault

module _ (price : Price) where
  -- what comes of the calls of the records that are left
  abbrev pub rest_events : State → List Event
  rest_events s = events_of price s.tables (calls_in s.records)

  -- the tables after them
  abbrev pub rest_tables : State → Tables
  rest_tables s = tables_after price s.tables (calls_in s.records)

  -- the lines of what is left
  abbrev pub rest_lines : State → List ℕ
  rest_lines s = record_lines s.index s.records (rest_events s) ++ fault_line s.fault
