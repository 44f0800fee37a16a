-- What the calls of a run answer, and what they leave.
use Rattle.std.specs.Prelude.{ℕ, List, ◌++◌, length, codes, Some, None, Ok, Err, Option, Result, slice_get, if◌then◌else◌}
use Rattle.std.specs.Option.{option_map}
use Rattle.measure.specs.Costs.{Price}
use Rattle.floor.specs.Reasons.{reason}
use Rattle.floor.specs.Refusals as refusals
use Rattle.floor.specs.Seats.{floor_cost}
use Rattle.floor.specs.Tables.{Tables}
use Rattle.floor.specs.declared.Refusal.TheVariants as refusal
use Rattle.floor.specs.declared.Seat.{Seat}
use Rattle.lines.specs.Texts.{cell_text, cost_text}
use Rattle.lines.specs.Writes as writes
use Rattle.lines.specs.Writes.{short_buffer, takes_lines, with_text}
use Rattle.lines.specs.declared.short_buffer.ShortBuffer as short
use Rattle.measure.specs.declared.Measure.{Ghosts}
use Rattle.history.specs.Lawful.{Lawful}
use Rattle.history.specs.declared.call.Event.{Event}
use Rattle.run.specs.State.{State, floor_of, price_in, state}
use Rattle.run.specs.Turns.{Turn, step_events, turn}
use Rattle.run.specs.declared.run.Run.{Run}
use Rattle.run.specs.declared.run.Step.{Step}
use Rattle.run.specs.declared.run.looks.NoLine.{NoLine}
use Rattle.run.specs.declared.run.looks.NoLine.TheVariants.{ShortBuffer, NotStanding}

-- a step's line by its length, and the run's fault if there is one
abbrev pub step_of : Turn → Step
step_of t = record { length = length t.said.line; fault = t.said.fault }

-- the state after a step; the same where nothing is left
abbrev pub state_left : State → Option Turn → State
state_left s None = s
state_left s (Some t) = t.after

-- the buffer after a step; the same where nothing is left
abbrev pub buffer_left : List ℕ → Option Turn → List ℕ
buffer_left buffer None = buffer
buffer_left buffer (Some t) = with_text t.said.line buffer

module _ (price : Price) where
  -- what a step answers: none where nothing is left
  abbrev pub step_answer : State → List ℕ → Result (Option Step) short.ShortBuffer
  step_answer s buffer =
      if takes_lines buffer then Ok (option_map step_of (turn price s)) else Err short_buffer

  -- the state after it
  abbrev pub step_state : State → List ℕ → State
  step_state s buffer = if takes_lines buffer then state_left s (turn price s) else s

  -- the buffer after it
  abbrev pub step_buffer : State → List ℕ → List ℕ
  step_buffer s buffer = if takes_lines buffer then buffer_left buffer (turn price s) else buffer

-- whatever history the floor of a run has, it then has that history with what came of a step
abbrev pub ExtendsHistory : {M : Type 0} {m : Ghosts M} → Run M m → Run M m → Type 0
ExtendsHistory old new =
    (history : List Event) → Lawful history (floor_of old)
    → Lawful (step_events (price_in old) (state old) ++ history) (floor_of new)

-- the number of the refusal of a line
abbrev pub no_line_number : NoLine → ℕ
no_line_number (ShortBuffer refused) = writes.number_of refused
no_line_number NotStanding = refusals.number_of refusal.NotStanding

-- its words
abbrev pub no_line_words : NoLine → List ℕ
no_line_words (ShortBuffer refused) = codes "the line buffer is shorter than 320 bytes"
no_line_words NotStanding = reason refusal.NotStanding

-- the line of a seat: its cell's number, its row's line, and its site
abbrev pub seat_text : Seat → List ℕ
seat_text s = cell_text s.cell.number s.row.line s.site

-- the length of the line of a seat, if there is one
abbrev pub seat_answer : Option Seat → Result ℕ NoLine
seat_answer None = Err NotStanding
seat_answer (Some s) = Ok (length (seat_text s))

-- the buffer with the line of a seat, if there is one
abbrev pub seat_buffer : List ℕ → Option Seat → List ℕ
seat_buffer buffer None = buffer
seat_buffer buffer (Some s) = with_text (seat_text s) buffer

-- what is answered for the line of the k-th standing cell: the buffer is checked first
abbrev pub cell_answer : Tables → ℕ → List ℕ → Result ℕ NoLine
cell_answer tables k buffer =
    if takes_lines buffer
    then seat_answer (slice_get tables.seats k)
    else Err (ShortBuffer short_buffer)

-- the buffer then
abbrev pub cell_buffer : Tables → ℕ → List ℕ → List ℕ
cell_buffer tables k buffer =
    if takes_lines buffer then seat_buffer buffer (slice_get tables.seats k) else buffer

-- the line of what all standing cells cost
abbrev pub costs_text : Price → Tables → List ℕ
costs_text price tables = cost_text (floor_cost price tables.seats)
