-- What a history tells, by its calls and their answers alone. The latest event comes first.
use Rattle.std.specs.Prelude.{Bool, not, if◌then◌else◌, ◌&&◌, List, [], ◌∷◌, filter, Ok, Err, Option, ◌==◌, nat_eq, nat_le, nat_lt}
use Rattle.row.specs.Checked.{checked}
use Rattle.row.specs.declared.Cell.{Cell}
use Rattle.row.specs.declared.Row.{Row}
use Rattle.row.specs.declared.Spot.{Spot}
use Rattle.floor.specs.Refusals.{add_refusal, place_refusal_by, withdraw_refusal_by}
use Rattle.floor.specs.declared.Placing.{Placing}
use Rattle.floor.specs.declared.Refusal.{Refusal}
use Rattle.history.specs.declared.call.Call.{Call}
use Rattle.history.specs.declared.call.Call.TheVariants.{AddRow, Place, Try, Withdraw}
use Rattle.history.specs.declared.call.Event.{Event}
use Rattle.history.specs.declared.call.Event.TheVariants.{Added, Placed, Tried, Withdrawn}

-- the call of an event
abbrev pub call_of : Event → Call
call_of (Added row answer) = AddRow row
call_of (Placed cell answer) = Place cell
call_of (Tried cell answer) = Try cell
call_of (Withdrawn number answer) = Withdraw number

-- the refusal that an event's call was answered with, if it was refused
abbrev pub refused : Event → Option Refusal
refused (Added row answer) = checked answer
refused (Placed cell answer) = checked answer
refused (Tried cell answer) = checked answer
refused (Withdrawn number answer) = checked answer

-- a cell that stands, and its row
pub record Standing : Type 0 where
  pub cell : Cell
  pub row : Row

abbrev pub cell_of : Standing → Cell
cell_of k = k.cell

abbrev pub row_of : Standing → Row
row_of k = k.row

-- whether a row lies on a line and has a site
abbrev pub has_spot : Spot → Row → Bool
has_spot spot row =
    row.line == spot.line && (nat_le row.left spot.site && nat_lt spot.site row.right)

-- the row that lies on a line and has a site; where none does, one that has no sites, so that no
-- setting of a cell on it is legal
abbrev pub row_at : List Row → Spot → Row
row_at [] spot = record { line = 0; left = 0; right = 0 }
row_at (row ∷ rows) spot = if has_spot spot row then row else row_at rows spot

-- the cells with one more, on a row
abbrev pub with_cell : Cell → Row → List Standing → List Standing
with_cell cell row standing = record { cell = cell; row = row } ∷ standing

-- the cells with one more, on the row on which a placing set it
abbrev pub with_placed : List Row → List Standing → Cell → Placing → List Standing
with_placed rows standing cell placing = with_cell cell (row_at rows placing.spot) standing

-- the rows after an event: one more where a row was added and granted
abbrev pub rows_after : Event → List Row → List Row
rows_after (Added row (Ok granted)) rows = row ∷ rows
rows_after (Added row (Err refusal)) rows = rows
rows_after (Placed cell answer) rows = rows
rows_after (Tried cell answer) rows = rows
rows_after (Withdrawn number answer) rows = rows

-- what stands after an event: one more where a placing was granted, on the row that was answered;
-- one fewer where a withdrawal was
abbrev pub standing_after : Event → List Row → List Standing → List Standing
standing_after (Added row answer) rows standing = standing
standing_after (Placed cell (Ok placing)) rows standing = with_placed rows standing cell placing
standing_after (Placed cell (Err refusal)) rows standing = standing
standing_after (Tried cell answer) rows standing = standing
standing_after (Withdrawn number (Ok spot)) rows standing =
    filter (λ k. not (nat_eq k.cell.number number)) standing
standing_after (Withdrawn number (Err refusal)) rows standing = standing

-- the rows that stand after a history
abbrev pub rows_in : List Event → List Row
rows_in [] = []
rows_in (event ∷ earlier) = rows_after event (rows_in earlier)

-- the cells that stand after a history
abbrev pub standing_in : List Event → List Standing
standing_in [] = []
standing_in (event ∷ earlier) = standing_after event (rows_in earlier) (standing_in earlier)

-- what the checks decide on a call, from what stands before it: the refusal of the first that
-- fails, or none
abbrev pub decide : List Row → List Standing → Call → Option Refusal
decide rows standing (AddRow row) = add_refusal rows row
decide rows standing (Place cell) = place_refusal_by cell_of row_of rows standing cell
decide rows standing (Try cell) = place_refusal_by cell_of row_of rows standing cell
decide rows standing (Withdraw number) = withdraw_refusal_by cell_of row_of standing number
