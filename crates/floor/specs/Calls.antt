-- The calls of a floor: each is one function from price, tables and arguments to its outcome.
use Rattle.std.specs.Prelude.{ℕ, ◌+◌, ◌-◌, not, if◌then◌else◌, List, [], ◌∷◌, filter, Some, None, Ok, Err, Option, Result, nat_eq, nat_le}
use Rattle.std.specs.List.{find, insert}
use Rattle.std.specs.Option.{option_map, unwrap_or, ok_or}
use Rattle.measure.specs.Costs.{Price}
use Rattle.row.specs.Costs.{line_cost}
use Rattle.row.specs.Records.{row_ahead}
use Rattle.row.specs.declared.Cell.{Cell}
use Rattle.row.specs.declared.Row.{Row}
use Rattle.row.specs.declared.Spot.{Spot}
use Rattle.table.specs.Order.{rank_of}
use Rattle.floor.specs.Seats.{site_of, joined, settled, row_cost}
use Rattle.floor.specs.Refusals.{add_refusal, cell_refusal, has_sites}
use Rattle.floor.specs.Tables.{Tables, Outcome}
use Rattle.floor.specs.declared.Placing.{Placing}
use Rattle.floor.specs.declared.Refusal.{Refusal}
use Rattle.floor.specs.declared.Refusal.TheVariants.{NoRoom, NotStanding}
use Rattle.floor.specs.declared.Seat.{Seat}

-- a call that is refused: the floor holds what it held
abbrev pub refusal_outcome : {X : Type 0} → Refusal → Tables → Outcome X
refusal_outcome refusal tables = record { answer = Err refusal; tables = tables }

-- the outcome of a call, unless a check refuses it
abbrev pub outcome_unless : {X : Type 0} → Option Refusal → Tables → Outcome X → Outcome X
outcome_unless None tables outcome = outcome
outcome_unless (Some refusal) tables outcome = refusal_outcome refusal tables

-- the rows with one more, in its place
abbrev pub with_row : List Row → Row → List Row
with_row rows row = insert rows (rank_of row_ahead rows row) row

-- adding a row: it joins the rows, and no cell moves
abbrev pub add_row : Tables → Row → Outcome (Unit {0})
add_row tables row =
    outcome_unless (add_refusal tables.rows row) tables
    (record {
      answer = Ok tt;
      tables = record { rows = with_row tables.rows row; seats = tables.seats };
    })

-- a standing cell's seat, by its number
abbrev pub seat_of : ℕ → List Seat → Option Seat
seat_of number = find (λ s. nat_eq s.cell.number number)

-- where a seat is
abbrev pub spot : Seat → Spot
spot s = record { line = s.row.line; site = s.site }

-- where the cell of a number stands
abbrev pub where_is : Tables → ℕ → Result Spot Refusal
where_is tables number = ok_or (option_map spot (seat_of number tables.seats)) NotStanding

-- the seats with a cell on a row, and that row set
abbrev pub seated : Price → List Seat → Cell → Row → List Seat
seated price seats cell row = settled price row (joined row cell seats)

-- the rise of a row: the cost of its sites set with the new cell, less their cost now,
-- plus the cost of its line
abbrev pub rise : Price → List Seat → Cell → Row → ℕ
rise price seats cell row =
    (row_cost price row (seated price seats cell row) - row_cost price row seats)
    + line_cost price cell row.line

-- the better of a row and what is chosen of the rows after it: the row, unless that rises less
abbrev pub better : (Row → ℕ) → Row → Option Row → Option Row
better rises row None = Some row
better rises row (Some other) = if nat_le (rises row) (rises other) then Some row else Some other

-- the row of least rise among those that have sites; of equal ones the first
abbrev pub chosen : Price → List Seat → Cell → List Row → Option Row
chosen price seats cell [] = None
chosen price seats cell (row ∷ rows) =
    let later = chosen price seats cell rows in
    if has_sites seats cell row then better (rise price seats cell) row later else later

-- the site of a number's seat
abbrev pub site_then : ℕ → List Seat → ℕ
site_then number seats = unwrap_or (option_map site_of (seat_of number seats)) 0

-- where a cell stands once it is placed on a row, and the row's rise
abbrev pub placing_on : Price → List Seat → Cell → Row → Placing
placing_on price seats cell row = record {
  spot = record { line = row.line; site = site_then cell.number (seated price seats cell row) };
  rise = rise price seats cell row;
}

-- placing a cell on the row that is chosen, if one is
abbrev pub outcome_on : Price → Tables → Cell → Option Row → Outcome Placing
outcome_on price tables cell None = refusal_outcome NoRoom tables
outcome_on price tables cell (Some row) = record {
  answer = Ok (placing_on price tables.seats cell row);
  tables = record { rows = tables.rows; seats = seated price tables.seats cell row };
}

-- placing a cell: it goes to the row of least rise, which is set
abbrev pub place : Price → Tables → Cell → Outcome Placing
place price tables cell =
    outcome_unless (cell_refusal tables.seats cell) tables
    (outcome_on price tables cell (chosen price tables.seats cell tables.rows))

-- trying a cell: the answer of placing it, and nothing changes
abbrev pub try_place : Price → Tables → Cell → Outcome Placing
try_place price tables cell = record { answer = (place price tables cell).answer; tables = tables }

-- the seats without that of a number
abbrev pub without : ℕ → List Seat → List Seat
without number seats = filter (λ s. not (nat_eq s.cell.number number)) seats

-- withdrawing what is found of a number: it is taken out, and its row is set again
abbrev pub outcome_without : Price → Tables → ℕ → Option Seat → Outcome Spot
outcome_without price tables number None = refusal_outcome NotStanding tables
outcome_without price tables number (Some s) = record {
  answer = Ok (spot s);
  tables = record {
    rows = tables.rows;
    seats = settled price s.row (without number tables.seats);
  };
}

-- withdrawing the cell of a number
abbrev pub withdraw : Price → Tables → ℕ → Outcome Spot
withdraw price tables number = outcome_without price tables number (seat_of number tables.seats)
