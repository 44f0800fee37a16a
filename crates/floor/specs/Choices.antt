-- A cell tried on a row, and the row that is chosen for it.
use Rattle.std.specs.Prelude.{ℕ, List, Some, None, Option, nat_le, if◌then◌else◌}
use Rattle.std.specs.Option.{option_map}
use Rattle.measure.specs.Costs.{Price}
use Rattle.row.specs.Sites.{row_sites}
use Rattle.row.specs.declared.Cell.{Cell}
use Rattle.row.specs.declared.Row.{Row}
use Rattle.floor.specs.Calls.{chosen, placing_on, seated, site_then}
use Rattle.floor.specs.Refusals.{has_sites}
use Rattle.floor.specs.Seats.{cells_on, joined, row_cost}
use Rattle.floor.specs.Tables.{Tables}
use Rattle.floor.specs.declared.Seat.{Seat}
use Rattle.floor.specs.declared.choice.Choice.{Choice}
use Rattle.floor.specs.declared.offered.Trial.{Trial}

-- the sites of a row's cells with one more
abbrev pub sites_with : Price → List Seat → Cell → Row → List ℕ
sites_with price seats cell row = row_sites price row (cells_on row (joined row cell seats))

-- what the sites of a row cost once it is set with a cell more, and the cell's site then
abbrev pub trial_on : Price → List Seat → Cell → Row → Trial
trial_on price seats cell row =
    let after = seated price seats cell row in
    record { cost = row_cost price row after; site = site_then cell.number after }

-- a row as a choice for a cell
abbrev pub choice_of : Price → List Seat → Cell → Row → Choice
choice_of price seats cell row = record { row = row; placing = placing_on price seats cell row }

-- the same, where the row has sites for the cell
abbrev pub choice_on : Price → List Seat → Cell → Row → Option Choice
choice_on price seats cell row =
    if has_sites seats cell row then Some (choice_of price seats cell row) else None

-- the better of two choices, where there are such: the first, unless the second rises less
abbrev pub better_choice : Option Choice → Option Choice → Option Choice
better_choice best None = best
better_choice None (Some other) = Some other
better_choice (Some best) (Some other) =
    if nat_le best.placing.rise other.placing.rise then Some best else Some other

-- the row that is chosen for a cell, as a choice
abbrev pub best_choice : Price → Tables → Cell → Option Choice
best_choice price t cell =
    option_map (choice_of price t.seats cell) (chosen price t.seats cell t.rows)
