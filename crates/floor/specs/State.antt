-- What a floor holds: its rows, its seats and its measure, and the price that its measure gives.
use Rattle.std.specs.Prelude.{List}
use Rattle.measure.specs.Costs.{Price}
use Rattle.measure.specs.declared.Measure.{Ghosts}
use Rattle.row.specs.declared.Row.{Row}
use Rattle.floor.specs.Tables.{Tables}
use Rattle.floor.specs.declared.Seat.{Seat}
use Rattle.floor.specs.declared.floor.Floor.{Floor}

module _ {M : Type 0} {m : Ghosts M} where
  -- the rows, in row order
  abbrev pub rows_of : Floor M m → List Row
  rows_of floor = floor.rows.items

  -- the seats, in row order and then in wanted order
  abbrev pub seats_of : Floor M m → List Seat
  seats_of floor = floor.seats.items.items

  -- both tables
  abbrev pub tables_of : Floor M m → Tables
  tables_of floor = record { rows = rows_of floor; seats = seats_of floor }

  -- the measure
  abbrev pub measure_of : Floor M m → M
  measure_of floor = floor.measure

  -- what a move costs by it
  abbrev pub price_of : Floor M m → Price
  price_of floor = m.price (measure_of floor)
