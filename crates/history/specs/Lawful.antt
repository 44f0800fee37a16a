-- That a floor has a history: its answers obey the law for it, and nothing hides in it.
use Rattle.std.specs.Prelude.{◌≡◌, List, map, IsPermutation}
use Rattle.measure.specs.declared.Measure.{Ghosts}
use Rattle.table.specs.Order.{Ordered}
use Rattle.row.specs.Records.{row_ahead}
use Rattle.floor.specs.Calls.{where_is}
use Rattle.floor.specs.Seats.{floor_cost, stands_ahead}
use Rattle.floor.specs.State.{price_of, rows_of, seats_of, tables_of}
use Rattle.floor.specs.declared.Seat.{Seat}
use Rattle.floor.specs.declared.floor.Floor.{Floor}
use Rattle.history.specs.Histories.{Standing, rows_in, standing_in}
use Rattle.history.specs.Law.{Law}
use Rattle.history.specs.Settings.{Where, site_in, cost}
use Rattle.history.specs.declared.call.Event.{Event}

-- the seat of a standing cell: on its row, at the site that where_is answers for its number
abbrev pub seat_at : Where → Standing → Seat
seat_at where_is k =
    record { cell = k.cell; row = k.row; site = site_in where_is k.cell.number }

-- A floor has this history, the latest event first: its answers obey the law, and its cost is the
-- sum over what stands. Its rows are those that stand, in row order. Its seats are the cells that
-- stand, each on its row and at the site that where_is answers, in row order and then by site.
pub record Lawful {M : Type 0} {m : Ghosts M} (history : List Event) (floor : Floor M m)
    : Type 0 where
  pub law : Law (price_of floor) history (where_is (tables_of floor))
  pub costs : floor_cost (price_of floor) (seats_of floor)
      ≡ cost (price_of floor) (standing_in history) (site_in (where_is (tables_of floor)))
  pub rows : IsPermutation (rows_in history) (rows_of floor)
  pub rows_in_order : Ordered row_ahead (rows_of floor)
  pub seats :
      IsPermutation
      (map (seat_at (where_is (tables_of floor))) (standing_in history))
      (seats_of floor)
  pub seats_in_order : Ordered stands_ahead (seats_of floor)
