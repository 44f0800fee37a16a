-- Where the seats of a row are in the table.
use Rattle.std.specs.Prelude.{◌≡◌, ℕ, ◌≤◌, false, List, length, take}
use Rattle.std.specs.List.{between, AllByRecursion}
use Rattle.std.specs.declared.ops.Range.{Range}
use Rattle.row.specs.declared.Row.{Row}
use Rattle.floor.specs.Seats.{on_row, seats_on}
use Rattle.floor.specs.declared.Seat.{Seat}

-- a stretch of the table that is the seats of a row, and no seat before it is one
pub record Spanned (row : Row) (seats : List Seat) (r : Range ℕ) : Type 0 where
  pub first : r.start ≤ r.end
  pub bound : r.end ≤ length seats
  pub none_before : AllByRecursion (λ s. on_row row s ≡ false) (take r.start seats)
  pub seats_are : between r.start r.end seats ≡ seats_on row seats
