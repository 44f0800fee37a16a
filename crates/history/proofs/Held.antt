-- The two views of a floor: its tables, and what its history says stands.
use Rattle.std.proofs.Common.{◌≡◌, ◌≤◌, true, List, length, map}
use mathlib.Core.List.{Permᴰ}
use Rattle.measure.specs.Costs.{Price}
use Rattle.floor.specs.Formed.{formed}
use Rattle.floor.specs.Settled.{Settled}
use Rattle.floor.specs.Tables.{Tables}
use Rattle.floor.specs.declared.Seat.{Seat}
use Rattle.history.specs.Histories.{Standing, rows_in, standing_in}
use Rattle.history.specs.declared.call.Event.{Event}

-- a seat as a standing cell
abbrev pub standing_of : Seat → Standing
standing_of s = record { cell = s.cell; row = s.row }

-- the tables hold what a history says stands, in whatever order
pub record Held (history : List Event) (t : Tables) : Type 0 where
  pub rows_are : Permᴰ (rows_in history) t.rows
  pub cells_are : Permᴰ (standing_in history) (map standing_of t.seats)

-- what a floor's type tells of its tables
pub record Known (f : Price) (t : Tables) : Type 0 where
  pub well : formed t.rows t.seats ≡ true
  pub few : length t.seats ≤ 1024
  pub set : Settled f t.rows t.seats
