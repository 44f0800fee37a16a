-- A floor whose rows are set, and the row that a placed cell goes to.
use Rattle.std.specs.Prelude.{◌≡◌, ◌+◌, ◌<◌, ◌≤◌, true, List}
use Rattle.std.specs.List.{ContainsAt as Has, AllByRecursion}
use Rattle.measure.specs.Costs.{Price}
use Rattle.row.specs.Records.{row_ahead}
use Rattle.row.specs.Sites.{row_sites}
use Rattle.row.specs.declared.Cell.{Cell}
use Rattle.row.specs.declared.Row.{Row}
use Rattle.floor.specs.Calls.{rise}
use Rattle.floor.specs.Refusals.{has_sites}
use Rattle.floor.specs.Seats.{cells_on, sites_on, floor_cost}
use Rattle.floor.specs.Tables.{Tables}
use Rattle.floor.specs.declared.Placing.{Placing}
use Rattle.floor.specs.declared.Seat.{Seat}

-- every row's sites are those that `set` gives its cells
abbrev pub Settled : Price → List Row → List Seat → Type 0
Settled price rows seats =
    AllByRecursion (λ row. sites_on row seats ≡ row_sites price row (cells_on row seats)) rows

-- where a placing went, and that no other row would have been better
pub record Least (price : Price) (t : Tables) (cell : Cell) (placing : Placing) : Type 0 where
  pub row : Row
  pub standing : Has t.rows row
  pub fits : has_sites t.seats cell row ≡ true
  pub line : placing.spot.line ≡ row.line
  pub rises : placing.rise ≡ rise price t.seats cell row
  pub least :
      AllByRecursion
      (λ other. has_sites t.seats cell other ≡ true → placing.rise ≤ rise price t.seats cell other)
      t.rows
  pub first :
      AllByRecursion
      (λ other. has_sites t.seats cell other ≡ true → row_ahead other row ≡ true
      → placing.rise < rise price t.seats cell other)
      t.rows

-- with these tables a floor costs the rise more than with those before
abbrev pub CostsMore : Price → Tables → Tables → Placing → Type 0
CostsMore price before after placing =
    floor_cost price after.seats ≡ floor_cost price before.seats + placing.rise
