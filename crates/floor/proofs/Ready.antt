-- What a floor that keeps its facts gives the functions that look at its rows.
use Rattle.std.proofs.Common.{◌≡◌, ◌<◌, ◌≤◌, true, List, length, None, refl, arith}
use Rattle.row.specs.Stack.{Ready}
use Rattle.row.specs.declared.Cell.{Cell}
use Rattle.row.specs.declared.Row.{Row}
use Rattle.row.proofs.Ranges.{RangedRow, ranged_row}
use Rattle.floor.specs.Formed.{formed}
use Rattle.floor.specs.Refusals.{has_sites, cell_refusal}
use Rattle.floor.specs.Seats.{seats_on, cells_on, joined}
use Rattle.floor.specs.declared.Seat.{Seat}
use Rattle.floor.proofs.Joining.{Placeable, placeable, joined_ready}
use Rattle.floor.proofs.Stretch.{on_few}
use Rattle.floor.proofs.Listed.{Standing, formed_listed, standing_passes}

module _ (rows : List Row) (seats : List Seat) (well : formed rows seats ≡ true) where
  -- a standing row has its ranges
  pub ranged_standing : (row : Row) → Standing rows row → RangedRow row
  ranged_standing row stands = ranged_row row (standing_passes rows (formed_listed rows seats well).well row stands)

  pub ready_standing : (cell : Cell) → Placeable seats cell → (row : Row) → Standing rows row → has_sites seats cell row ≡ true → Ready row (cells_on row (joined row cell seats))
  ready_standing cell can row stands fits = joined_ready row cell seats rows (formed_listed rows seats well) stands can fits

-- what is known of a standing row that a cell is offered to
pub record Offered (seats : List Seat) (cell : Cell) (row : Row) : Type 0 where
  pub few : length (seats_on row seats) < 1024
  pub some : row.left ≤ row.right
  pub ready : has_sites seats cell row ≡ true → Ready row (cells_on row (joined row cell seats))

pub offered : (rows : List Row) (seats : List Seat) (cell : Cell) → formed rows seats ≡ true → cell_refusal seats cell ≡ None → (row : Row) → Standing rows row → Offered seats cell row
offered rows seats cell well free row stands =
    let known = ranged_standing rows seats well row stands in
    let can = placeable seats cell free in
    let fewer = on_few row seats (seats_on row seats) refl in
    record {
      few = omega (arith, can.few);
      some = omega (arith, known.some);
      ready = ready_standing rows seats well cell can row stands;
    }
