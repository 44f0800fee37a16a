-- The rise of a row, as the program adds it up.
use Rattle.std.proofs.Common.{◌≡◌, ℕ, ◌*◌, ◌^◌, ◌≤◌, List, [], ◌∷◌, length, ap, ◌∙◌, arith}
use Rattle.std.specs.List.{AllByRecursion}
use Rattle.measure.specs.Costs.{Fair, Price, cost_of}
use Rattle.row.specs.Costs.{sites_cost}
use Rattle.row.specs.Sites.{row_sites}
use Rattle.row.specs.Stack.{Passes, Ready}
use Rattle.row.specs.declared.Cell.{Cell}
use Rattle.row.specs.declared.Row.{Row}
use Rattle.row.proofs.Accepted.{accepted, ready_fitting}
use Rattle.row.proofs.Finished.{row_places}
use Rattle.row.proofs.Ranges.{ranged}
use Rattle.row.proofs.Rises.{in_ranges}
use Rattle.floor.specs.Calls.{seated}
use Rattle.floor.specs.Seats.{cells_on, sites_on, joined, row_cost}
use Rattle.floor.specs.declared.Seat.{Seat}
use Rattle.row.proofs.Costs.{cost_within}
use Rattle.floor.proofs.Resited.{resited_cells_on, resited_sites_on}
use Rattle.floor.proofs.Settling.{sites_long}

-- cells at places cost at most 2^42 each
pub cost_bounded : {f : Price} → Fair f → (cs : List Cell) (ys : List ℕ) → AllByRecursion Passes cs → AllByRecursion (λ y. y ≤ 65535) ys → sites_cost f cs ys ≤ 2 ^ 42 * length cs
cost_bounded fair [] ys pass places = omega arith
cost_bounded fair (c ∷ cs) [] pass places = omega arith
cost_bounded fair (c ∷ cs) (y ∷ ys) pass places =
    let one = fair.bounded c.wanted.site c.weight y (in_ranges c y pass.0 places.0) in
    let more = cost_bounded fair cs ys pass.1 places.1 in
    omega arith

module _ {f : Price} (fair : Fair f) (seats : List Seat) (row : Row) (cell : Cell) (ready : Ready row (cells_on row (joined row cell seats))) where
  abbrev cs : List Cell
  cs = cells_on row (joined row cell seats)

  -- the cost of the row once it is set with the cell
  pub seated_cost : row_cost f row (seated f seats cell row) ≡ sites_cost f cs (row_sites f row cs)
  seated_cost =
      (λ i. sites_cost f (resited_cells_on row (row_sites f row cs) (joined row cell seats) i) (sites_on row (seated f seats cell row)))
      ∙ ap (sites_cost f cs) (resited_sites_on row (row_sites f row cs) (joined row cell seats) (sites_long f fair row (joined row cell seats) (ready_fitting row cs ready)))

  pub seated_bound : row_cost f row (seated f seats cell row) ≤ 2 ^ 52
  seated_bound =
      let a = accepted row cs (length cs) ready in
      let bound = cost_bounded fair cs (row_sites f row cs) a.pass (row_places f row cs (length cs) fair a) in
      let few = a.few in
      let is = seated_cost in
      omega arith

  -- what its line costs a cell that passes its checks
  pub line_is : Passes cell → cost_of f cell.wanted.line cell.weight row.line ≡ f cell.wanted.line cell.weight row.line
  line_is passes =
      let r = ranged cell passes in
      let known = (accepted row cs (length cs) ready).ranged in
      cost_within f cell.wanted.line cell.weight row.line (omega arith)
