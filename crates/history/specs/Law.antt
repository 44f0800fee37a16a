-- The law of a floor, in the words of calls, answers, standing cells, settings and costs.
use Rattle.std.specs.Prelude.{◌≡◌, ◌↔◌, ℕ, ◌+◌, ◌<◌, ◌≤◌, true, false, List, [], ◌∷◌, None, Ok, Err, Result, IfOk, ⊤}
use Rattle.std.specs.List.{AllByRecursion}
use Rattle.measure.specs.Costs.{Price}
use Rattle.row.specs.Records.{row_ahead}
use Rattle.row.specs.declared.Cell.{Cell}
use Rattle.row.specs.declared.Row.{Row}
use Rattle.floor.specs.Refusals.{cell_refusal_by, has_sites_by, stands_by}
use Rattle.floor.specs.declared.Placing.{Placing}
use Rattle.floor.specs.declared.Refusal.{Refusal}
use Rattle.floor.specs.declared.Refusal.TheVariants.{NoRoom, NotStanding}
use Rattle.history.specs.Histories.{Standing, cell_of, row_of, row_at, with_cell, with_placed, call_of, refused, rows_in, standing_in, decide}
use Rattle.history.specs.Settings.{Where, site_in, Setting, cost}
use Rattle.history.specs.declared.call.Event.{Event}
use Rattle.history.specs.declared.call.Event.TheVariants as event

-- While these cells stand, where_is answers for each its row's line and a site, and for every
-- other number that it does not stand. The setting that these sites are is legal and in wanted
-- order; every other such setting costs at least as much, and one that costs the same has no cell
-- further left.
pub record Holds (price : Price) (standing : List Standing) (where_is : Where) : Type 0 where
  pub found :
      AllByRecursion
      (λ k. where_is k.cell.number
      ≡ Ok (record { line = k.row.line; site = site_in where_is k.cell.number }))
      standing
  pub absent : (number : ℕ) → stands_by cell_of row_of number standing ≡ false
      → where_is number ≡ Err NotStanding
  pub setting : Setting standing (site_in where_is)
  pub cheapest : (other : ℕ → ℕ) → Setting standing other
      → cost price standing (site_in where_is) ≤ cost price standing other
  pub leftmost : (other : ℕ → ℕ) → Setting standing other
      → cost price standing other ≡ cost price standing (site_in where_is)
      → AllByRecursion (λ k. site_in where_is k.cell.number ≤ other k.cell.number) standing

-- A placing of this cell was granted while these rows and cells stood, with these answers of
-- where_is before and after it. It answers where the cell stands then, and what the floor costs
-- more. Had the cell gone to another row, all others staying on theirs, every legal setting in
-- wanted order would cost at least as much, and more on a row that is ahead.
pub record Granted (price : Price) (rows : List Row) (earlier : List Standing) (before : Where)
    (cell : Cell) (placing : Placing) (after : Where) : Type 0 where
  pub stands : after cell.number ≡ Ok placing.spot
  pub rise : cost price (with_placed rows earlier cell placing) (site_in after)
      ≡ cost price earlier (site_in before) + placing.rise
  pub chosen :
      AllByRecursion
      (λ row. (other : ℕ → ℕ) → Setting (with_cell cell row earlier) other
      → cost price (with_placed rows earlier cell placing) (site_in after)
      ≤ cost price (with_cell cell row earlier) other)
      rows
  pub first :
      AllByRecursion
      (λ row. row_ahead row (row_at rows placing.spot) ≡ true
      → (other : ℕ → ℕ) → Setting (with_cell cell row earlier) other
      → cost price (with_placed rows earlier cell placing) (site_in after)
      < cost price (with_cell cell row earlier) other)
      rows

-- A placing or a try is refused because no row has sites exactly when every earlier check passes
-- and no row has sites for the cell beside the cells that stand there.
abbrev pub FullExactly : List Row → List Standing → Cell → Result Placing Refusal → Type 0
FullExactly rows standing cell answer =
    (answer ≡ Err NoRoom)
    ↔ ((cell_refusal_by cell_of row_of standing cell ≡ None)
    × AllByRecursion (λ row. has_sites_by cell_of row_of standing cell row ≡ false) rows)

-- What holds of an answer besides, with the rows and cells that stood and the answers of where_is
-- before and after. A granted try answers what a placing of the same cell in its stead would have:
-- with some answers of where_is after it, such a placing obeys the law. A withdrawal answers what
-- where_is gave for its number before.
abbrev pub Answers : Price → List Row → List Standing → Where → Event → Where → Type 0
Answers price rows earlier before (event.Added row answer) after = ⊤
Answers price rows earlier before (event.Placed cell answer) after =
    FullExactly rows earlier cell answer
    × IfOk answer (λ placing. Granted price rows earlier before cell placing after)
Answers price rows earlier before (event.Tried cell answer) after =
    FullExactly rows earlier cell answer
    × IfOk answer (λ placing. (instead : Where)
    × Granted price rows earlier before cell placing instead
    × Holds price (with_placed rows earlier cell placing) instead)
Answers price rows earlier before (event.Withdrawn number answer) after = answer ≡ before number

-- An event after a history, with the answers of where_is before and after it: its call is granted,
-- or refused by the first check that fails, as the checks decide from what stands before it; its
-- answer is as it must be; and what where_is answers after it is as it must be.
pub record Step (price : Price) (earlier : List Event) (before : Where) (e : Event)
    (after : Where) : Type 0 where
  pub decided : refused e ≡ decide (rows_in earlier) (standing_in earlier) (call_of e)
  pub answers : Answers price (rows_in earlier) (standing_in earlier) before e after
  pub holds : Holds price (standing_in (e ∷ earlier)) after

-- The law: a floor that began empty has this history, the latest event first, and where_is now
-- answers so.
abbrev pub Law : Price → List Event → Where → Type 0
Law price [] where_is = Holds price [] where_is
Law price (e ∷ earlier) where_is =
    (before : Where) × Law price earlier before × Step price earlier before e where_is
