-- What the calls of a floor refuse, by the checks.
use Rattle.std.proofs.Common.{◌≡◌, Some, None, Ok, Option, refl, sym, ap}
use Rattle.std.specs.List.{list_any}
use Rattle.measure.specs.Costs.{Price}
use Rattle.row.specs.Checked.{checked}
use Rattle.row.specs.Records.{check, then}
use Rattle.row.specs.declared.Cell.{Cell}
use Rattle.row.specs.declared.Row.{Row}
use Rattle.floor.specs.Calls.{outcome_unless, with_row, add_row, chosen, outcome_on, place}
use Rattle.floor.specs.Refusals.{add_refusal, has_sites, cell_refusal, place_refusal}
use Rattle.floor.specs.Tables.{Tables, Outcome}
use Rattle.floor.specs.declared.Refusal.{Refusal}
use Rattle.floor.specs.declared.Refusal.TheVariants.{NoRoom}
use Rattle.floor.proofs.Best.{none_fits}
use Rattle.floor.proofs.Placed.{chosen_any}
use Rattle.floor.proofs.Tests.{any_none}

-- an outcome that a check may refuse is refused as the check says, where nothing else refuses it
pub unless_checked : {X : Type 0} (o : Option Refusal) (t : Tables) (outcome : Outcome X) → checked outcome.answer ≡ None → checked (outcome_unless o t outcome).answer ≡ o
unless_checked None t outcome granted = granted
unless_checked (Some refusal) t outcome granted = refl

-- a row is refused as its checks say
pub add_checked : (t : Tables) (row : Row) → checked (add_row t row).answer ≡ add_refusal t.rows row
add_checked t row = unless_checked (add_refusal t.rows row) t (record { answer = Ok tt; tables = record { rows = with_row t.rows row; seats = t.seats } }) refl

module _ (f : Price) (t : Tables) (cell : Cell) where
  by_row : (o : Option Row) → chosen f t.seats cell t.rows ≡ o → checked (outcome_on f t cell o).answer ≡ check (list_any (has_sites t.seats cell) t.rows) NoRoom None
  by_row None is = sym (ap (λ some. check some NoRoom None) (any_none (has_sites t.seats cell) t.rows (none_fits f t.seats cell t.rows is)))
  by_row (Some row) is = sym (ap (λ some. check some NoRoom None) (chosen_any f t.rows t.seats cell row is))

  by_check : (o : Option Refusal) → checked (outcome_unless o t (outcome_on f t cell (chosen f t.seats cell t.rows))).answer ≡ then o (check (list_any (has_sites t.seats cell) t.rows) NoRoom None)
  by_check None = by_row (chosen f t.seats cell t.rows) refl
  by_check (Some refusal) = refl

  -- a cell is refused as its checks say: those that do not look at the rows, and that a row has sites
  pub place_checked : checked (place f t cell).answer ≡ place_refusal t.rows t.seats cell
  place_checked = by_check (cell_refusal t.seats cell)
