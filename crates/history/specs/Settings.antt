-- Settings of a floor: a site for each number, legal and in wanted order, and what they cost.
use Rattle.std.specs.Prelude.{◌≡◌, ℕ, true, List, Ok, Err, Result}
use Rattle.std.specs.List.{AllByRecursion}
use Rattle.measure.specs.Costs.{Price}
use Rattle.row.specs.Settings as row
use Rattle.row.specs.Settings.{EveryPair, Within, Clear, Rising}
use Rattle.row.specs.declared.Spot.{Spot}
use Rattle.floor.specs.Rows.{same_row}
use Rattle.floor.specs.Seats.{costs_by}
use Rattle.floor.specs.declared.Refusal.{Refusal}
use Rattle.history.specs.Histories.{Standing, cell_of, row_of}

-- what where_is answers for each number
abbrev pub Where : Type 0
Where = ℕ → Result Spot Refusal

-- the site of an answer, and 0 of a refusal
abbrev pub site_answered : Result Spot Refusal → ℕ
site_answered (Ok spot) = spot.site
site_answered (Err refusal) = 0

-- the setting that the answers of where_is are
abbrev pub site_in : Where → ℕ → ℕ
site_in where_is number = site_answered (where_is number)

-- a standing cell with the site that a setting gives it
abbrev pub placed : (ℕ → ℕ) → Standing → row.Placed
placed at k = record { cell = k.cell; site = at k.cell.number }

-- whether two standing cells are on one row
abbrev pub OnOneRow : Standing → Standing → Type 0
OnOneRow k l = same_row k.row l.row ≡ true

-- every cell lies within its row, and no two cells of a row share a site
pub record Legal (standing : List Standing) (at : ℕ → ℕ) : Type 0 where
  pub within : AllByRecursion (λ k. Within k.row (placed at k)) standing
  pub clear : EveryPair (λ k l. OnOneRow k l → Clear (placed at k) (placed at l)) standing

-- of any two cells of a row, the one that is wanted before the other has the smaller site
abbrev pub InWantedOrder : List Standing → (ℕ → ℕ) → Type 0
InWantedOrder standing at =
    EveryPair (λ k l. OnOneRow k l → Rising (placed at k) (placed at l)) standing

-- a legal setting in wanted order
pub record Setting (standing : List Standing) (at : ℕ → ℕ) : Type 0 where
  pub legal : Legal standing at
  pub in_order : InWantedOrder standing at

-- what a setting costs: for each standing cell, its site against the wanted site, and its row's
-- line against the wanted line
abbrev pub cost : Price → List Standing → (ℕ → ℕ) → ℕ
cost price standing at = costs_by cell_of row_of (λ k. at k.cell.number) price standing
