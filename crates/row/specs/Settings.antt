-- Settings of one row, in the words of its users: cells and their sites.
use Rattle.std.specs.Prelude.{◌≡◌, ℕ, ◌+◌, ◌<◌, ◌≤◌, true, List, [], ◌∷◌, length}
use Rattle.std.specs.List.{AllZip, AllByRecursion}
use Rattle.measure.specs.Costs.{Price}
use Rattle.row.specs.Records.{before}
use Rattle.row.specs.Costs.{sites_cost}
use Rattle.row.specs.declared.Cell.{Cell}
use Rattle.row.specs.declared.Row.{Row}

-- a cell and the site that it has
pub record Placed : Type 0 where
  pub cell : Cell
  pub site : ℕ

-- cells with their sites
abbrev pub placed : List Cell → List ℕ → List Placed
placed [] sites = []
placed (c ∷ cs) [] = []
placed (c ∷ cs) (x ∷ xs) = record { cell = c; site = x } ∷ placed cs xs

-- a relation between any two of a list, the earlier one first
abbrev pub EveryPair : {X : Type 0} → (X → X → Type 0) → List X → Type 0
EveryPair R [] = Unit {0}
EveryPair R (x ∷ xs) = AllByRecursion (R x) xs × EveryPair R xs

-- a placed cell covers the sites from its own to its own + width - 1
abbrev pub Covers : Placed → ℕ → Type 0
Covers p s = (p.site ≤ s) × (s < p.site + p.cell.width)

-- a placed cell covers only sites of the row
abbrev pub Within : Row → Placed → Type 0
Within row p = (row.left ≤ p.site) × (p.site + p.cell.width ≤ row.right)

-- two placed cells share no site
abbrev pub Clear : Placed → Placed → Type 0
Clear p q = (s : ℕ) → Covers p s → Covers q s → ⊥

-- every cell lies within the row, and no two share a site
abbrev pub Legal : Row → List Placed → Type 0
Legal row ps = AllByRecursion (Within row) ps × EveryPair Clear ps

-- of two cells, the one that is wanted first has the smaller site
abbrev pub Rising : Placed → Placed → Type 0
Rising p q =
    (before p.cell q.cell ≡ true → p.site < q.site)
    × (before q.cell p.cell ≡ true → q.site < p.site)

-- of any two cells, the one that is wanted first has the smaller site
abbrev pub InWantedOrder : List Placed → Type 0
InWantedOrder ps = EveryPair Rising ps

-- a site for each cell, legal and in wanted order
pub record Setting (row : Row) (cells : List Cell) (sites : List ℕ) : Type 0 where
  pub each : length sites ≡ length cells
  pub legal : Legal row (placed cells sites)
  pub in_order : InWantedOrder (placed cells sites)

-- of all settings the cheapest, and of the cheapest the leftmost: no cell is further right in it
-- than in another that costs the same
pub record Cheapest (price : Price) (row : Row) (cells : List Cell) (sites : List ℕ) : Type 0 where
  pub setting : Setting row cells sites
  pub cheapest : (others : List ℕ) → Setting row cells others
      → sites_cost price cells sites ≤ sites_cost price cells others
  pub leftmost : (others : List ℕ) → Setting row cells others
      → sites_cost price cells others ≡ sites_cost price cells sites
      → AllZip ◌≤◌ sites others
