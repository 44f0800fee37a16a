-- What a cell costs where it stands.
use Rattle.std.specs.Prelude.{ℕ, ◌+◌, List, [], ◌∷◌, ℤ}
use Rattle.measure.specs.Costs.{Price, step_of}
use Rattle.row.specs.declared.Cell.{Cell}

-- what a cell's site costs: the site against the wanted site
abbrev pub site_cost : Price → Cell → ℕ → ℕ
site_cost price c site = price c.wanted.site c.weight site

-- what its line costs: the line against the wanted line
abbrev pub line_cost : Price → Cell → ℕ → ℕ
line_cost price c line = price c.wanted.line c.weight line

-- what a step to the right costs it, with its sign
abbrev pub site_step : Price → Cell → ℕ → ℤ
site_step price c site = step_of price c.wanted.site c.weight site

-- the cost of cells at sites: for each cell, of its site
abbrev pub sites_cost : Price → List Cell → List ℕ → ℕ
sites_cost price [] sites = 0
sites_cost price (c ∷ cs) [] = 0
sites_cost price (c ∷ cs) (x ∷ xs) = site_cost price c x + sites_cost price cs xs
