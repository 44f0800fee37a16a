-- Setting one row: what its sites are.
use Rattle.std.specs.Prelude.{ℕ, zero, suc, ◌+◌, ◌-◌, Bool, if◌then◌else◌, List, [], ◌∷◌, ℤ, pos, ◌+ℤ◌, int_le}
use Rattle.measure.specs.Costs.{Price}
use Rattle.row.specs.Clusters.{Cluster, settle, laid}
use Rattle.row.specs.Costs.{site_step}
use Rattle.row.specs.Records.{widths}
use Rattle.row.specs.declared.Cell.{Cell}
use Rattle.row.specs.declared.Row.{Row}

-- the sites of cells that abut from x on
abbrev pub abut : List Cell → ℕ → List ℕ
abut [] x = []
abut (c ∷ cs) x = x ∷ abut cs (x + c.width)

-- the rise of cells that abut from x on
abbrev pub cluster_rise : Price → List Cell → ℕ → ℤ
cluster_rise price [] x = pos 0
cluster_rise price (c ∷ cs) x = site_step price c x +ℤ cluster_rise price cs (x + c.width)

-- whether that rise is at least 0
abbrev pub climbs : Price → List Cell → ℕ → Bool
climbs price cs x = int_le (pos 0) (cluster_rise price cs x)

-- the least place from x on that passes the test, or the last of them, which is n places on
abbrev pub least : (ℕ → Bool) → ℕ → ℕ → ℕ
least test x zero = x
least test x (suc n) = if test x then x else least test (x + 1) n

-- the best site of a cluster: the least, from the row's left to its right less the width, where
-- the rise is at least 0, or the last of them
abbrev pub best_site : Price → Row → List Cell → ℕ
best_site price row cs = least (climbs price cs) row.left (row.right - widths cs - row.left)

-- from the start of a cluster to where the next may start: its width
abbrev pub reach : List Cell → List Cell → ℕ
reach front back = widths front

-- the clusters of a row, the last first
abbrev pub row_clusters : Price → Row → List Cell → List (Cluster Cell)
row_clusters price row cells = settle reach (best_site price row) cells []

-- the sites of a row's cells: the cells of each cluster abut from its site
abbrev pub row_sites : Price → Row → List Cell → List ℕ
row_sites price row cells = laid abut (row_clusters price row cells)
