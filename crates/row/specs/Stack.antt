-- The clusters that the program keeps: runs of a row's cells by their places in the list.
use Rattle.std.specs.Prelude.{◌≡◌, ℕ, ◌+◌, ◌<◌, ◌≤◌, List, [], ◌∷◌, map, reverse, length, take, None}
use Rattle.std.specs.List.{between}
use Rattle.measure.specs.Costs.{Price}
use Rattle.measure.specs.declared.TheConstants.{LAST_PLACE}
use Rattle.row.specs.Clusters.{Cluster}
use Rattle.row.specs.Records.{cell_fault, widths}
use Rattle.row.specs.Refusals.{set_refusal}
use Rattle.row.specs.Sites.{best_site, row_clusters}
use Rattle.row.specs.declared.Cell.{Cell}
use Rattle.row.specs.declared.Row.{Row}
use Rattle.row.specs.declared.cluster.Cluster.{Cluster as Run}

-- a cell that its own checks let pass
abbrev pub Passes : Cell → Type 0
Passes c = cell_fault c ≡ None

-- a row and cells that `set` does not refuse
abbrev pub Ready : Row → List Cell → Type 0
Ready row cells = set_refusal row cells (length cells) ≡ None

-- the cells of a run
abbrev pub part : List Cell → Run → List Cell
part cells k = between k.first k.past cells

-- a run as a cluster
abbrev pub cluster_of : List Cell → Run → Cluster Cell
cluster_of cells k = record { site = k.site; cells = part cells k }

-- runs, the last one at the end, as clusters, the last one first
abbrev pub stack_of : List Cell → List Run → List (Cluster Cell)
stack_of cells ks = map (cluster_of cells) (reverse ks)

-- one run: it is not empty, ends before `past`, and has the width of its cells
pub record Spans (cells : List Cell) (past : ℕ) (k : Run) : Type 0 where
  pub starts : k.first < k.past
  pub ends : k.past ≡ past
  pub wide : k.width ≡ widths (part cells k)

-- a run of its own: from `first` up to `past`, at the best site of its cells
pub record AtBest (price : Price) (row : Row) (cells : List Cell) (first past : ℕ) (k : Run)
    : Type 0 where
  pub begins : k.first ≡ first
  pub spans : Spans cells past k
  pub best : k.site ≡ best_site price row (part cells k)

-- two runs that follow one another
pub record Follows (cells : List Cell) (b k : Run) : Type 0 where
  pub one : Spans cells k.first b
  pub two : Spans cells k.past k
  pub ends : k.past ≤ length cells

-- the best site of two runs as one: not after the first run's site, and not so far before it that
-- the second would start before its own
pub record Bracketed (price : Price) (row : Row) (cells : List Cell) (b k : Run) : Type 0 where
  pub not_after : best_site price row (between b.first k.past cells) ≤ b.site
  pub not_before : k.site ≤ best_site price row (between b.first k.past cells) + b.width

-- a run that ends within the places, which go up to 65,535
abbrev pub InPlaces : Run → Type 0
InPlaces k = k.site + k.width ≤ LAST_PLACE

-- runs, the last one first, that follow one another from the first cell up to `past`
abbrev pub Tiled : List Cell → ℕ → List Run → Type 0
Tiled cells past [] = past ≡ 0
Tiled cells past (k ∷ ks) = Spans cells past k × Tiled cells k.first ks

-- runs, the last one at the end, that are the clusters of a row's first `taken` cells
pub record Holds (price : Price) (row : Row) (cells : List Cell) (taken : ℕ) (runs : List Run)
    : Type 0 where
  pub tiled : Tiled cells taken (reverse runs)
  pub clusters : stack_of cells runs ≡ row_clusters price row (take taken cells)
