-- Under the squared measure a cluster's best site is a quotient, rounded and limited to the row.
use Rattle.std.specs.Prelude.{◌≡◌, ℕ, ◌+◌, ◌-◌, ◌*◌, ◌<◌, List, [], ◌∷◌, ℤ, pos, ◌+ℤ◌, ◌-ℤ◌, ◌*ℤ◌, ◌≤ℤ◌, ◌<ℤ◌}
use Rattle.std.specs.Int.{int_max, int_min}
use Rattle.measure.specs.Measures.{squared}
use Rattle.row.specs.Records.{widths}
use Rattle.row.specs.Sites.{best_site}
use Rattle.row.specs.declared.Cell.{Cell}
use Rattle.row.specs.declared.Row.{Row}

-- the sum of the cells' weights
abbrev pub weights : List Cell → ℕ
weights [] = 0
weights (c ∷ cs) = c.weight + weights cs

-- the pull of cells that abut, the first of them `distance` sites from the cluster's start: the
-- sum, over the cells, of the weight times the wanted site less the cell's distance from that start
abbrev pub pull_at : ℕ → List Cell → ℤ
pull_at distance [] = pos 0
pull_at distance (c ∷ cs) =
    pos c.weight *ℤ (pos c.wanted.site -ℤ pos distance) +ℤ pull_at (distance + c.width) cs

-- the pull of a cluster's cells
abbrev pub pull : List Cell → ℤ
pull cells = pull_at 0 cells

-- the whole number nearest to q / e, the lower one of two that are equally near: it is at least
-- q / e - 1/2 and below q / e + 1/2, which stands here times 2 * e
pub record Nearest (q : ℤ) (e : ℕ) (x : ℤ) : Type 0 where
  pub from : ((q +ℤ q) -ℤ pos e) ≤ℤ (pos (2 * e) *ℤ x)
  pub below : (pos (2 * e) *ℤ x) <ℤ ((q +ℤ q) +ℤ pos e)

-- a whole number limited to the starts at which cells that abut lie within a row
abbrev pub limited : Row → List Cell → ℤ → ℤ
limited row cells x = int_max (pos row.left) (int_min x (pos (row.right - widths cells)))

-- a cluster's best site: its pull by its weights, rounded to the nearest site with halves down,
-- and limited to the row
pub record BestRounds (row : Row) (cells : List Cell) : Type 0 where
  pub site : ℤ
  pub nearest : Nearest (pull cells) (weights cells) site
  pub best : pos (best_site squared row cells) ≡ limited row cells site

-- it is so of all cells that weigh something, in any row
abbrev pub SquaredRounds : Type 0
SquaredRounds = (row : Row) (cells : List Cell) → 0 < weights cells → BestRounds row cells
