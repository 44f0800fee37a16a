-- Cells and rows: the ranges of their fields, and wanted order.
use Rattle.std.specs.Prelude.{◌≡◌, ℕ, ◌+◌, Bool, cond, ◌&&◌, ◌||◌, List, [], ◌∷◌, Some, None, Option, ◌==◌, nat_le, nat_lt}
use Rattle.measure.specs.declared.TheConstants.{LAST_PLACE, MOST_WEIGHT}
use Rattle.row.specs.declared.check.TheConstants.{LAST_LINE, LAST_NUMBER, MOST_WIDTH}
use Rattle.row.specs.declared.TheConstants.{MOST_CELLS}
use Rattle.row.specs.declared.Cell.{Cell}
use Rattle.row.specs.declared.Row.{Row as RowRecord}
use Rattle.row.specs.declared.Fault.{Fault}
use Rattle.row.specs.declared.Fault.TheVariants as fault

-- a check and those after it: the failure of the first that fails, if one does
abbrev pub check : {E : Type 0} → Bool → E → Option E → Option E
check passes failure others = cond passes others (Some failure)

-- the same, of checks that are made elsewhere
abbrev pub then : {E : Type 0} → Option E → Option E → Option E
then (Some failure) others = Some failure
then None others = others

-- the numbers that the constants of the ranges are
pub record Limits : Type 0 where
  pub place : LAST_PLACE ≡ 65535
  pub line : LAST_LINE ≡ 4095
  pub width : MOST_WIDTH ≡ 1000
  pub weight : MOST_WEIGHT ≡ 1000
  pub number : LAST_NUMBER ≡ 65535
  pub cells : MOST_CELLS ≡ 1024

-- the first field of a cell that is outside its range, if one is: wanted site up to 65,535 and
-- wanted line up to 4,095; width 1 to 1,000; weight 1 to 1,000; number up to 65,535
abbrev pub cell_fault : Cell → Option Fault
cell_fault c =
    check (nat_le c.wanted.site LAST_PLACE && nat_le c.wanted.line LAST_LINE) fault.Wanted
    (check (nat_le 1 c.width && nat_le c.width MOST_WIDTH) fault.Width
    (check (nat_le 1 c.weight && nat_le c.weight MOST_WEIGHT) fault.Weight
    (check (nat_le c.number LAST_NUMBER) fault.Number None)))

-- whether a row is outside its ranges: line up to 4,095, and left < right ≤ 65,535
abbrev pub row_fault : RowRecord → Option Fault
row_fault r =
    check (nat_le r.line LAST_LINE && (nat_lt r.left r.right && nat_le r.right LAST_PLACE)) fault.Row None

-- wanted order: by wanted site, then by number
abbrev pub before : Cell → Cell → Bool
before c d =
    nat_lt c.wanted.site d.wanted.site
    || (c.wanted.site == d.wanted.site && nat_lt c.number d.number)

-- row order: by line, then by left
abbrev pub row_ahead : RowRecord → RowRecord → Bool
row_ahead a b = nat_lt a.line b.line || (a.line == b.line && nat_lt a.left b.left)

-- the sites that cells cover together
abbrev pub widths : List Cell → ℕ
widths [] = 0
widths (c ∷ cs) = c.width + widths cs
