-- What the calls of a floor refuse, and the number of each refusal.
use Rattle.std.specs.Prelude.{ℕ, ◌+◌, ◌-◌, Bool, not, List, length, None, Option, nat_eq, nat_le, nat_lt}
use Rattle.std.specs.List.{list_any}
use Rattle.std.specs.Option.{option_map}
use Rattle.row.specs.Records.{check, then, cell_fault, row_fault, widths}
use Rattle.row.specs.Refusals.{fault_number}
use Rattle.row.specs.declared.Cell.{Cell}
use Rattle.row.specs.declared.Row.{Row}
use Rattle.row.specs.declared.TheConstants.{MOST_CELLS}
use Rattle.floor.specs.Rows.{share}
use Rattle.floor.specs.Seats.{cell_of, row_of, cells_by}
use Rattle.floor.specs.declared.Refusal.{Refusal}
use Rattle.floor.specs.declared.Refusal.TheVariants.{OutOfRange, NumberStands, CellsFull, NoRoom, NotStanding, RowsFull, RowShares}
use Rattle.floor.specs.declared.Seat.{Seat}
use Rattle.floor.specs.declared.floor.TheConstants.{MOST_ROWS}

-- the number of each refusal
abbrev pub number_of : Refusal → ℕ
number_of (OutOfRange fault) = fault_number fault
number_of NumberStands = 5
number_of CellsFull = 6
number_of NoRoom = 7
number_of NotStanding = 8
number_of RowsFull = 10
number_of RowShares = 11

-- the checks of adding a row, in their order: its ranges; 64 rows stand; it shares a site with a
-- row that stands
abbrev pub add_refusal : List Row → Row → Option Refusal
add_refusal rows row =
    then (option_map OutOfRange (row_fault row))
    (check (nat_lt (length rows) MOST_ROWS) RowsFull
    (check (not (list_any (share row) rows)) RowShares None))

-- What stands is a list of records that hold a cell and the row that it stands on, as seats do.
module _ {X : Type 0} (cell_of : X → Cell) (row_of : X → Row) where
  -- whether a number stands
  abbrev pub stands_by : ℕ → List X → Bool
  stands_by number standing = list_any (λ x. nat_eq (cell_of x).number number) standing

  -- whether a row has sites for a cell: the widths that stand there and the new one are at most
  -- right - left
  abbrev pub has_sites_by : List X → Cell → Row → Bool
  has_sites_by standing cell row =
      nat_le (widths (cells_by cell_of row_of row standing) + cell.width) (row.right - row.left)

  -- the checks of placing a cell that do not look at the rows, in their order: its ranges; its
  -- number stands; 1,024 cells stand
  abbrev pub cell_refusal_by : List X → Cell → Option Refusal
  cell_refusal_by standing cell =
      then (option_map OutOfRange (cell_fault cell))
      (check (not (stands_by cell.number standing)) NumberStands
      (check (nat_lt (length standing) MOST_CELLS) CellsFull None))

  -- the checks of placing a cell, in their order: those; no row has sites for it
  abbrev pub place_refusal_by : List Row → List X → Cell → Option Refusal
  place_refusal_by rows standing cell =
      then (cell_refusal_by standing cell)
      (check (list_any (has_sites_by standing cell) rows) NoRoom None)

  -- the check of taking a cell out, by its number: that it stands
  abbrev pub withdraw_refusal_by : List X → ℕ → Option Refusal
  withdraw_refusal_by standing number = check (stands_by number standing) NotStanding None

-- whether a number stands among seats
abbrev pub stands : ℕ → List Seat → Bool
stands = stands_by cell_of row_of

-- whether a row has sites for a cell beside its seats
abbrev pub has_sites : List Seat → Cell → Row → Bool
has_sites = has_sites_by cell_of row_of

-- the first check of placing that fails, of those that do not look at the rows
abbrev pub cell_refusal : List Seat → Cell → Option Refusal
cell_refusal = cell_refusal_by cell_of row_of

-- the first check of placing that fails, if one does
abbrev pub place_refusal : List Row → List Seat → Cell → Option Refusal
place_refusal = place_refusal_by cell_of row_of
