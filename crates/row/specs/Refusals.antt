-- What `set` refuses, and the number of each refusal.
use Rattle.std.specs.Prelude.{ℕ, ◌-◌, Bool, true, ◌&&◌, List, [], ◌∷◌, length, Some, None, Option, ◌==◌, nat_le}
use Rattle.std.specs.Option.{option_map}
use Rattle.row.specs.declared.TheConstants.{MOST_CELLS}
use Rattle.row.specs.declared.Cell.{Cell}
use Rattle.row.specs.declared.Row.{Row as RowRecord}
use Rattle.row.specs.declared.Fault.{Fault}
use Rattle.row.specs.declared.Fault.TheVariants.{Wanted, Width, Weight, Number, Row}
use Rattle.row.specs.declared.Refusal.{Refusal}
use Rattle.row.specs.declared.Refusal.TheVariants.{OutOfRange, Size, Order, TooWide}
use Rattle.row.specs.Records.{check, then, cell_fault, row_fault, before, widths}

-- the number of a field that is outside its range
abbrev pub fault_number : Fault → ℕ
fault_number Wanted = 1
fault_number Width = 2
fault_number Weight = 3
fault_number Number = 4
fault_number Row = 9

-- the number of each refusal
abbrev pub number_of : Refusal → ℕ
number_of (OutOfRange fault) = fault_number fault
number_of Size = 12
number_of Order = 13
number_of TooWide = 14

-- whether a cell comes after the one before it in wanted order, if there is one
abbrev pub comes_after : Option Cell → Cell → Bool
comes_after None c = true
comes_after (Some b) c = before b c

-- the checks of one cell: its own, then that it comes after the one before it
abbrev pub next_refusal : Option Cell → Cell → Option Refusal
next_refusal last c =
    then (option_map OutOfRange (cell_fault c)) (check (comes_after last c) Order None)

-- the checks of cell after cell
abbrev pub cells_refusal : Option Cell → List Cell → Option Refusal
cells_refusal last [] = None
cells_refusal last (c ∷ cs) = then (next_refusal last c) (cells_refusal (Some c) cs)

-- the checks of `set` in their order: the row; at most 1,024 cells and as many sites; cell after
-- cell; that the cells fit the row
abbrev pub set_refusal : RowRecord → List Cell → ℕ → Option Refusal
set_refusal row cells sites =
    then (option_map OutOfRange (row_fault row))
    (check (nat_le (length cells) MOST_CELLS && sites == length cells) Size
    (then (cells_refusal None cells)
    (check (nat_le (widths cells) (row.right - row.left)) TooWide None)))
