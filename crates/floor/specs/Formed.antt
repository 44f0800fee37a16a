-- What every floor keeps, whatever its measure: plain facts of its rows and seats, as tests.
use Rattle.std.specs.Prelude.{◌+◌, Bool, true, not, ◌&&◌, ◌||◌, List, [], ◌∷◌, is_some, ◌==◌, nat_le}
use Rattle.std.specs.List.{list_all, list_any}
use Rattle.row.specs.Records.{cell_fault, row_fault, row_ahead}
use Rattle.row.specs.declared.Row.{Row}
use Rattle.floor.specs.Rows.{share}
use Rattle.floor.specs.Seats.{on_row, seat_ahead}
use Rattle.floor.specs.declared.Seat.{Seat}

-- whether any two of a list, the earlier one first, pass a test
abbrev pub every_pair : {X : Type 0} → (X → X → Bool) → List X → Bool
every_pair test [] = true
every_pair test (x ∷ xs) = list_all (test x) xs && every_pair test xs

-- rows within their ranges, in row order, no two with a site in common
abbrev pub rows_formed : List Row → Bool
rows_formed rows =
    list_all (λ r. not (is_some (row_fault r))) rows
    && (every_pair row_ahead rows && every_pair (λ a b. not (share a b)) rows)

-- whether a row is the row that a seat is on
abbrev pub is_row_of : Seat → Row → Bool
is_row_of s r = r.line == s.row.line && (r.left == s.row.left && r.right == s.row.right)

-- a seat on a standing row, whose cell lies within it
abbrev pub seat_formed : List Row → Seat → Bool
seat_formed rows s =
    not (is_some (cell_fault s.cell))
    && (list_any (is_row_of s) rows
    && (nat_le s.row.left s.site && nat_le (s.site + s.cell.width) s.row.right))

-- two seats in their order, with two numbers, and clear of each other where they are on one row
abbrev pub seats_apart : Seat → Seat → Bool
seats_apart s t =
    seat_ahead s t
    && (not (s.cell.number == t.cell.number)
    && (not (on_row t.row s) || nat_le (s.site + s.cell.width) t.site))

-- what every floor keeps: rows within their ranges, in row order and apart; and seats of cells
-- within their ranges, in their order, no number twice, each on a standing row, legal and in wanted
-- order
abbrev pub formed : List Row → List Seat → Bool
formed rows seats =
    rows_formed rows
    && (list_all (seat_formed rows) seats && every_pair seats_apart seats)
