-- The seats of a floor: its standing cells, each with its row and its site.
use Rattle.std.specs.Prelude.{ℕ, ◌+◌, ◌≤◌, Bool, if◌then◌else◌, ◌&&◌, ◌||◌, List, [], ◌∷◌, Option, map, filter, nat_eq, nat_lt}
use Rattle.std.specs.List.{insert, position_from}
use Rattle.measure.specs.Costs.{Price}
use Rattle.measure.specs.declared.TheConstants.{LAST_PLACE}
use Rattle.row.specs.Records.{before, row_ahead}
use Rattle.row.specs.Costs.{line_cost, site_cost, sites_cost}
use Rattle.row.specs.Sites.{row_sites}
use Rattle.row.specs.Stack.{Passes, Ready}
use Rattle.row.specs.declared.Cell.{Cell}
use Rattle.row.specs.declared.Row.{Row}
use Rattle.table.specs.Order.{rank_of}
use Rattle.floor.specs.Rows.{same_row}
use Rattle.floor.specs.declared.Seat.{Seat}

-- the cells on a row, of what holds a cell and its row
abbrev pub cells_by : {X : Type 0} → (X → Cell) → (X → Row) → Row → List X → List Cell
cells_by cell_of row_of row xs = map cell_of (filter (λ x. same_row (row_of x) row) xs)

-- what a cell costs on a row at a site: the site against the wanted site, and the line against the
-- wanted line
abbrev pub cell_cost : Price → Cell → Row → ℕ → ℕ
cell_cost price c row site = site_cost price c site + line_cost price c row.line

-- what all cells cost, of what holds a cell, its row and its site
abbrev pub costs_by : {X : Type 0} → (X → Cell) → (X → Row) → (X → ℕ) → Price → List X → ℕ
costs_by cell_of row_of site_of price [] = 0
costs_by cell_of row_of site_of price (x ∷ xs) =
    cell_cost price (cell_of x) (row_of x) (site_of x) + costs_by cell_of row_of site_of price xs

-- whether a seat is on a row
abbrev pub on_row : Row → Seat → Bool
on_row row s = same_row s.row row

-- where the seat of a number is among some seats
abbrev pub seat_index : ℕ → List Seat → Option ℕ
seat_index number seats = position_from (λ s. nat_eq s.cell.number number) 0 seats

-- the order of seats: by row order, then by wanted order
abbrev pub seat_ahead : Seat → Seat → Bool
seat_ahead s t = row_ahead s.row t.row || (on_row t.row s && before s.cell t.cell)

-- how seats stand: by row order, and on one row by their sites
abbrev pub stands_ahead : Seat → Seat → Bool
stands_ahead s t = row_ahead s.row t.row || (on_row t.row s && nat_lt s.site t.site)

-- the seats on a row, in their order
abbrev pub seats_on : Row → List Seat → List Seat
seats_on row seats = filter (on_row row) seats

-- a seat's cell
abbrev pub cell_of : Seat → Cell
cell_of s = s.cell

-- a seat's row
abbrev pub row_of : Seat → Row
row_of s = s.row

-- the cells on a row
abbrev pub cells_on : Row → List Seat → List Cell
cells_on row seats = map cell_of (seats_on row seats)

-- a seat's site
abbrev pub site_of : Seat → ℕ
site_of s = s.site

-- the sites of a row's seats
abbrev pub sites_on : Row → List Seat → List ℕ
sites_on row seats = map site_of (seats_on row seats)

-- a seat of a cell within its ranges, at a place
abbrev pub Sited : Seat → Type 0
Sited s = Passes s.cell × (s.site ≤ LAST_PLACE)

-- what the site of a seat costs
abbrev pub seat_cost : Price → Seat → ℕ
seat_cost price s = site_cost price s.cell s.site

-- a seat on a row that no seat of the row is ahead of, for a search
abbrev pub row_key : Row → Seat
row_key row = record {
  cell = record { number = 0; wanted = record { line = 0; site = 0 }; width = 0; weight = 0 };
  row = row;
  site = 0;
}

-- the cost of the sites of a row
abbrev pub row_cost : Price → Row → List Seat → ℕ
row_cost price row seats = sites_cost price (cells_on row seats) (sites_on row seats)

-- a seat for a cell on a row, before the row is set
abbrev pub new_seat : Row → Cell → Seat
new_seat row cell = record { cell = cell; row = row; site = 0 }

-- the seats with one more, in its place
abbrev pub joined : Row → Cell → List Seat → List Seat
joined row cell seats =
    let seat = new_seat row cell in
    insert seats (rank_of seat_ahead seats seat) seat

-- that `set` refuses neither the row nor its cells with one more
abbrev pub CanTake : Row → Cell → List Seat → Type 0
CanTake row cell seats = Ready row (cells_on row (joined row cell seats))

-- a seat at another site
abbrev pub moved : Seat → ℕ → Seat
moved s x = record { cell = s.cell; row = s.row; site = x }

-- the seats with the sites of a row's own rewritten, one after another
abbrev pub resited : Row → List ℕ → List Seat → List Seat
resited row sites [] = []
resited row [] (s ∷ seats) = s ∷ seats
resited row (x ∷ xs) (s ∷ seats) =
    if on_row row s then moved s x ∷ resited row xs seats else s ∷ resited row (x ∷ xs) seats

-- seats at other sites, one after another from the first on
abbrev pub moved_all : List ℕ → List Seat → List Seat
moved_all [] seats = seats
moved_all (x ∷ xs) [] = []
moved_all (x ∷ xs) (s ∷ seats) = moved s x ∷ moved_all xs seats

-- the seats once a row is set
abbrev pub settled : Price → Row → List Seat → List Seat
settled price row seats = resited row (row_sites price row (cells_on row seats)) seats

-- the cost of all seats: of the site against the wanted site, and of the line against the wanted
-- line
abbrev pub floor_cost : Price → List Seat → ℕ
floor_cost price = costs_by cell_of row_of site_of price
