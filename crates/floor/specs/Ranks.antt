-- What seats are ranked by, and that their order is total.
use Rattle.std.specs.Prelude.{◌≡◌, ℕ, true, false, List, [], ◌∷◌}
use Rattle.std.proofs.Common.{arith}
use Rattle.std.proofs.lemmas.Bool.{or_parts}
use Rattle.row.specs.Records.{before, row_ahead}
use Rattle.row.specs.declared.Cell.{Cell}
use Rattle.row.specs.declared.Row.{Row}
use Rattle.floor.specs.Seats.{on_row, seat_ahead}
use Rattle.floor.specs.declared.Seat.{Seat}

-- what a seat is ranked by: its row's line and left, then its cell's wanted site and number
abbrev pub seat_rank : Seat → List ℕ
seat_rank s = s.row.line ∷ s.row.left ∷ s.cell.wanted.site ∷ s.cell.number ∷ []

-- two rows of which neither is ahead have one line and one left
row_ties : (a b : Row) → row_ahead a b ≡ false → row_ahead b a ≡ false
    → (a.line ≡ b.line) × (a.left ≡ b.left)
row_ties a b p q = (grind arith, grind arith)

-- two cells of which neither is before the other have one wanted site and one number
cell_ties : (c d : Cell) → before c d ≡ false → before d c ≡ false
    → (c.wanted.site ≡ d.wanted.site) × (c.number ≡ d.number)
cell_ties c d p q = (grind arith, grind arith)

-- rows of one line and one left are one row to their seats
on_tied : (s t : Seat) → (s.row.line ≡ t.row.line) × (s.row.left ≡ t.row.left)
    → on_row t.row s ≡ true
on_tied s t rows = grind arith

-- of seats on one row, wanted order tells
ahead_on : (s t : Seat) → on_row t.row s ≡ true → seat_ahead s t ≡ false
    → before s.cell t.cell ≡ false
ahead_on s t on fails = grind arith

-- two seats of which neither is ahead have one rank
pub seat_total : (s t : Seat) → seat_ahead s t ≡ false → seat_ahead t s ≡ false
    → seat_rank s ≡ seat_rank t
seat_total s t p q =
    let rows = row_ties s.row t.row (or_parts (row_ahead s.row t.row) _ p).0
    (or_parts (row_ahead t.row s.row) _ q).0 in
    let on : on_row t.row s ≡ true = on_tied s t rows in
    let on_back : on_row s.row t ≡ true = grind arith in
    let cells = cell_ties s.cell t.cell (ahead_on s t on p) (ahead_on t s on_back q) in
    λ i. rows.0 i ∷ rows.1 i ∷ cells.0 i ∷ cells.1 i ∷ []
