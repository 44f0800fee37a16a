-- What the floor costs once a row has taken a cell: what it cost before, and the row's rise, which never goes below 0 where the row was set.
use Rattle.std.proofs.Common.{◌≡◌, ℕ, ◌+◌, ◌≤◌, Bool, true, false, cond, List, [], ◌∷◌, ◌++◌, map, length, take, drop, refl, ap, ◌∙◌, subst, arith}
use Rattle.std.proofs.lemmas.List.{take-append-drop, map-append}
use Rattle.std.specs.List.{insert}
use Rattle.measure.specs.Costs.{Fair, Price}
use Rattle.row.specs.Costs.{sites_cost}
use Rattle.row.specs.Sites.{row_sites}
use Rattle.row.specs.Stack.{Passes, Ready}
use Rattle.row.specs.declared.Cell.{Cell}
use Rattle.row.specs.declared.Row.{Row}
use Rattle.row.proofs.Accepted.{accepted}
use Rattle.row.proofs.Fewer.{fewer_costs}
use Rattle.floor.specs.Calls.{rise, seated}
use Rattle.floor.specs.Seats.{seat_cost, cell_of, site_of, on_row, seats_on, cells_on, sites_on, new_seat, joined, resited, row_cost, floor_cost}
use Rattle.floor.specs.declared.Seat.{Seat}
use Rattle.floor.proofs.Joining.{place, joined_on}
use Rattle.floor.proofs.Kept.{kept_yes, kept_no, kept_parts}
use Rattle.floor.proofs.Rising.{seated_cost}

module _ (f : Price) where
  -- the cost of the line of a seat, and of the sites of seats
  abbrev up : Seat → ℕ
  up s = f s.cell.wanted.line s.cell.weight s.row.line

  abbrev all_across : List Seat → ℕ
  all_across ss = sites_cost f (map cell_of ss) (map site_of ss)

  across-append : (ss ts : List Seat) → all_across (ss ++ ts) ≡ all_across ss + all_across ts
  across-append [] ts = omega arith
  across-append (s ∷ ss) ts = let rest = across-append ss ts in omega arith

  floor-append : (ss ts : List Seat) → floor_cost f (ss ++ ts) ≡ floor_cost f ss + floor_cost f ts
  floor-append [] ts = omega arith
  floor-append (s ∷ ss) ts = let rest = floor-append ss ts in omega arith

  -- a seat on the row counts, one on another does not
  row_more : (row : Row) (s : Seat) (seats : List Seat) → on_row row s ≡ true → row_cost f row (s ∷ seats) ≡ seat_cost f s + row_cost f row seats
  row_more row s seats on = ap all_across (kept_yes (on_row row) s seats on)

  row_same : (row : Row) (s : Seat) (seats : List Seat) → on_row row s ≡ false → row_cost f row (s ∷ seats) ≡ row_cost f row seats
  row_same row s seats off = ap all_across (kept_no (on_row row) s seats off)

  -- where the sites of a row's seats are rewritten, the floor's cost changes as the row's does
  resited_turn : (row : Row) (x : ℕ) (xs : List ℕ) (s : Seat) (seats : List Seat) (t : Bool) → on_row row s ≡ t
      → floor_cost f (resited row xs seats) + row_cost f row seats ≡ floor_cost f seats + row_cost f row (resited row xs seats)
      → floor_cost f (resited row (x ∷ xs) seats) + row_cost f row seats ≡ floor_cost f seats + row_cost f row (resited row (x ∷ xs) seats)
      → floor_cost f (cond t (record { cell = s.cell; row = s.row; site = x } ∷ resited row xs seats) (s ∷ resited row (x ∷ xs) seats)) + row_cost f row (s ∷ seats)
      ≡ floor_cost f (s ∷ seats) + row_cost f row (cond t (record { cell = s.cell; row = s.row; site = x } ∷ resited row xs seats) (s ∷ resited row (x ∷ xs) seats))
  resited_turn row x xs s seats true on one other =
      let to : Seat = record { cell = s.cell; row = s.row; site = x } in
      let before = row_more row s seats on in
      let after = row_more row to (resited row xs seats) on in
      omega arith
  resited_turn row x xs s seats false off one other =
      let before = row_same row s seats off in
      let after = row_same row s (resited row (x ∷ xs) seats) off in
      omega arith

  resited_cost : (row : Row) (xs : List ℕ) (seats : List Seat) → floor_cost f (resited row xs seats) + row_cost f row seats ≡ floor_cost f seats + row_cost f row (resited row xs seats)
  resited_cost row xs [] = refl
  resited_cost row [] (s ∷ seats) = refl
  resited_cost row (x ∷ xs) (s ∷ seats) = resited_turn row x xs s seats (on_row row s) refl (resited_cost row xs seats) (resited_cost row (x ∷ xs) seats)

  -- a seat more costs what it costs
  inserted_cost : (seats : List Seat) (n : ℕ) (s : Seat) → floor_cost f (insert seats n s) ≡ floor_cost f seats + (seat_cost f s + up s)
  inserted_cost seats n s =
      let new = floor-append (take n seats) (s ∷ drop n seats) in
      let old = floor-append (take n seats) (drop n seats) in
      let whole = ap (floor_cost f) (take-append-drop n seats) in
      omega arith

  module _ (row : Row) (cell : Cell) (seats : List Seat) where
    abbrev front : List Seat
    front = seats_on row (take (place row cell seats) seats)

    abbrev back : List Seat
    back = seats_on row (drop (place row cell seats) seats)

    joined_row_cost : row_cost f row (joined row cell seats) ≡ row_cost f row seats + seat_cost f (new_seat row cell)
    joined_row_cost =
        let new = ap all_across (joined_on row cell seats) in
        let old = ap all_across (kept_parts (on_row row) (place row cell seats) seats) in
        let more = across-append front (new_seat row cell ∷ back) in
        let less = across-append front back in
        omega arith

    -- the floor's cost once the row has taken the cell, and the row's cost before
    seated_floor_cost : floor_cost f (seated f seats cell row) + row_cost f row seats ≡ (floor_cost f seats + row_cost f row (seated f seats cell row)) + f cell.wanted.line cell.weight row.line
    seated_floor_cost =
        let set = resited_cost row (row_sites f row (cells_on row (joined row cell seats))) (joined row cell seats) in
        let one = inserted_cost seats (place row cell seats) (new_seat row cell) in
        let own = joined_row_cost in
        omega arith

    module _ (fair : Fair f) (passes : Passes cell) (old : Ready row (cells_on row seats)) (new : Ready row (cells_on row (joined row cell seats))) (was_set : sites_on row seats ≡ row_sites f row (cells_on row seats)) where
      old_parts : cells_on row seats ≡ map cell_of front ++ map cell_of back
      old_parts = ap (map cell_of) (kept_parts (on_row row) (place row cell seats) seats) ∙ map-append cell_of front back

      new_parts : cells_on row (joined row cell seats) ≡ map cell_of front ++ (cell ∷ map cell_of back)
      new_parts = ap (map cell_of) (joined_on row cell seats) ∙ map-append cell_of front (new_seat row cell ∷ back)

      -- the cost of a row's cells, set
      abbrev set_cost : List Cell → ℕ
      set_cost cs = sites_cost f cs (row_sites f row cs)

      -- the row costs no less than before
      pub never_less : row_cost f row seats ≤ row_cost f row (seated f seats cell row)
      never_less =
          let before : row_cost f row seats ≡ set_cost (cells_on row seats) = ap (sites_cost f (cells_on row seats)) was_set in
          let after = seated_cost fair seats row cell new in
          let less = fewer_costs f row fair (map cell_of front) cell (map cell_of back) (length (map cell_of front ++ map cell_of back)) (length (map cell_of front ++ (cell ∷ map cell_of back)))
          (accepted row (map cell_of front ++ map cell_of back) (length (map cell_of front ++ map cell_of back)) (subst (Ready row) old_parts old))
          (accepted row (map cell_of front ++ (cell ∷ map cell_of back)) (length (map cell_of front ++ (cell ∷ map cell_of back))) (subst (Ready row) new_parts new)) in
          let one = ap set_cost old_parts in
          let two = ap set_cost new_parts in
          omega arith

      -- so the rise is what the floor costs more
      pub rise_is : floor_cost f (seated f seats cell row) ≡ floor_cost f seats + rise f seats cell row
      rise_is = let whole = seated_floor_cost in let less = never_less in omega arith
