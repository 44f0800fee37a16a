-- A cell joins a row of a floor: what holds of the seats then, and that the floor is well formed once the row is set.
use Rattle.std.proofs.Common.{◌≡◌, ℕ, ◌+◌, ◌-◌, ◌<◌, ◌≤◌, true, false, not, ◌&&◌, eqb, ltb, List, [], ◌∷◌, ◌++◌, map, length, take, drop, None, sym, ap, subst, ⊎_elim, arith}
use Rattle.std.proofs.lemmas.List.Edits.{length-insert}
use Rattle.std.proofs.ByRecursion.{All-weaker}
use Rattle.std.proofs.lemmas.List.Sums.{prefix_len-le-length}
use Rattle.std.proofs.lemmas.Bool.{and_from, and_cases, not-true, or_parts, or_left, or_right, leb-true, ltb-true, both_ways, cases_Bool}
use Rattle.std.specs.Option.{option_map}
use Rattle.std.specs.List.{AllByRecursion}
use Rattle.measure.specs.Costs.{Fair, Price}
use Rattle.row.specs.Records.{check, cell_fault, before, row_ahead, widths}
use Rattle.row.specs.Stack.{Passes, Ready}
use Rattle.row.specs.declared.Cell.{Cell}
use Rattle.row.specs.declared.Row.{Row}
use Rattle.row.proofs.Accepted.{both, unmapped, Fitting, ready_fitting}
use Rattle.row.proofs.Ranges.{passed, ranged_row}
use Rattle.table.specs.Order.{Ordered, rank_of}
use Rattle.table.proofs.Inserted.{Pairs, put_all, put_ordered, put_pairs, inserted_is}
use Rattle.floor.specs.Calls.{seated}
use Rattle.floor.specs.Formed.{formed}
use Rattle.floor.specs.Refusals.{stands, has_sites, cell_refusal}
use Rattle.floor.specs.Rows.{same_row}
use Rattle.floor.specs.Seats.{on_row, seat_ahead, seats_on, cells_on, new_seat, joined, settled, Sited as Placed}
use Rattle.floor.specs.declared.Refusal.TheVariants.{OutOfRange, NumberStands, CellsFull}
use Rattle.floor.specs.declared.Seat.{Seat}
use Rattle.floor.proofs.Kept.{all_with, kept_parts, kept_more, kept_same}
use Rattle.floor.proofs.Listed.{Standing, standing_passes, Differ, Listed, Inside, After, Sited, formed_listed, formed_sited}
use Rattle.floor.proofs.Orders.{same_refl, same_sym, row_total, seat_chain}
use Rattle.floor.proofs.Resited.{own_row}
use Rattle.floor.proofs.Settling.{row_accepts, row_fitting, settled_formed}
use Rattle.floor.proofs.Tests.{none_any}

-- of two cells with two numbers, one is before the other
before_total : (c d : Cell) → eqb c.number d.number ≡ false → before c d ≡ false → before d c ≡ true
before_total c d differ behind = grind arith

-- of two seats with two numbers, one is ahead
pub seat_total : (s t : Seat) → Differ s t → seat_ahead s t ≡ false → seat_ahead t s ≡ true
seat_total s t differ behind =
    let parts = or_parts (row_ahead s.row t.row) (on_row t.row s && before s.cell t.cell) behind in
    ⊎_elim
    (λ on.
    ⊎_elim
    (λ off. absurd (both_ways (on_row t.row s) off on))
    (λ later. or_right (row_ahead t.row s.row) (on_row s.row t && before t.cell s.cell) (and_from (on_row s.row t) (before t.cell s.cell) (same_sym s.row t.row on) (before_total s.cell t.cell differ later)))
    (and_cases (on_row t.row s) (before s.cell t.cell) parts.1))
    (λ off. or_left (row_ahead t.row s.row) (on_row s.row t && before t.cell s.cell) (row_total s.row t.row parts.0 off))
    (cases_Bool (on_row t.row s))

-- two numbers differ both ways
differ_turn : (s t : Seat) → Differ s t → Differ t s
differ_turn s t e = grind arith

-- what is known where placing refuses nothing
pub record Placeable (seats : List Seat) (cell : Cell) : Type 0 where
  pub passes : Passes cell
  pub fresh : stands cell.number seats ≡ false
  pub few : length seats < 1024

pub placeable : (seats : List Seat) (cell : Cell) → cell_refusal seats cell ≡ None → Placeable seats cell
placeable seats cell none =
    let ranges = both (option_map OutOfRange (cell_fault cell)) (check (not (stands cell.number seats)) NumberStands (check (ltb (length seats) 1024) CellsFull None)) none in
    let number = passed (not (stands cell.number seats)) NumberStands (check (ltb (length seats) 1024) CellsFull None) ranges.1 in
    let full = passed (ltb (length seats) 1024) CellsFull None number.1 in
    record {
      passes = unmapped OutOfRange (cell_fault cell) ranges.0;
      fresh = not-true (stands cell.number seats) number.0;
      few = ltb-true (length seats) 1024 full.0;
    }

-- no seat has the number of a cell that can be placed
pub fresh_each : (seats : List Seat) (cell : Cell) → stands cell.number seats ≡ false → AllByRecursion (λ s. eqb s.cell.number cell.number ≡ false) seats
fresh_each seats cell fresh = none_any (λ s. eqb s.cell.number cell.number) seats (ap not fresh)

-- the widths of two lots of seats
widths-append : (ss ts : List Seat) → widths (map (λ s. s.cell) (ss ++ ts)) ≡ widths (map (λ s. s.cell) ss) + widths (map (λ s. s.cell) ts)
widths-append [] ts = omega arith
widths-append (s ∷ ss) ts = let rest = widths-append ss ts in omega arith

-- two rows differ both ways
turned : (a b : Row) → same_row a b ≡ false → same_row b a ≡ false
turned a b e = grind arith

module _ (row : Row) (cell : Cell) (seats : List Seat) where
  -- the place of the new seat
  abbrev pub place : ℕ
  place = rank_of seat_ahead seats (new_seat row cell)

  -- one seat more
  pub joined_length : length (joined row cell seats) ≡ length seats + 1
  joined_length = length-insert seats place (new_seat row cell) (prefix_len-le-length (λ s. seat_ahead s (new_seat row cell)) seats)

  -- the row has the new seat between its own
  pub joined_on : seats_on row (joined row cell seats) ≡ seats_on row (take place seats) ++ (new_seat row cell ∷ seats_on row (drop place seats))
  joined_on = kept_more (on_row row) place (new_seat row cell) seats (same_refl row)

  -- and its width more
  pub joined_widths : widths (cells_on row (joined row cell seats)) ≡ widths (cells_on row seats) + cell.width
  joined_widths =
      let front : List Seat = seats_on row (take place seats) in
      let back : List Seat = seats_on row (drop place seats) in
      let new = ap (λ l. widths (map (λ s. s.cell) l)) joined_on in
      let more = widths-append front (new_seat row cell ∷ back) in
      let old = ap (λ l. widths (map (λ s. s.cell) l)) (kept_parts (on_row row) place seats) in
      let less = widths-append front back in
      omega arith

  -- any other row has the seats that it had
  pub joined_others : (r : Row) → same_row r row ≡ false → seats_on r (joined row cell seats) ≡ seats_on r seats
  joined_others r other = kept_same (on_row r) place (new_seat row cell) seats (turned r row other)

  -- the seats stay in their order
  pub joined_ordered : Ordered seat_ahead seats → stands cell.number seats ≡ false → Ordered seat_ahead (joined row cell seats)
  joined_ordered ordered fresh =
      let k : Seat = new_seat row cell in
      subst (Ordered seat_ahead) (sym (inserted_is seat_ahead k seats))
      (put_ordered seat_ahead k seat_chain seats (All-weaker (λ s. eqb s.cell.number cell.number ≡ false) (λ s. seat_ahead s k ≡ false → seat_ahead k s ≡ true) (λ s. seat_total s k) seats (fresh_each seats cell fresh)) ordered)

  -- and at places
  pub joined_sited : AllByRecursion Placed seats → Passes cell → AllByRecursion Placed (joined row cell seats)
  joined_sited sited passes =
      let k : Seat = new_seat row cell in
      subst (AllByRecursion Placed) (sym (inserted_is seat_ahead k seats)) (put_all seat_ahead k Placed seats (passes, omega arith) sited)

  -- what `formed` says whatever the sites stays
  pub joined_listed : (rows : List Row) → Listed rows seats → Standing rows row → Placeable seats cell → Listed rows (joined row cell seats)
  joined_listed rows listed standing can =
      let k : Seat = new_seat row cell in
      let put = inserted_is seat_ahead k seats in
      record {
        well = listed.well;
        pass = subst (AllByRecursion (λ s. Passes s.cell)) (sym put) (put_all seat_ahead k (λ s. Passes s.cell) seats can.passes listed.pass);
        stand = subst (AllByRecursion (λ s. Standing rows s.row)) (sym put) (put_all seat_ahead k (λ s. Standing rows s.row) seats standing listed.stand);
        order = joined_ordered listed.order can.fresh;
        differ = subst (Pairs Differ) (sym put) (put_pairs seat_ahead k Differ differ_turn seats (All-weaker (λ s. eqb s.cell.number cell.number ≡ false) (Differ k) (λ s. differ_turn s k) seats (fresh_each seats cell can.fresh)) listed.differ);
      }

  -- `set` accepts the row's cells with the new one
  pub joined_ready : (rows : List Row) → Listed rows seats → Standing rows row → Placeable seats cell → has_sites seats cell row ≡ true → Ready row (cells_on row (joined row cell seats))
  joined_ready rows listed standing can sites =
      let few = can.few in
      let long = joined_length in
      let wide = leb-true (widths (cells_on row seats) + cell.width) (row.right - row.left) sites in
      let all = joined_widths in
      row_accepts rows row (joined row cell seats) (joined_listed rows listed standing can) standing (omega arith) (omega arith)

-- a floor is well formed once a cell has joined a row that has sites for it
pub seated_formed : (price : Price) → Fair price → (rows : List Row) (seats : List Seat) (cell : Cell) (row : Row) → formed rows seats ≡ true → Placeable seats cell → Standing rows row → has_sites seats cell row ≡ true → formed rows (seated price seats cell row) ≡ true
seated_formed price fair rows seats cell row well can standing sites =
    let listed = formed_listed rows seats well in
    settled_formed price fair row (joined row cell seats) (ready_fitting row (cells_on row (joined row cell seats)) (joined_ready row cell seats rows listed standing can sites)) rows (joined_listed row cell seats rows listed standing can) standing
    (λ r other. subst Sited (sym (joined_others row cell seats r other)) (formed_sited rows seats well r))

-- seats one behind the other, from lo on, cover no more than what is there
cover : (ss : List Seat) (lo right : ℕ) → lo ≤ right → AllByRecursion (λ s. lo ≤ s.site) ss → AllByRecursion (λ s. s.site + s.cell.width ≤ right) ss → Pairs After ss → lo + widths (map (λ s. s.cell) ss) ≤ right
cover [] lo right room from to clear = omega arith
cover (s ∷ ss) lo right room from to clear =
    let rest = cover ss (s.site + s.cell.width) right to.0 clear.0 to.1 clear.1 in
    let low = from.0 in
    omega arith

-- the cells of a standing row of a floor fit it
pub row_fits : (rows : List Row) (seats : List Seat) (row : Row) → formed rows seats ≡ true → Standing rows row → row.left + widths (cells_on row seats) ≤ row.right
row_fits rows seats row well standing =
    let listed = formed_listed rows seats well in
    let sited = formed_sited rows seats well row in
    let own = own_row rows row seats listed standing in
    let here : AllByRecursion (λ s. (row.left ≤ s.site) × (s.site + s.cell.width ≤ row.right)) (seats_on row seats) =
    all_with (λ s. s.row ≡ row) Inside (λ s. (row.left ≤ s.site) × (s.site + s.cell.width ≤ row.right)) (λ s e inside. subst (λ r. (r.left ≤ s.site) × (s.site + s.cell.width ≤ r.right)) e inside) (seats_on row seats) own sited.inside in
    let some = (ranged_row row (standing_passes rows listed.well row standing)).some in
    cover (seats_on row seats) row.left row.right (omega arith)
    (All-weaker (λ s. (row.left ≤ s.site) × (s.site + s.cell.width ≤ row.right)) (λ s. row.left ≤ s.site) (λ s h. h.0) (seats_on row seats) here)
    (All-weaker (λ s. (row.left ≤ s.site) × (s.site + s.cell.width ≤ row.right)) (λ s. s.site + s.cell.width ≤ row.right) (λ s h. h.1) (seats_on row seats) here)
    sited.clear

-- so they fit it, and setting it leaves the floor well formed
pub standing_fitting : (rows : List Row) (seats : List Seat) (row : Row) → formed rows seats ≡ true → Standing rows row → Fitting row (cells_on row seats)
standing_fitting rows seats row well standing = row_fitting rows row seats (formed_listed rows seats well) standing (row_fits rows seats row well standing)

pub set_formed : (price : Price) → Fair price → (rows : List Row) (seats : List Seat) (row : Row) → formed rows seats ≡ true → Standing rows row → formed rows (settled price row seats) ≡ true
set_formed price fair rows seats row well standing =
    settled_formed price fair row seats (standing_fitting rows seats row well standing) rows (formed_listed rows seats well) standing (λ r other. formed_sited rows seats well r)

-- and `set` accepts them
pub row_ready : (rows : List Row) (seats : List Seat) (row : Row) → formed rows seats ≡ true → Standing rows row → length seats ≤ 1024 → Ready row (cells_on row seats)
row_ready rows seats row well standing few =
    let fits = row_fits rows seats row well standing in
    row_accepts rows row seats (formed_listed rows seats well) standing few (omega arith)
