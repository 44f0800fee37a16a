-- What the checks decide: a floor, from its tables, decides on a call what the checks decide from what stands.
use Rattle.std.proofs.Common.{◌≡◌, ℕ, ◌+◌, ◌-◌, Bool, true, false, cond, not, ◌||◌, eqb, ltb, leb, List, [], ◌∷◌, map, filter, Some, None, Ok, Err, Option, Result, sym, refl, ap, ◌∙◌, subst, arith}
use Rattle.std.proofs.lemmas.Bool.{cond_both, cond-true, cond-false}
use Rattle.std.proofs.lemmas.List.{length-map}
use Rattle.std.specs.List.{AllByRecursion, list_any}
use Rattle.std.specs.Option.{option_map, ok_or}
use mathlib.Core.List.{map-map}
use mathlib.Core.Path.{fun_ext}
use Rattle.measure.specs.Costs.{Price}
use Rattle.row.specs.Checked.{checked}
use Rattle.row.specs.Records.{check, then, cell_fault, widths}
use Rattle.row.specs.declared.Cell.{Cell}
use Rattle.row.specs.declared.Fault.{Fault}
use Rattle.row.specs.declared.Row.{Row}
use Rattle.floor.specs.Calls.{seat_of, spot, outcome_unless, chosen, outcome_on, place}
use Rattle.floor.specs.Refusals.{stands_by, stands, has_sites_by, has_sites, cell_refusal_by, cell_refusal, place_refusal_by, place_refusal}
use Rattle.floor.specs.Rows.{same_row}
use Rattle.floor.specs.Seats.{cells_by, seats_on, cells_on}
use Rattle.floor.specs.Tables.{Tables}
use Rattle.floor.specs.declared.Placing.{Placing}
use Rattle.floor.specs.declared.Refusal.{Refusal}
use Rattle.floor.specs.declared.Refusal.TheVariants.{OutOfRange, NumberStands, CellsFull, NoRoom, NotStanding}
use Rattle.floor.specs.declared.Seat.{Seat}
use Rattle.floor.proofs.Anys.{any_map}
use Rattle.floor.proofs.Leaving.{withdraw_answer}
use Rattle.floor.proofs.Refused.{add_checked, place_checked}
use Rattle.floor.proofs.Tests.{none_any, any_none}
use Rattle.history.specs.Events.{event_of}
use Rattle.history.specs.Histories.{Standing, cell_of, row_of, refused, decide}
use Rattle.history.specs.Law.{FullExactly}
use Rattle.history.specs.declared.call.Call.{Call}
use Rattle.history.specs.declared.call.Call.TheVariants.{AddRow, Place, Try, Withdraw}
use Rattle.history.proofs.Held.{standing_of}

-- what passes it
pub kept_map : {X Y : Type 0} (f : X → Y) (test : Y → Bool) (xs : List X) → filter test (map f xs) ≡ map f (filter (λ x. test (f x)) xs)
kept_map f test [] = refl
kept_map f test (x ∷ xs) =
    cond_both (test (f x)) (x ∷ filter (λ x. test (f x)) xs) (filter (λ x. test (f x)) xs) (λ l. filter test (map f (x ∷ xs)) ≡ map f l)
    (λ yes. cond-true (test (f x)) (f x ∷ filter test (map f xs)) (filter test (map f xs)) yes ∙ ap (λ l. f x ∷ l) (kept_map f test xs))
    (λ no. cond-false (test (f x)) (f x ∷ filter test (map f xs)) (filter test (map f xs)) no ∙ kept_map f test xs)

module _ (seats : List Seat) where
  -- the seats as standing cells
  abbrev all_standing : List Standing
  all_standing = map standing_of seats

  -- a number stands
  stands_map : (number : ℕ) → stands_by cell_of row_of number all_standing ≡ stands number seats
  stands_map number = any_map standing_of (λ k. eqb k.cell.number number) seats

  -- the cells on a row
  cells_map : (row : Row) → cells_by cell_of row_of row all_standing ≡ cells_on row seats
  cells_map row = ap (map cell_of) (kept_map standing_of (λ k. same_row k.row row) seats) ∙ map-map cell_of standing_of (seats_on row seats)

  -- whether a row has sites
  has_sites_map : (cell : Cell) (row : Row) → has_sites_by cell_of row_of all_standing cell row ≡ has_sites seats cell row
  has_sites_map cell row = ap (λ cs. leb (widths cs + cell.width) (row.right - row.left)) (cells_map row)

  -- the checks of placing that do not look at the rows
  cell_map : (cell : Cell) → cell_refusal_by cell_of row_of all_standing cell ≡ cell_refusal seats cell
  cell_map cell =
      λ i. then (option_map OutOfRange (cell_fault cell)) (check (not (stands_map cell.number i)) NumberStands (check (ltb (length-map seats standing_of i) 1024) CellsFull None))

  -- the checks of placing
  place_map : (rows : List Row) (cell : Cell) → place_refusal_by cell_of row_of rows all_standing cell ≡ place_refusal rows seats cell
  place_map rows cell = λ i. then (cell_map cell i) (check (list_any (fun_ext (has_sites_map cell) i) rows) NoRoom None)

  -- a number that stands is found
  found_checked : (number : ℕ) (some : List Seat) → checked (ok_or (option_map spot (seat_of number some)) NotStanding) ≡ check (stands number some) NotStanding None
  found_checked number [] = refl
  found_checked number (s ∷ some) = by_test (eqb s.cell.number number) (found_checked number some)
    where
      by_test : (t : Bool) → checked (ok_or (option_map spot (seat_of number some)) NotStanding) ≡ check (stands number some) NotStanding None
          → checked (ok_or {E = Refusal} (option_map spot (cond t (Some s) (seat_of number some))) NotStanding) ≡ check (t || stands number some) NotStanding None
      by_test true rest = refl
      by_test false rest = rest

module _ (f : Price) (t : Tables) where
  -- every call is refused as the checks decide from what stands
  pub decided : (call : Call) → refused (event_of f t call) ≡ decide t.rows (map standing_of t.seats) call
  decided (AddRow row) = add_checked t row
  decided (Place cell) = place_checked f t cell ∙ sym (place_map t.seats t.rows cell)
  decided (Try cell) = place_checked f t cell ∙ sym (place_map t.seats t.rows cell)
  decided (Withdraw number) =
      ap checked (withdraw_answer f t number)
      ∙ found_checked t.seats number t.seats
      ∙ sym (ap (λ stands. check stands NotStanding None) (stands_map t.seats number))

-- the checks of placing that do not look at the rows refuse nothing for want of sites
not_for_room : (o : Option Fault) (fresh few : Bool) → then (option_map OutOfRange o) (check fresh NumberStands (check few CellsFull None)) ≡ Some NoRoom → ⊥
not_for_room (Some fault) fresh few e = let never : ◌≡◌ {A = ℕ} 0 1 = cc in absurd (omega arith)
not_for_room None false few e = let never : ◌≡◌ {A = ℕ} 0 1 = cc in absurd (omega arith)
not_for_room None true false e = let never : ◌≡◌ {A = ℕ} 0 1 = cc in absurd (omega arith)
not_for_room None true true e = let never : ◌≡◌ {A = ℕ} 0 1 = cc in absurd (omega arith)

-- a last check that fails, where those before it do not refuse for what it refuses for
last_fails : (o : Option Refusal) (some : Bool) → (o ≡ Some NoRoom → ⊥) → then o (check some NoRoom None) ≡ Some NoRoom → (o ≡ None) × (some ≡ false)
last_fails (Some refusal) some not e = absurd (not e)
last_fails None true not e = let never : ◌≡◌ {A = ℕ} 0 1 = cc in absurd (omega arith)
last_fails None false not e = (refl, refl)

module _ (f : Price) (t : Tables) (cell : Cell) where
  -- no row has sites, in both views
  none_map : AllByRecursion (λ row. has_sites t.seats cell row ≡ false) t.rows → AllByRecursion (λ row. has_sites_by cell_of row_of (map standing_of t.seats) cell row ≡ false) t.rows
  none_map = subst (λ test. AllByRecursion (λ row. test row ≡ false) t.rows) (sym (fun_ext (has_sites_map t.seats cell)))

  -- and back
  map_none : AllByRecursion (λ row. has_sites_by cell_of row_of (map standing_of t.seats) cell row ≡ false) t.rows → AllByRecursion (λ row. has_sites t.seats cell row ≡ false) t.rows
  map_none = subst (λ test. AllByRecursion (λ row. test row ≡ false) t.rows) (fun_ext (has_sites_map t.seats cell))

  -- an answer that is refused for want of sites is so
  room_refused : (r : Result Placing Refusal) → checked r ≡ Some NoRoom → r ≡ Err NoRoom
  room_refused (Ok placing) e = cc
  room_refused (Err refusal) e = cc

  -- a placing is refused for want of sites exactly where no row has sites and no other check fails
  pub full_exactly : FullExactly t.rows (map standing_of t.seats) cell (place f t cell).answer
  full_exactly = (
    λ e.
        let parts = last_fails (cell_refusal t.seats cell) (list_any (has_sites t.seats cell) t.rows) (not_for_room (cell_fault cell) _ _) (sym (place_checked f t cell) ∙ ap checked e) in
        (cell_map t.seats cell ∙ parts.0, none_map (none_any (has_sites t.seats cell) t.rows (ap not parts.1))),
    λ both.
        let free = sym (cell_map t.seats cell) ∙ both.0 in
        let full = any_none (has_sites t.seats cell) t.rows (map_none both.1) in
        let fails : place_refusal t.rows t.seats cell ≡ Some NoRoom = λ i. then (free i) (check (full i) NoRoom None) in
        room_refused (place f t cell).answer (place_checked f t cell ∙ fails),
  )

  -- where a placing is refused, the tables stay: on a row that is chosen or none ..
  on_stays : (refusal : Refusal) (o : Option Row) → (outcome_on f t cell o).answer ≡ Err refusal → (outcome_on f t cell o).tables ≡ t
  on_stays refusal None e = refl
  on_stays refusal (Some row) e = cc

  -- .. and whatever the checks say
  or_stays : (refusal : Refusal) (o : Option Refusal) → (outcome_unless o t (outcome_on f t cell (chosen f t.seats cell t.rows))).answer ≡ Err refusal
      → (outcome_unless o t (outcome_on f t cell (chosen f t.seats cell t.rows))).tables ≡ t
  or_stays refusal None e = on_stays refusal (chosen f t.seats cell t.rows) e
  or_stays refusal (Some other) e = refl

  pub tables_stay : (refusal : Refusal) → (place f t cell).answer ≡ Err refusal → (place f t cell).tables ≡ t
  tables_stay refusal e = or_stays refusal (cell_refusal t.seats cell) e

  -- and it changes no row
  on_rows : (o : Option Row) → (outcome_on f t cell o).tables.rows ≡ t.rows
  on_rows None = refl
  on_rows (Some row) = refl

  or_rows : (o : Option Refusal) → (outcome_unless o t (outcome_on f t cell (chosen f t.seats cell t.rows))).tables.rows ≡ t.rows
  or_rows None = on_rows (chosen f t.seats cell t.rows)
  or_rows (Some refusal) = refl

  pub rows_stay : (place f t cell).tables.rows ≡ t.rows
  rows_stay = or_rows (cell_refusal t.seats cell)
