-- What is known once a row is chosen for a cell.
use Rattle.std.proofs.Common.{◌≡◌, ℕ, ◌≤◌, Bool, true, false, cond, ◌||◌, eqb, leb, List, [], ◌∷◌, Some, None, Ok, Err, Option, IsSome, IfSome, length, sym, refl, ap, ◌∙◌, subst, arith}
use Rattle.std.proofs.lemmas.Bool.{or_left, or_right, cond_both, cond-false, eq-eqb, both_ways}
use Rattle.std.proofs.ByRecursion.{All-weaker}
use Rattle.std.proofs.lemmas.Option.{same_Some}
use Rattle.std.specs.List.{AllByRecursion, list_any}
use Rattle.std.specs.Option.{option_map, ok_or}
use Rattle.measure.specs.Costs.{Fair, Price}
use Rattle.row.specs.Records.{check}
use Rattle.row.specs.Sites.{row_sites}
use Rattle.row.proofs.Accepted.{both}
use Rattle.row.specs.declared.Cell.{Cell}
use Rattle.row.specs.declared.Row.{Row}
use Rattle.table.proofs.Inserted.{put_in, put_all, inserted_is}
use Rattle.floor.specs.Calls.{refusal_outcome, placing_on, outcome_unless, better, chosen, rise, seated, seat_of, outcome_on, place}
use Rattle.floor.specs.Choices.{best_choice, choice_of, sites_with}
use Rattle.floor.specs.Formed.{formed}
use Rattle.floor.specs.Refusals.{has_sites, stands, cell_refusal, place_refusal}
use Rattle.floor.specs.Seats.{seat_ahead, cells_on, new_seat, joined, resited}
use Rattle.floor.specs.Tables.{Tables, Outcome}
use Rattle.floor.specs.declared.Placing.{Placing}
use Rattle.floor.specs.declared.Refusal.TheVariants.{NoRoom}
use Rattle.floor.specs.declared.Seat.{Seat}
use Rattle.floor.specs.declared.choice.Choice.{Choice}
use Rattle.floor.proofs.Anys.{any_map}
use Rattle.floor.proofs.Granted.{sites_each}
use Rattle.floor.proofs.Settling.{ready_places}
use Rattle.floor.proofs.Joining.{Placeable, placeable, fresh_each, seated_formed}
use Rattle.floor.proofs.Listed.{is_row, Standing}
use Rattle.floor.proofs.Ready.{ready_standing}
use Rattle.floor.proofs.Resited.{resited_all, resited_cells}

-- what is chosen is a standing row that has sites
pub record Good (rows : List Row) (seats : List Seat) (cell : Cell) (row : Row) : Type 0 where
  pub stands : Standing rows row
  pub fits : has_sites seats cell row ≡ true

is_row_self : (row : Row) → is_row row row ≡ true
is_row_self row = grind arith

later : (first : Row) (rows : List Row) (seats : List Seat) (cell : Cell) (row : Row) → Good rows seats cell row → Good (first ∷ rows) seats cell row
later first rows seats cell row g = record { stands = or_right (is_row row first) (list_any (is_row row) rows) g.stands; fits = g.fits }

better_good : (f : Price) (first : Row) (rows : List Row) (seats : List Seat) (cell : Cell) (row : Row) (o : Option Row) → has_sites seats cell first ≡ true → ((r : Row) → o ≡ Some r → Good rows seats cell r) → better (rise f seats cell) first o ≡ Some row → Good (first ∷ rows) seats cell row
better_good f first rows seats cell row None fits rest e =
    subst (Good (first ∷ rows) seats cell) (same_Some first row e) (record { stands = or_left (is_row first first) (list_any (is_row first) rows) (is_row_self first); fits = fits })
better_good f first rows seats cell row (Some other) fits rest e = by_test (leb (rise f seats cell first) (rise f seats cell other)) e
  where
    by_test : (t : Bool) → cond t (Some first) (Some other) ≡ Some row → Good (first ∷ rows) seats cell row
    by_test true h = subst (Good (first ∷ rows) seats cell) (same_Some first row h) (record { stands = or_left (is_row first first) (list_any (is_row first) rows) (is_row_self first); fits = fits })
    by_test false h = later first rows seats cell row (rest row h)

by_sites : (f : Price) (first : Row) (rows : List Row) (seats : List Seat) (cell : Cell) (row : Row) (t : Bool) → has_sites seats cell first ≡ t → ((r : Row) → chosen f seats cell rows ≡ Some r → Good rows seats cell r) → cond t (better (rise f seats cell) first (chosen f seats cell rows)) (chosen f seats cell rows) ≡ Some row → Good (first ∷ rows) seats cell row
by_sites f first rows seats cell row true fits rest e = better_good f first rows seats cell row (chosen f seats cell rows) fits rest e
by_sites f first rows seats cell row false fits rest e = later first rows seats cell row (rest row e)

pub chosen_good : (f : Price) (rows : List Row) (seats : List Seat) (cell : Cell) (row : Row) → chosen f seats cell rows ≡ Some row → Good rows seats cell row
chosen_good f [] seats cell row e = let never : ◌≡◌ {A = ℕ} 0 1 = cc in absurd (omega arith)
chosen_good f (first ∷ rows) seats cell row e = by_sites f first rows seats cell row (has_sites seats cell first) refl (λ r. chosen_good f rows seats cell r) e

-- a row that is chosen has sites
any_by : (seats : List Seat) (cell : Cell) (first : Row) (rows : List Row) (t : Bool) → has_sites seats cell first ≡ t → (t ≡ false → list_any (has_sites seats cell) rows ≡ true) → list_any (has_sites seats cell) (first ∷ rows) ≡ true
any_by seats cell first rows true fits rest = or_left (has_sites seats cell first) (list_any (has_sites seats cell) rows) fits
any_by seats cell first rows false fits rest = or_right (has_sites seats cell first) (list_any (has_sites seats cell) rows) (rest refl)

pub chosen_any : (f : Price) (rows : List Row) (seats : List Seat) (cell : Cell) (row : Row) → chosen f seats cell rows ≡ Some row → list_any (has_sites seats cell) rows ≡ true
chosen_any f [] seats cell row e = let never : ◌≡◌ {A = ℕ} 0 1 = cc in absurd (omega arith)
chosen_any f (first ∷ rows) seats cell row e =
    any_by seats cell first rows (has_sites seats cell first) refl
    (λ no. chosen_any f rows seats cell row (sym (cond-false (has_sites seats cell first) (better (rise f seats cell) first (chosen f seats cell rows)) (chosen f seats cell rows) no) ∙ e))

-- and where nothing is refused, the checks that do not look at the rows refuse nothing
pub free_cell : (rows : List Row) (seats : List Seat) (cell : Cell) → place_refusal rows seats cell ≡ None → cell_refusal seats cell ≡ None
free_cell rows seats cell none = (both (cell_refusal seats cell) (check (list_any (has_sites seats cell) rows) NoRoom None) none).0

-- a seat that has joined is found by its number
any_new : {X : Type 0} (ahead : X → X → Bool) (k : X) (test : X → Bool) (xs : List X) → test k ≡ true → list_any test (put_in ahead k xs) ≡ true
any_new ahead k test [] own = or_left (test k) false own
any_new ahead k test (x ∷ xs) own =
    cond_both (ahead x k) (x ∷ put_in ahead k xs) (k ∷ x ∷ xs) (λ l. list_any test l ≡ true) (λ yes. or_right (test x) (list_any test (put_in ahead k xs)) (any_new ahead k test xs own)) (λ no. or_left (test k) (list_any test (x ∷ xs)) own)

stands_found : (number : ℕ) (seats : List Seat) → stands number seats ≡ true → IsSome (seat_of number seats)
stands_found number [] e = absurd (both_ways false refl e)
stands_found number (s ∷ seats) e = by_test (eqb s.cell.number number) e (stands_found number seats)
  where
    by_test : (t : Bool) → t || stands number seats ≡ true → (stands number seats ≡ true → IsSome (seat_of number seats)) → IsSome (cond t (Some s) (seat_of number seats))
    by_test true e rest = refl
    by_test false e rest = rest e

pub seated_found : (f : Price) (seats : List Seat) (cell : Cell) (row : Row) → IsSome (seat_of cell.number (seated f seats cell row))
seated_found f seats cell row =
    let all : List Seat = joined row cell seats in
    let sites = row_sites f row (cells_on row all) in
    let test : Cell → Bool = λ c. eqb c.number cell.number in
    let own : list_any (λ s. test s.cell) all ≡ true = ap (list_any (λ s. test s.cell)) (inserted_is seat_ahead (new_seat row cell) seats) ∙ any_new seat_ahead (new_seat row cell) (λ s. test s.cell) seats (eq-eqb cell.number cell.number refl) in
    stands_found cell.number (resited row sites all)
    (sym (any_map (λ s. s.cell) test (resited row sites all)) ∙ ap (list_any test) (resited_cells row sites all) ∙ any_map (λ s. s.cell) test all ∙ own)

-- what holds of the seats of a number holds of the one that is found
pub found_has : (P : Seat → Type 0) (number : ℕ) (seats : List Seat) (s : Seat) → AllByRecursion (λ t. eqb t.cell.number number ≡ true → P t) seats → seat_of number seats ≡ Some s → P s
found_has P number [] s all e = let never : ◌≡◌ {A = ℕ} 0 1 = cc in absurd (omega arith)
found_has P number (t ∷ seats) s all e = by_test (eqb t.cell.number number) refl (found_has P number seats s all.1) e
  where
    by_test : (b : Bool) → eqb t.cell.number number ≡ b → (seat_of number seats ≡ Some s → P s) → cond b (Some t) (seat_of number seats) ≡ Some s → P s
    by_test true is rest h = subst P (same_Some t s h) (all.0 is)
    by_test false is rest h = rest h

-- the seat that is found by the number of a new cell is on the row that took it
pub seated_row : (f : Price) (seats : List Seat) (cell : Cell) (row : Row) (s : Seat) → stands cell.number seats ≡ false → seat_of cell.number (seated f seats cell row) ≡ Some s → s.row ≡ row
seated_row f seats cell row s fresh found =
    let k : Seat = new_seat row cell in
    let all : List Seat = joined row cell seats in
    let P : Seat → Type 0 = λ t. eqb t.cell.number cell.number ≡ true → t.row ≡ row in
    let old : AllByRecursion P seats = All-weaker (λ t. eqb t.cell.number cell.number ≡ false) P (λ t no yes. absurd (both_ways (eqb t.cell.number cell.number) no yes)) seats (fresh_each seats cell fresh) in
    let each : AllByRecursion P all = subst (AllByRecursion P) (sym (inserted_is seat_ahead k seats)) (put_all seat_ahead k P seats (λ _. refl) old) in
    found_has (λ t. t.row ≡ row) cell.number (seated f seats cell row) s (resited_all row P (λ t x h. h) (row_sites f row (cells_on row all)) all each) found

-- what is known once a row is chosen for a cell that no other check refuses, with the sites that were kept
pub record Chose (f : Price) (t : Tables) (cell : Cell) (choice : Choice) (kept : List ℕ) : Type 0 where
  pub is : chosen f t.seats cell t.rows ≡ Some choice.row
  pub placing : choice.placing ≡ placing_on f t.seats cell choice.row
  pub sites : kept ≡ sites_with f t.seats cell choice.row
  pub can : Placeable t.seats cell
  pub free : cell_refusal t.seats cell ≡ None
  pub each : length kept ≡ length (cells_on choice.row (joined choice.row cell t.seats))
  pub places : AllByRecursion (λ x. x ≤ 65535) kept
  pub well : formed t.rows (seated f t.seats cell choice.row) ≡ true

choice_is : (f : Price) (seats : List Seat) (cell : Cell) (choice : Choice) (row : Row) → Some choice ≡ Some (choice_of f seats cell row) → choice ≡ choice_of f seats cell row
choice_is f seats cell choice row e = cc

pub chose : {f : Price} (fair : Fair f) (t : Tables) (cell : Cell) {choice : Choice} {given : Option Choice} {sites : List ℕ} → formed t.rows t.seats ≡ true → None ≡ cell_refusal t.seats cell → given ≡ Some choice → given ≡ best_choice f t cell
    → IfSome given (λ c. sites ≡ sites_with f t.seats cell c.row) → Chose f t cell choice sites
chose {f} fair t cell {choice} {given} {sites} well free taken told kept = by_row (chosen f t.seats cell t.rows) refl (sym taken ∙ told)
  where
    by_row : (o : Option Row) → chosen f t.seats cell t.rows ≡ o → Some choice ≡ option_map (choice_of f t.seats cell) o → Chose f t cell choice sites
    by_row None is e = let never : ◌≡◌ {A = ℕ} 0 1 = cc in absurd (omega arith)
    by_row (Some row) is e =
        let same = choice_is f t.seats cell choice row e in
        let row_is : choice.row ≡ row = ap (λ c. c.row) same in
        let chosen_is : chosen f t.seats cell t.rows ≡ Some choice.row = is ∙ ap Some (sym row_is) in
        let good = chosen_good f t.rows t.seats cell choice.row chosen_is in
        let none = sym free in
        let can = placeable t.seats cell none in
        let cs : List Cell = cells_on choice.row (joined choice.row cell t.seats) in
        let ready = ready_standing t.rows t.seats well cell can choice.row good.stands good.fits in
        let found : sites ≡ sites_with f t.seats cell choice.row = subst (λ o. IfSome o (λ c. sites ≡ sites_with f t.seats cell c.row)) taken kept in
        record {
          is = chosen_is;
          placing = ap (λ c. c.placing) same ∙ ap (placing_on f t.seats cell) (sym row_is);
          sites = found;
          can = can;
          free = none;
          each = ap length found ∙ sites_each fair choice.row cs ready;
          places = subst (AllByRecursion (λ x. x ≤ 65535)) (sym found) (ready_places fair choice.row cs ready);
          well = seated_formed f fair t.rows t.seats cell choice.row well can good.stands good.fits;
        }

-- what placing comes to then
pub placing_is : {f : Price} (t : Tables) (cell : Cell) (choice : Choice) {sites : List ℕ} → Chose f t cell choice sites
    → ◌≡◌ {A = Outcome Placing} (record { answer = Ok choice.placing; tables = record { rows = t.rows; seats = resited choice.row sites (joined choice.row cell t.seats) } }) (place f t cell)
placing_is {f} t cell choice {sites} known =
    (λ i. record { answer = Ok (known.placing i); tables = record { rows = t.rows; seats = resited choice.row (known.sites i) (joined choice.row cell t.seats) } })
    ∙ sym (ap (λ o. outcome_unless o t (outcome_on f t cell (chosen f t.seats cell t.rows))) known.free ∙ ap (outcome_on f t cell) known.is)

-- where no row is chosen, placing is refused ..
pub not_placed : (f : Price) (t : Tables) (cell : Cell) → cell_refusal t.seats cell ≡ None → best_choice f t cell ≡ None → place f t cell ≡ refusal_outcome NoRoom t
not_placed f t cell free none =
    ap (λ o. outcome_unless o t (outcome_on f t cell (chosen f t.seats cell t.rows))) free ∙ by_row (chosen f t.seats cell t.rows) none
  where
    by_row : (o : Option Row) → option_map (choice_of f t.seats cell) o ≡ None → outcome_on f t cell o ≡ refusal_outcome NoRoom t
    by_row None e = refl
    by_row (Some row) e = let never : ◌≡◌ {A = ℕ} 0 1 = cc in absurd (omega arith)

-- .. for want of room
pub full_answer : (f : Price) (t : Tables) (cell : Cell) → cell_refusal t.seats cell ≡ None → best_choice f t cell ≡ None → (place f t cell).answer ≡ Err NoRoom
full_answer f t cell free none = ap (λ o. o.answer) (not_placed f t cell free none)

-- .. and the tables stay
pub full_tables : (f : Price) (t : Tables) (cell : Cell) → cell_refusal t.seats cell ≡ None → best_choice f t cell ≡ None → (place f t cell).tables ≡ t
full_tables f t cell free none = ap (λ o. o.tables) (not_placed f t cell free none)

-- a try answers the placing of the row that is chosen, or that no row has sites
pub tried : (f : Price) (t : Tables) (cell : Cell) → cell_refusal t.seats cell ≡ None → ok_or (option_map (λ (c : Choice). c.placing) (best_choice f t cell)) NoRoom ≡ (place f t cell).answer
tried f t cell free =
    by_row (chosen f t.seats cell t.rows) ∙ ap (λ o. (outcome_unless o t (outcome_on f t cell (chosen f t.seats cell t.rows))).answer) (sym free)
  where
    by_row : (o : Option Row) → ok_or (option_map (λ (c : Choice). c.placing) (option_map (choice_of f t.seats cell) o)) NoRoom ≡ (outcome_on f t cell o).answer
    by_row None = refl
    by_row (Some row) = refl
