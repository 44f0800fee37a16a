-- The site of a new cell once its row is set with it: the one at its place among the row's cells.
use Rattle.std.proofs.Common.{◌≡◌, ℕ, suc, ◌+◌, Bool, true, false, cond, not, eqb, List, [], ◌∷◌, get_or, length, Some, sym, refl, ap, ◌∙◌, subst, ⊎_elim, arith}
use Rattle.std.proofs.ByRecursion.{All-weaker, all_kept_by}
use Rattle.std.proofs.lemmas.Bool.{cond-true, cond-false, cond_both, cases_Bool, both_ways, false_from_ne_true, not_from_false, eq-eqb}
use Rattle.std.specs.List.{prefix_len, AllByRecursion}
use Rattle.std.specs.Option.{option_map, unwrap_or}
use Rattle.measure.specs.Costs.{Fair, Price}
use Rattle.row.specs.Costs.{sites_cost}
use Rattle.row.specs.Sites.{row_sites}
use Rattle.row.specs.Stack.{Ready}
use Rattle.row.specs.declared.Cell.{Cell}
use Rattle.row.specs.declared.Row.{Row}
use Rattle.row.proofs.Accepted.{ready_fitting}
use Rattle.table.specs.Order.{Ordered, rank_of}
use Rattle.table.proofs.Inserted.{put_in, put_all, inserted_is}
use Rattle.floor.specs.Calls.{seat_of, site_then, seated}
use Rattle.floor.specs.Choices.{trial_on}
use Rattle.floor.specs.Refusals.{stands}
use Rattle.floor.specs.Seats.{on_row, seat_ahead, seats_on, cells_on, site_of, new_seat, joined, moved, resited}
use Rattle.floor.specs.declared.Seat.{Seat}
use Rattle.floor.proofs.Joining.{fresh_each}
use Rattle.floor.proofs.Kept.{kept_yes, kept_no}
use Rattle.floor.proofs.Moved.{resited_nothing}
use Rattle.floor.proofs.Orders.{same_refl}
use Rattle.floor.proofs.Rising.{seated_cost}
use Rattle.floor.proofs.Settling.{sites_long}
use Rattle.floor.proofs.Stretch.{joined_own}

-- where only a key fails a test, what is before it in an ordered table is what passes
pub passes_before : {X : Type 0} (ahead : X → X → Bool) (k : X) (test : X → Bool) (xs : List X) → test k ≡ false → AllByRecursion (λ x. test x ≡ true) xs → prefix_len test (put_in ahead k xs) ≡ rank_of ahead xs k
passes_before ahead k test [] fails all = cond-false (test k) (1 + 0) 0 fails
passes_before ahead k test (x ∷ xs) fails all =
    cond_both (ahead x k) (x ∷ put_in ahead k xs) (k ∷ x ∷ xs) (λ l. prefix_len test l ≡ rank_of ahead (x ∷ xs) k)
    (λ first.
    cond-true (test x) (1 + prefix_len test (put_in ahead k xs)) 0 all.0
    ∙ ap (λ n. 1 + n) (passes_before ahead k test xs fails all.1)
    ∙ sym (cond-true (ahead x k) (1 + rank_of ahead xs k) 0 first))
    (λ behind. cond-false (test k) (1 + prefix_len test (x ∷ xs)) 0 fails ∙ sym (cond-false (ahead x k) (1 + rank_of ahead xs k) 0 behind))

module _ (row : Row) (number : ℕ) where
  -- whether a seat has another number
  abbrev other : Seat → Bool
  other s = not (eqb s.cell.number number)

  -- how many seats of the row are before that of the number
  abbrev before : List Seat → ℕ
  before seats = prefix_len other (seats_on row seats)

  -- a seat on another row has another number, and keeps its site
  off_turn : (xs : List ℕ) (s : Seat) (seats : List Seat) → on_row row s ≡ false → (eqb s.cell.number number ≡ true → on_row row s ≡ true) → resited row xs (s ∷ seats) ≡ s ∷ resited row xs seats
      → site_then number (resited row xs seats) ≡ get_or xs (before seats) 0 → site_then number (resited row xs (s ∷ seats)) ≡ get_or xs (before (s ∷ seats)) 0
  off_turn xs s seats off own kept rest =
      let differs = false_from_ne_true (eqb s.cell.number number) (λ is. both_ways (on_row row s) off (own is)) in
      ap (site_then number) kept
      ∙ ap (λ o. unwrap_or (option_map site_of o) 0) (cond-false (eqb s.cell.number number) (Some s) (seat_of number (resited row xs seats)) differs)
      ∙ rest
      ∙ ap (λ l. get_or xs (prefix_len other l) 0) (sym (kept_no (on_row row) s seats off))

  -- a seat on the row gets the first site
  on_turn : (x : ℕ) (xs : List ℕ) (s : Seat) (seats : List Seat) → on_row row s ≡ true → site_then number (resited row xs seats) ≡ get_or xs (before seats) 0 → site_then number (resited row (x ∷ xs) (s ∷ seats)) ≡ get_or (x ∷ xs) (before (s ∷ seats)) 0
  on_turn x xs s seats on rest =
      ap (site_then number) (cond-true (on_row row s) (moved s x ∷ resited row xs seats) (s ∷ resited row (x ∷ xs) seats) on)
      ∙ by_test (eqb s.cell.number number)
      ∙ ap (λ l. get_or (x ∷ xs) (prefix_len other l) 0) (sym (kept_yes (on_row row) s seats on))
    where
      by_test : (b : Bool) → unwrap_or (option_map site_of (cond b (Some (moved s x)) (seat_of number (resited row xs seats)))) 0 ≡ get_or (x ∷ xs) (cond (not b) (1 + before seats) 0) 0
      by_test true = refl
      by_test false = let one : suc (before seats) ≡ 1 + before seats = omega arith in rest ∙ ap (λ n. get_or (x ∷ xs) n 0) one

  -- where the seat of a number is on a row, its site is the new one at its place among the row's seats
  pub site_of_number : (xs : List ℕ) (seats : List Seat) → length xs ≡ length (seats_on row seats) → AllByRecursion (λ s. eqb s.cell.number number ≡ true → on_row row s ≡ true) seats → site_then number (resited row xs seats) ≡ get_or xs (before seats) 0
  site_of_number [] [] long own = refl
  site_of_number (x ∷ xs) [] long own = absurd (omega arith)
  site_of_number [] (s ∷ seats) long own =
      ⊎_elim
      (λ on. let more = ap length (kept_yes (on_row row) s seats on) in absurd (omega arith))
      (λ off.
      let same = ap length (kept_no (on_row row) s seats off) in
      off_turn [] s seats off own.0 (ap (λ l. s ∷ l) (sym (resited_nothing row seats))) (site_of_number [] seats (omega arith) own.1))
      (cases_Bool (on_row row s))
  site_of_number (x ∷ xs) (s ∷ seats) long own =
      ⊎_elim
      (λ on. let more = ap length (kept_yes (on_row row) s seats on) in on_turn x xs s seats on (site_of_number xs seats (omega arith) own.1))
      (λ off.
      let same = ap length (kept_no (on_row row) s seats off) in
      off_turn (x ∷ xs) s seats off own.0 (cond-false (on_row row s) (moved s x ∷ resited row xs seats) (s ∷ resited row (x ∷ xs) seats) off) (site_of_number (x ∷ xs) seats (omega arith) own.1))
      (cases_Bool (on_row row s))

module _ {f : Price} (fair : Fair f) (row : Row) (cell : Cell) (seats : List Seat) (ready : Ready row (cells_on row (joined row cell seats))) (ordered : Ordered seat_ahead seats) (fresh : stands cell.number seats ≡ false) where
  -- the place of the new cell among those of its row
  abbrev place : ℕ
  place = rank_of seat_ahead (seats_on row seats) (new_seat row cell)

  -- the sites of the row's cells with the new one
  abbrev sites : List ℕ
  sites = row_sites f row (cells_on row (joined row cell seats))

  -- so many seats of the row are before it, once it has joined them
  place_is : before row cell.number (joined row cell seats) ≡ place
  place_is =
      let k : Seat = new_seat row cell in
      let differ = All-weaker (λ s. eqb s.cell.number cell.number ≡ false) (λ s. not (eqb s.cell.number cell.number) ≡ true) (λ s no. not_from_false (eqb s.cell.number cell.number) no) seats (fresh_each seats cell fresh) in
      ap (prefix_len (other row cell.number)) (joined_own row cell seats ordered)
      ∙ passes_before seat_ahead k (other row cell.number) (seats_on row seats) (ap not (eq-eqb cell.number cell.number refl)) (all_kept_by (on_row row) (λ s. not (eqb s.cell.number cell.number) ≡ true) seats differ)

  -- each of them has a site
  long : length sites ≡ length (seats_on row (joined row cell seats))
  long = sites_long f fair row (joined row cell seats) (ready_fitting row (cells_on row (joined row cell seats)) ready)

  -- the site at the new cell's place is that of its seat
  pub site_at : get_or sites place 0 ≡ site_then cell.number (seated f seats cell row)
  site_at =
      let k : Seat = new_seat row cell in
      let Own : Seat → Type 0 = λ s. eqb s.cell.number cell.number ≡ true → on_row row s ≡ true in
      let old : AllByRecursion Own seats = All-weaker (λ s. eqb s.cell.number cell.number ≡ false) Own (λ s no yes. absurd (both_ways (eqb s.cell.number cell.number) no yes)) seats (fresh_each seats cell fresh) in
      let own : AllByRecursion Own (joined row cell seats) = subst (AllByRecursion Own) (sym (inserted_is seat_ahead k seats)) (put_all seat_ahead k Own seats (λ _. same_refl row) old) in
      sym (site_of_number row cell.number sites (joined row cell seats) long own ∙ ap (λ n. get_or sites n 0) place_is)

-- what a trial answers, as the program comes to it
pub trial_is : {f : Price} (fair : Fair f) (row : Row) (cell : Cell) (seats : List Seat) {slice : List Seat} {cells : List Cell} {sites : List ℕ} {at cost : ℕ} → Ready row (cells_on row (joined row cell seats)) → Ordered seat_ahead seats → stands cell.number seats ≡ false →
    cells ≡ cells_on row (joined row cell seats) → cost ≡ sites_cost f cells (row_sites f row cells) → sites ≡ row_sites f row cells → slice ≡ seats_on row seats → at ≡ rank_of seat_ahead slice (new_seat row cell) →
    record { cost = cost; site = get_or sites at 0 } ≡ trial_on f seats cell row
trial_is {f} fair row cell seats ready ordered fresh gather costs set own finds =
    let cost_is = costs ∙ ap (λ cs. sites_cost f cs (row_sites f row cs)) gather ∙ sym (seated_cost fair seats row cell ready) in
    let found = set ∙ ap (row_sites f row) gather in
    let place = finds ∙ ap (λ l. rank_of seat_ahead l (new_seat row cell)) own in
    let site_is = (λ i. get_or (found i) (place i) 0) ∙ site_at fair row cell seats ready ordered fresh in
    (λ i. record { cost = cost_is i; site = site_is i })
