-- A cell leaves a floor: what holds of the seats that are left, and that the floor stays well formed and set once the row is set again.
use Rattle.std.proofs.Common.{◌≡◌, ℕ, ◌<◌, ◌≤◌, Bool, true, false, cond, not, ◌&&◌, eqb, List, [], ◌∷◌, length, filter, Some, None, Ok, Option, slice_get, remove, sym, refl, ap, ◌∙◌, subst, arith}
use Rattle.std.proofs.ByRecursion.{All-weaker, all_kept_by}
use Rattle.std.proofs.lemmas.Bool.{and_parts, and_from, both_ways, eqb-true, eq-eqb, false_from_ne_true, not_from_false}
use Rattle.std.proofs.lemmas.List.Sums.{length-filter, count_by-le-length}
use Rattle.std.proofs.lemmas.Option.{same_Some}
use Rattle.std.specs.List.{AllByRecursion, list_all}
use Rattle.std.specs.Option.{option_map, ok_or}
use Rattle.measure.specs.Costs.{Fair, Price}
use Rattle.row.specs.Stack.{Ready}
use Rattle.row.specs.declared.Row.{Row}
use Rattle.row.specs.declared.Spot.{Spot}
use Rattle.table.proofs.Inserted.{Pairs}
use Rattle.floor.specs.Calls.{seat_of, spot, where_is, without, outcome_without, withdraw}
use Rattle.floor.specs.Formed.{every_pair, rows_formed, seat_formed, seats_apart, formed}
use Rattle.floor.specs.Rows.{same_row}
use Rattle.floor.specs.Seats.{on_row, seats_on, seat_index, cells_on, settled}
use Rattle.floor.specs.Settled.{Settled}
use Rattle.floor.specs.Tables.{Tables, Outcome}
use Rattle.floor.specs.declared.Refusal.TheVariants.{NotStanding}
use Rattle.floor.specs.declared.Seat.{Seat}
use Rattle.floor.proofs.Joining.{standing_fitting, set_formed, row_ready}
use Rattle.floor.proofs.Keeping.{row_settled}
use Rattle.floor.proofs.Kept.{pairs_kept, kept_past}
use Rattle.floor.proofs.Listed.{Standing, Differ, formed_listed}
use Rattle.floor.proofs.Orders.{same_sym}
use Rattle.floor.proofs.Placed.{found_has}
use Rattle.floor.proofs.Removed.{found_at, none_from}
use Rattle.floor.proofs.Tests.{every_all, all_every, pairs_all, all_pairs}

-- a floor with some of its seats is well formed
pub kept_formed : (p : Seat → Bool) (rows : List Row) (seats : List Seat) → formed rows seats ≡ true → formed rows (filter p seats) ≡ true
kept_formed p rows seats well =
    let parts = and_parts (rows_formed rows) (list_all (seat_formed rows) seats && every_pair seats_apart seats) well in
    let both = and_parts (list_all (seat_formed rows) seats) (every_pair seats_apart seats) parts.1 in
    and_from (rows_formed rows) (list_all (seat_formed rows) (filter p seats) && every_pair seats_apart (filter p seats)) parts.0
    (and_from (list_all (seat_formed rows) (filter p seats)) (every_pair seats_apart (filter p seats))
    (all_every (seat_formed rows) (filter p seats) (all_kept_by p (λ s. seat_formed rows s ≡ true) seats (every_all (seat_formed rows) seats both.0)))
    (all_pairs seats_apart (filter p seats) (pairs_kept p (λ s t. seats_apart s t ≡ true) seats (pairs_all seats_apart seats both.1))))

-- no number stands twice: every seat of a number is the one that is found
pub found_only : (number : ℕ) (seats : List Seat) (s : Seat) → Pairs Differ seats → seat_of number seats ≡ Some s → AllByRecursion (λ t. eqb t.cell.number number ≡ true → t ≡ s) seats
found_only number [] s differ e = tt
found_only number (t ∷ seats) s differ e = by_test (eqb t.cell.number number) refl (found_only number seats s differ.1) e
  where
    by_test : (b : Bool) → eqb t.cell.number number ≡ b → (seat_of number seats ≡ Some s → AllByRecursion (λ u. eqb u.cell.number number ≡ true → u ≡ s) seats) → cond b (Some t) (seat_of number seats) ≡ Some s → AllByRecursion (λ u. eqb u.cell.number number ≡ true → u ≡ s) (t ∷ seats)
    by_test true is rest h = (
      λ _. same_Some t s h,
      All-weaker (Differ t) (λ u. eqb u.cell.number number ≡ true → u ≡ s)
          (λ u other own. let a = eqb-true t.cell.number number is in let b = eqb-true u.cell.number number own in absurd (both_ways (eqb t.cell.number u.cell.number) other (eq-eqb t.cell.number u.cell.number (omega arith)))) seats differ.0,
    )
    by_test false is rest h = (λ own. absurd (both_ways (eqb t.cell.number number) is own), rest h)

-- the seat that is found has the number
pub found_number : (number : ℕ) (seats : List Seat) (s : Seat) → seat_of number seats ≡ Some s → s.cell.number ≡ number
found_number number seats s found = found_has (λ t. t.cell.number ≡ number) number seats s (each seats) found
  where
    each : (ts : List Seat) → AllByRecursion (λ t. eqb t.cell.number number ≡ true → t.cell.number ≡ number) ts
    each [] = tt
    each (t ∷ ts) = (eqb-true t.cell.number number, each ts)

-- no more seats are left than stood
pub without_few : (number : ℕ) (seats : List Seat) → length (without number seats) ≤ length seats
without_few number seats =
    let kept = length-filter (λ s. not (eqb s.cell.number number)) seats in
    let few = count_by-le-length (λ s. not (eqb s.cell.number number)) seats in
    omega arith

module _ (rows : List Row) (seats : List Seat) (well : formed rows seats ≡ true) (number : ℕ) (s : Seat) (found : seat_of number seats ≡ Some s) where
  -- the row of the seat stands
  pub found_stands : Standing rows s.row
  found_stands =
      found_has (λ t. Standing rows t.row) number seats s (All-weaker (λ t. Standing rows t.row) (λ t. eqb t.cell.number number ≡ true → Standing rows t.row) (λ t there _. there) seats (formed_listed rows seats well).stand) found

  -- without the seat the floor is well formed, but perhaps not set
  pub without_formed : formed rows (without number seats) ≡ true
  without_formed = kept_formed (λ t. not (eqb t.cell.number number)) rows seats well

  -- `set` accepts the cells that are left on the row
  pub without_ready : length seats ≤ 1024 → Ready s.row (cells_on s.row (without number seats))
  without_ready few = let less = without_few number seats in row_ready rows (without number seats) s.row without_formed found_stands (omega arith)

  -- any other row has the seats that it had
  pub without_others : (r : Row) → same_row r s.row ≡ false → seats_on r (without number seats) ≡ seats_on r seats
  without_others r other =
      kept_past (λ t. not (eqb t.cell.number number)) (on_row r) seats
      (All-weaker (λ t. eqb t.cell.number number ≡ true → t ≡ s) (λ t. on_row r t ≡ true → not (eqb t.cell.number number) ≡ true)
      (λ t own on.
      not_from_false (eqb t.cell.number number)
      (false_from_ne_true (eqb t.cell.number number) (λ is. both_ways (same_row r s.row) other (same_sym s.row r (subst (λ u. on_row r u ≡ true) (own is) on)))))
      seats (found_only number seats s (formed_listed rows seats well).differ found))

-- a number that is at no place is not found
pub not_found : (number : ℕ) (seats : List Seat) → seat_index number seats ≡ None → seat_of number seats ≡ None
not_found number seats e = none_from number seats 0 e

-- what is known of the seat at the place where the program finds a number
pub record Found (f : Price) (t : Tables) (number at : ℕ) : Type 0 where
  pub within : at < length t.seats
  pub ready : (s : Seat) → slice_get t.seats at ≡ Some s → Ready s.row (cells_on s.row (remove t.seats at))
  pub is : (s : Seat) → slice_get t.seats at ≡ Some s
      → ◌≡◌ {A = Outcome Spot} (record { answer = Ok (spot s); tables = record { rows = t.rows; seats = settled f s.row (remove t.seats at) } }) (withdraw f t number)

-- from what the program looked up
pub found_known : (f : Price) (t : Tables) (number at : ℕ) {looked : Option ℕ} → formed t.rows t.seats ≡ true → length t.seats ≤ 1024 → looked ≡ seat_index number t.seats → looked ≡ Some at → Found f t number at
found_known f t number at {looked} well few finds some =
    let it = found_at number t.seats at (formed_listed t.rows t.seats well).differ (sym finds ∙ some) in
    let s : Seat = it.0 in
    let known = it.1 in
    let number_is = found_number number t.seats s known.found in
    let one : (u : Seat) → slice_get t.seats at ≡ Some u → u ≡ s = λ u is. same_Some u s (sym is ∙ known.is) in
    record {
      within = known.within;
      ready = λ u is. subst (λ v. Ready v.row (cells_on v.row (remove t.seats at))) (sym (one u is))
          (subst (λ l. Ready s.row (cells_on s.row l)) (sym known.left) (without_ready t.rows t.seats well number s known.found few));
      is = λ u is.
          (λ i. record { answer = Ok (spot (one u is i)); tables = record { rows = t.rows; seats = settled f (one u is i).row (known.left i) } })
          ∙ ap (outcome_without f t number) (sym known.found);
    }

module _ (f : Price) (fair : Fair f) (t : Tables) (well : formed t.rows t.seats ≡ true) (number : ℕ) where
  -- by what is found of a number: a floor stays well formed once that seat is taken out and its row set ..
  less_formed : (o : Option Seat) → seat_of number t.seats ≡ o → let after = (outcome_without f t number o).tables in formed after.rows after.seats ≡ true
  less_formed None is = well
  less_formed (Some s) is = set_formed f fair t.rows (without number t.seats) s.row (without_formed t.rows t.seats well number s is) (found_stands t.rows t.seats well number s is)

  -- .. and one whose rows are set stays so
  less_settled : Settled f t.rows t.seats → (o : Option Seat) → seat_of number t.seats ≡ o → let after = (outcome_without f t number o).tables in Settled f after.rows after.seats
  less_settled set None is = set
  less_settled set (Some s) is =
      let stands = found_stands t.rows t.seats well number s is in
      row_settled f fair t.rows t.seats (without number t.seats) s.row (standing_fitting t.rows (without number t.seats) s.row (without_formed t.rows t.seats well number s is) stands) (without_others t.rows t.seats well number s is)
      (formed_listed t.rows t.seats well).well stands set

  -- a floor stays well formed when a cell is withdrawn
  pub withdraw_formed : let after = (withdraw f t number).tables in formed after.rows after.seats ≡ true
  withdraw_formed = less_formed (seat_of number t.seats) refl

  -- and one whose rows are set stays so
  pub withdraw_settled : Settled f t.rows t.seats → let after = (withdraw f t number).tables in Settled f after.rows after.seats
  withdraw_settled set = less_settled set (seat_of number t.seats) refl

-- a withdrawal answers where the cell stood
pub withdraw_answer : (f : Price) (t : Tables) (number : ℕ) → (withdraw f t number).answer ≡ where_is t number
withdraw_answer f t number = by_found (seat_of number t.seats)
  where
    by_found : (o : Option Seat) → (outcome_without f t number o).answer ≡ ok_or (option_map spot o) NotStanding
    by_found None = refl
    by_found (Some s) = refl
