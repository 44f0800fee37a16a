-- One call more: where a floor obeys the law, it obeys it once a call is made. And a floor that begins empty obeys it.
use Rattle.std.proofs.Common.{◌≡◌, ℕ, not, eqb, List, [], ◌∷◌, map, filter, take, drop, Some, None, Ok, Err, Option, Result, IfOk, sym, refl, ap, ◌∙◌, subst, arith}
use Rattle.std.proofs.lemmas.List.{take-append-drop}
use Rattle.std.specs.List.{insert}
use mathlib.Core.List.{Permᴰ}
use mathlib.Core.List.Permᴰ as perm
use Rattle.measure.specs.Costs.{Fair, Price}
use Rattle.row.specs.Sites.{row_sites}
use Rattle.row.specs.declared.Cell.{Cell}
use Rattle.row.specs.declared.Row.{Row}
use Rattle.floor.specs.Calls.{outcome_unless, with_row, seat_of, where_is, place, without, outcome_without}
use Rattle.floor.specs.Refusals.{add_refusal}
use Rattle.floor.specs.Seats.{cells_on}
use Rattle.floor.specs.Tables.{Tables, Outcome}
use Rattle.floor.specs.declared.Placing.{Placing}
use Rattle.floor.specs.declared.Refusal.{Refusal}
use Rattle.floor.specs.declared.Seat.{Seat}
use Rattle.floor.proofs.Leaving.{withdraw_answer}
use Rattle.floor.proofs.Resited.{resited_map}
use Rattle.history.specs.Events.{event_of, tables_then}
use Rattle.history.specs.Histories.{Standing, with_placed, rows_in, standing_in, rows_after as rows_told, standing_after, call_of, decide}
use Rattle.history.specs.Law.{Holds, Granted, FullExactly, Answers, Step, Law}
use Rattle.history.specs.declared.call.Call.{Call}
use Rattle.history.specs.declared.call.Call.TheVariants.{AddRow, Place, Try, Withdraw}
use Rattle.history.specs.declared.call.Event.{Event}
use Rattle.history.specs.declared.call.Event.TheVariants.{Added, Placed, Withdrawn}
use Rattle.history.proofs.Held.{standing_of, Held, Known}
use Rattle.history.proofs.Decided.{kept_map, decided, full_exactly, tables_stay, rows_stay}
use Rattle.history.proofs.Tables.{tables_hold}
use Rattle.history.proofs.Grants.{placed_cells, place_known, tables_granted}
use Rattle.history.proofs.Perms.{holds_perm, filter_perm, decide_perm, full_perm}

-- one that is put into a list, wherever
insert_perm : {X : Type 0} (k : X) (xs : List X) (n : ℕ) → Permᴰ (k ∷ xs) (insert xs n k)
insert_perm k xs n = subst (λ l. Permᴰ (k ∷ l) (insert xs n k)) (take-append-drop n xs) (perm.symm (perm.middle k (take n xs) (drop n xs)))

-- while nothing stands, the law holds of answers that no number stands
pub holds_empty : (f : Price) → Law f [] (where_is (record { rows = []; seats = [] }))
holds_empty f = record {
  found = tt;
  absent = λ number none. refl;
  setting = record { legal = record { within = tt; clear = tt }; in_order = tt };
  cheapest = λ other s. omega arith;
  leftmost = λ other s e. tt;
}

-- what holds of a value where a call is granted
if_ok : {X E : Type 0} (P : X → Type 0) (r : Result X E) → ((x : X) → r ≡ Ok x → P x) → IfOk r P
if_ok P (Ok x) give = give x refl
if_ok P (Err failure) give = tt

-- an event tells the call that it is of
pub call_is : (f : Price) (t : Tables) (call : Call) → call_of (event_of f t call) ≡ call
call_is f t (AddRow row) = refl
call_is f t (Place cell) = refl
call_is f t (Try cell) = refl
call_is f t (Withdraw number) = refl

module _ (f : Price) (fair : Fair f) (history : List Event) (t : Tables) (known : Known f t) (held : Held history t) where
  -- the rows that the history says stand
  abbrev R : List Row
  R = rows_in history

  -- and the cells
  abbrev K : List Standing
  K = standing_in history

  -- a row that was added stands
  added_rows : (row : Row) (o : Option Refusal) → let out : Outcome (Unit {0}) = outcome_unless o t (record { answer = Ok tt; tables = record { rows = with_row t.rows row; seats = t.seats } }) in
      Permᴰ (rows_told (Added row out.answer) R) out.tables.rows × Permᴰ K (map standing_of out.tables.seats)
  added_rows row None = (Permᴰ.trans (Permᴰ.cons refl held.rows_are) (insert_perm row t.rows _), held.cells_are)
  added_rows row (Some refusal) = (held.rows_are, held.cells_are)

  -- so does a cell that was placed
  placed_standing : (cell : Cell) (answer : Result Placing Refusal) → (place f t cell).answer ≡ answer → Permᴰ (standing_after (Placed cell answer) R K) (map standing_of (place f t cell).tables.seats)
  placed_standing cell (Ok placing) is = placed_cells f fair t known R held.rows_are cell placing is K held.cells_are
  placed_standing cell (Err refusal) is = subst (λ (u : Tables). Permᴰ K (map standing_of u.seats)) (sym (tables_stay f t cell refusal is)) held.cells_are

  -- and one that was withdrawn does not
  withdrawn_standing : (number : ℕ) (o : Option Seat) → let out = outcome_without f t number o in
      Permᴰ R out.tables.rows × Permᴰ (standing_after (Withdrawn number out.answer) R K) (map standing_of out.tables.seats)
  withdrawn_standing number None = (held.rows_are, held.cells_are)
  withdrawn_standing number (Some s) =
      let left : List Seat = without number t.seats in
      let sites = row_sites f s.row (cells_on s.row left) in (
        held.rows_are,
        subst (λ l. Permᴰ (filter (λ k. not (eqb k.cell.number number)) K) l)
            (kept_map standing_of (λ k. not (eqb k.cell.number number)) t.seats ∙ sym (resited_map s.row standing_of (λ t x. refl) sites left))
            (filter_perm (λ k. not (eqb k.cell.number number)) held.cells_are),
      )

  -- the rows stay when a cell is placed
  placed_rows : (cell : Cell) → Permᴰ R (place f t cell).tables.rows
  placed_rows cell = subst (Permᴰ R) (sym (rows_stay f t cell)) held.rows_are

  -- what a history says stands is what the tables hold, once a call is made
  pub held_step : (call : Call) → Held (event_of f t call ∷ history) (tables_then f t call)
  held_step (AddRow row) = let both = added_rows row (add_refusal t.rows row) in record { rows_are = both.0; cells_are = both.1 }
  held_step (Place cell) = record { rows_are = placed_rows cell; cells_are = placed_standing cell (place f t cell).answer refl }
  held_step (Try cell) = record { rows_are = held.rows_are; cells_are = held.cells_are }
  held_step (Withdraw number) = let both = withdrawn_standing number (seat_of number t.seats) in record { rows_are = both.0; cells_are = both.1 }

  -- what a placing is answered is as the law says
  full_step : (cell : Cell) → FullExactly R K cell (place f t cell).answer
  full_step cell = full_perm held.rows_are held.cells_are cell (place f t cell).answer (full_exactly f t cell)

  -- a granted one too
  granted_step : (cell : Cell) (placing : Placing) → (place f t cell).answer ≡ Ok placing → Granted f R K (where_is t) cell placing (where_is (place f t cell).tables)
  granted_step cell placing is = tables_granted f fair t known R held.rows_are K held.cells_are cell placing is

  -- and a placing in the stead of a try would leave a floor of which the law holds
  holds_instead : (cell : Cell) (placing : Placing) → (place f t cell).answer ≡ Ok placing → Holds f (with_placed R K cell placing) (where_is (place f t cell).tables)
  holds_instead cell placing is =
      holds_perm f (where_is (place f t cell).tables) (placed_standing cell (Ok placing) is) (tables_hold f fair (place f t cell).tables (place_known f fair t known cell))

  -- what every call is answered is as the law says
  answers_step : (call : Call) → Answers f R K (where_is t) (event_of f t call) (where_is (tables_then f t call))
  answers_step (AddRow row) = tt
  answers_step (Place cell) = (full_step cell, if_ok _ (place f t cell).answer (granted_step cell))
  answers_step (Try cell) = (
    full_step cell,
    if_ok _ (place f t cell).answer (λ placing is. (where_is (place f t cell).tables, granted_step cell placing is, holds_instead cell placing is)),
  )
  answers_step (Withdraw number) = withdraw_answer f t number

  -- where a floor obeys the law, it obeys it once a call is made
  pub law_step : (call : Call) → Law f history (where_is t) → Known f (tables_then f t call) → Law f (event_of f t call ∷ history) (where_is (tables_then f t call))
  law_step call law then =
      let step : Step f history (where_is t) (event_of f t call) (where_is (tables_then f t call)) = record {
        decided = decided f t call ∙ sym (decide_perm held.rows_are held.cells_are call) ∙ ap (decide R K) (sym (call_is f t call));
        answers = answers_step call;
        holds = holds_perm f (where_is (tables_then f t call)) (held_step call).cells_are (tables_hold f fair (tables_then f t call) then);
      } in
      (where_is t, law, step)
