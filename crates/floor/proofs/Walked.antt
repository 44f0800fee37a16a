-- A walk over the rows of a floor begins in step: the seats of the table are in the order of the rows.
use Rattle.std.proofs.Common.{◌≡◌, ℕ, true, false, not, List, [], ◌∷◌, ◌++◌, take, drop, sym, refl, ap, ◌∙◌, subst, ⊎_elim, arith}
use Rattle.std.proofs.ByRecursion.{All-weaker, All-drop, kept_by_passes}
use Rattle.std.proofs.lemmas.Bool.{and_parts, or_cases, both_ways}
use Rattle.std.specs.List.{prefix_len, take_while, list_any, AllByRecursion}
use Rattle.row.specs.Records.{row_ahead}
use Rattle.row.specs.declared.Row.{Row}
use Rattle.table.specs.Order.{Ordered}
use Rattle.floor.specs.Formed.{every_pair, formed}
use Rattle.floor.specs.Rows.{share}
use Rattle.floor.specs.Seats.{on_row, seat_ahead, seats_on}
use Rattle.floor.specs.declared.Seat.{Seat}
use Rattle.floor.proofs.Kept.{kept_none, kept_parts, ordered_drop, all_with}
use Rattle.floor.proofs.Listed.{Standing, is_row, row_is, row_parts, standing_all, formed_listed}
use Rattle.floor.proofs.Orders.{same_refl}
use Rattle.floor.proofs.Stretch.{NotBefore, own_first, own_ends}
use Rattle.floor.proofs.Tests.{pairs_all, pairs_ordered}

-- the seats that are ahead begin with those of the first row, and behind them it is the same with the other rows
abbrev pub InStep : List Seat → List Row → List Seat → Type 0
InStep seats [] ahead = Unit {0}
InStep seats (row ∷ rows) ahead = (take_while (on_row row) ahead ≡ seats_on row seats) × InStep seats rows (drop (prefix_len (on_row row) ahead) ahead)

-- a seat on a row is not on a later one
on_off : (row later : Row) (s : Seat) → row_ahead row later ≡ true → on_row row s ≡ true → on_row later s ≡ false
on_off row later s first on = grind arith

-- the row of a seat, where it is not the first of the rows, is one of the others
other_stands : (row : Row) (rows : List Row) (s : Seat) → Standing (row ∷ rows) s.row → on_row row s ≡ false → Standing rows s.row
other_stands row rows s stands off =
    ⊎_elim
    (λ here. absurd (both_ways (on_row row s) off (subst (λ r. on_row r s ≡ true) (sym (row_is s.row row here)) (same_refl s.row))))
    (λ there. there)
    (or_cases (is_row s.row row) (list_any (is_row s.row) rows) stands)

-- what is ahead of a walk over rows in order is in step with them, where it is in order, each on one of the rows, and holds for each row what the table does
steps_on : (seats : List Seat) (rows : List Row) (ahead : List Seat) → Ordered row_ahead rows → Ordered seat_ahead ahead → AllByRecursion (λ s. Standing rows s.row) ahead → AllByRecursion (λ r. seats_on r ahead ≡ seats_on r seats) rows → InStep seats rows ahead
steps_on seats [] ahead order ordered stand same = tt
steps_on seats (row ∷ rows) ahead order ordered stand same =
    let n : ℕ = prefix_len (on_row row) ahead in
    let from = All-weaker (λ s. Standing (row ∷ rows) s.row) (NotBefore row)
    (λ s stands off. standing_all (λ r. row_ahead row r ≡ true) rows s.row order.0 (other_stands row rows s stands off)) ahead stand in
    let own : take n ahead ≡ seats_on row ahead = own_first row ahead ordered from in
    let on : AllByRecursion (λ s. on_row row s ≡ true) (take n ahead) = subst (AllByRecursion (λ s. on_row row s ≡ true)) (sym own) (kept_by_passes (on_row row) ahead) in
    let kept : (r : Row) → row_ahead row r ≡ true → seats_on r ahead ≡ seats_on r seats → seats_on r (drop n ahead) ≡ seats_on r seats =
    λ r first is.
    sym (kept_parts (on_row r) n ahead ∙ ap (λ l. l ++ seats_on r (drop n ahead)) (kept_none (on_row r) (take n ahead) (All-weaker (λ s. on_row row s ≡ true) (λ s. on_row r s ≡ false) (λ s. on_off row r s first) (take n ahead) on))) ∙ is in (
      own ∙ same.0,
      steps_on seats rows (drop n ahead) order.1 (ordered_drop seat_ahead n ahead ordered)
          (all_with (λ s. Standing (row ∷ rows) s.row) (λ s. on_row row s ≡ false) (λ s. Standing rows s.row) (other_stands row rows) (drop n ahead)
          (All-drop (λ s. Standing (row ∷ rows) s.row) n ahead stand) (own_ends row ahead ordered from))
          (all_with (λ r. row_ahead row r ≡ true) (λ r. seats_on r ahead ≡ seats_on r seats) (λ r. seats_on r (drop n ahead) ≡ seats_on r seats) kept rows order.0 same.1),
    )

all_same : {X : Type 0} {Y : Type 0} (f : X → Y) (xs : List X) → AllByRecursion (λ x. f x ≡ f x) xs
all_same f [] = tt
all_same f (x ∷ xs) = (refl, all_same f xs)

-- so the whole table is in step with the rows of a floor
pub begins_in_step : (rows : List Row) (seats : List Seat) → formed rows seats ≡ true → InStep seats rows seats
begins_in_step rows seats well =
    let listed = formed_listed rows seats well in
    let order = and_parts (every_pair row_ahead rows) (every_pair (λ a b. not (share a b)) rows) (row_parts rows listed.well).1 in
    steps_on seats rows seats (pairs_ordered row_ahead rows (pairs_all row_ahead rows order.0)) listed.order listed.stand (all_same (λ r. seats_on r seats) rows)
