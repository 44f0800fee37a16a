-- A floor's history, carried from call to call; and that two floors with one history hold the same.
use Rattle.std.proofs.Common.{◌≡◌, true, ◌&&◌, ltb, ⊎_elim, List, [], ◌∷◌, map, sym, refl, ap, subst, arith}
use Rattle.std.proofs.lemmas.Bool.{and_parts, or_cases, ltb-true}
use Rattle.std.specs.List.{AllByRecursion}
use mathlib.Core.List.{Permᴰ}
use mathlib.Core.List.Permᴰ as perm
use mathlib.Core.Path.{fun_ext}
use Rattle.measure.specs.Costs.{Fair, Price}
use Rattle.measure.specs.declared.Measure.{Ghosts}
use Rattle.row.specs.Records.{row_ahead}
use Rattle.floor.specs.Rows.{same_row}
use Rattle.floor.specs.Calls.{where_is}
use Rattle.floor.specs.Seats.{floor_cost, stands_ahead}
use Rattle.table.specs.Order.{Ordered}
use Rattle.std.specs.Prelude.{IsPermutation}
use Rattle.floor.specs.State.{measure_of, price_of, tables_of}
use Rattle.floor.specs.Tables.{Tables, no_tables}
use Rattle.floor.specs.declared.Seat.{Seat}
use Rattle.floor.specs.declared.floor.Floor.{Floor}
use Rattle.floor.proofs.Listed.{formed_standing}
use Rattle.floor.proofs.Rowed.{ordered_rows}
use Rattle.floor.proofs.Orders.{row_once, same_sym, ahead_not_same}
use Rattle.history.specs.Events.{event_of, tables_then}
use Rattle.history.specs.Histories.{Standing, rows_in, standing_in}
use Rattle.history.specs.Law.{Law}
use Rattle.history.specs.Lawful.{seat_at, Lawful}
use Rattle.history.specs.Settings.{Where, site_in, cost}
use Rattle.history.specs.declared.call.Call.{Call}
use Rattle.history.specs.declared.call.Event.{Event}
use Rattle.history.proofs.Grants.{answered_cost}
use Rattle.history.proofs.Held.{standing_of, Held, Known}
use Rattle.history.proofs.Permuted.{permutation, derivation, one_order}
use Rattle.history.proofs.Seated.{sites_are}
use Rattle.history.proofs.Steps.{holds_empty, held_step, law_step}
use Rattle.history.proofs.Unique.{one_where}

-- a cell's seat is a seat of it
standing_back : (w : Where) (ks : List Standing) → map standing_of (map (seat_at w) ks) ≡ ks
standing_back w [] = refl
standing_back w (k ∷ ks) = ap (λ l. k ∷ l) (standing_back w ks)

-- and a seat is that of its cell, where its site is the one that is answered
seats_back : (w : Where) (seats : List Seat) → AllByRecursion (λ s. site_in w s.cell.number ≡ s.site) seats → map (seat_at w) (map standing_of seats) ≡ seats
seats_back w [] same = refl
seats_back w (s ∷ seats) same = λ i. record { cell = s.cell; row = s.row; site = same.0 i } ∷ seats_back w seats same.1 i

-- what a floor with a history is, by its price and its tables
pub record Obeys (price : Price) (history : List Event) (t : Tables) : Type 0 where
  pub law : Law price history (where_is t)
  pub costs : floor_cost price t.seats ≡ cost price (standing_in history) (site_in (where_is t))
  pub rows : IsPermutation (rows_in history) t.rows
  pub rows_in_order : Ordered row_ahead t.rows
  pub seats : IsPermutation (map (seat_at (where_is t)) (standing_in history)) t.seats
  pub seats_in_order : Ordered stands_ahead t.seats

-- what a floor with a history holds
pub obeys_held : {f : Price} {history : List Event} {t : Tables} → Obeys f history t → Held history t
obeys_held {f} {history} {t} obeys = record {
  rows_are = derivation (rows_in history) t.rows obeys.rows;
  cells_are =
      subst (λ l. Permᴰ l (map standing_of t.seats)) (standing_back (where_is t) (standing_in history))
      (perm.map standing_of (derivation (map (seat_at (where_is t)) (standing_in history)) t.seats obeys.seats));
}

-- a floor that holds what its history says, and whose answers obey the law for it, has the history
pub held_obeys : (f : Price) (history : List Event) (t : Tables) → Known f t → Law f history (where_is t) → Held history t → Obeys f history t
held_obeys f history t known law held = record {
  law = law;
  costs = sym (answered_cost f t known.well (standing_in history) held.cells_are);
  rows = permutation held.rows_are;
  rows_in_order = ordered_rows t.rows t.seats known.well;
  seats = permutation (subst (Permᴰ (map (seat_at (where_is t)) (standing_in history))) (seats_back (where_is t) t.seats (sites_are t known.well)) (perm.map (seat_at (where_is t)) held.cells_are));
  seats_in_order = formed_standing t.rows t.seats known.well;
}

-- an empty floor has the empty history
pub obeys_empty : (f : Price) (t : Tables) → Known f t → t ≡ no_tables → Obeys f [] t
obeys_empty f t known empty =
    held_obeys f [] t known (subst (λ u. Law f [] (where_is u)) (sym empty) (holds_empty f))
    (subst (Held []) (sym empty) (record { rows_are = Permᴰ.nil; cells_are = Permᴰ.nil }))

-- a floor with a history has, once a call is made, the history with the call's event
pub obeys_step : (f : Price) → Fair f → (history : List Event) (t then : Tables) (call : Call) (event : Event) → Known f t → Known f then
    → event ≡ event_of f t call → then ≡ tables_then f t call → Obeys f history t → Obeys f (event ∷ history) then
obeys_step f fair history t then call event known known_then is after obeys =
    let held = obeys_held obeys in
    let known_after = subst (Known f) after known_then in
    subst (λ e. Obeys f (e ∷ history) then) (sym is)
    (subst (Obeys f (event_of f t call ∷ history)) (sym after)
    (held_obeys f (event_of f t call ∷ history) (tables_then f t call) known_after (law_step f fair history t known held call obeys.law known_after)
    (held_step f fair history t known held call)))

-- of two seats at most one stands ahead of the other
stands_once : (s t : Seat) → stands_ahead s t ≡ true → stands_ahead t s ≡ true → ⊥
stands_once s t a b =
    let on_s = same_row s.row t.row && ltb s.site t.site in
    let on_t = same_row t.row s.row && ltb t.site s.site in
    ⊎_elim
    (λ first.
    ⊎_elim (λ back. row_once s.row t.row first back)
    (λ own. ahead_not_same s.row t.row first (same_sym t.row s.row (and_parts (same_row t.row s.row) (ltb t.site s.site) own).0))
    (or_cases (row_ahead t.row s.row) on_t b))
    (λ own.
    let here = and_parts (same_row s.row t.row) (ltb s.site t.site) own in
    ⊎_elim (λ back. ahead_not_same t.row s.row back (same_sym s.row t.row here.0))
    (λ other.
    let p = ltb-true s.site t.site here.1 in
    let q = ltb-true t.site s.site (and_parts (same_row t.row s.row) (ltb t.site s.site) other).1 in
    absurd (omega arith))
    (or_cases (row_ahead t.row s.row) on_t b))
    (or_cases (row_ahead s.row t.row) on_s a)

-- two floors of one price that have one history hold the same
pub one_tables : (f : Price) (history : List Event) (a b : Tables) → Obeys f history a → Obeys f history b → a ≡ b
one_tables f history a b of_a of_b =
    let held_a = obeys_held of_a in
    let held_b = obeys_held of_b in
    let rows = one_order row_ahead row_once a.rows b.rows (Permᴰ.trans (perm.symm held_a.rows_are) held_b.rows_are) of_a.rows_in_order of_b.rows_in_order in
    let same : where_is a ≡ where_is b = fun_ext (one_where f history (where_is a) (where_is b) of_a.law of_b.law) in
    let ks = standing_in history in
    let own = derivation (map (seat_at (where_is a)) ks) a.seats of_a.seats in
    let other = derivation (map (seat_at (where_is b)) ks) b.seats of_b.seats in
    let both : Permᴰ a.seats b.seats = Permᴰ.trans (perm.symm own) (subst (λ w. Permᴰ (map (seat_at w) ks) b.seats) (sym same) other) in
    let seats = one_order stands_ahead stands_once a.seats b.seats both of_a.seats_in_order of_b.seats_in_order in
    λ i. record { rows = rows i; seats = seats i }

-- what a floor's type tells of its tables
floor_known : {M : Type 0} {m : Ghosts M} (floor : Floor M m) → Known (price_of floor) (tables_of floor)
floor_known floor = record { well = floor.well; few = floor.seats.few; set = floor.set }

-- a floor has a history where its tables do ..
lawful_of : {M : Type 0} {m : Ghosts M} {history : List Event} {floor : Floor M m} → Obeys (price_of floor) history (tables_of floor) → Lawful history floor
lawful_of o = record { law = o.law; costs = o.costs; rows = o.rows; rows_in_order = o.rows_in_order; seats = o.seats; seats_in_order = o.seats_in_order }

-- .. and back
of_lawful : {M : Type 0} {m : Ghosts M} {history : List Event} {floor : Floor M m} → Lawful history floor → Obeys (price_of floor) history (tables_of floor)
of_lawful o = record { law = o.law; costs = o.costs; rows = o.rows; rows_in_order = o.rows_in_order; seats = o.seats; seats_in_order = o.seats_in_order }

-- an empty floor has the empty history
pub lawful_empty : {M : Type 0} {m : Ghosts M} (floor : Floor M m) → tables_of floor ≡ no_tables → Lawful [] floor
lawful_empty floor empty = lawful_of (obeys_empty (price_of floor) (tables_of floor) (floor_known floor) empty)

-- two floors of one price that have one history hold the same
pub one_floor : {M N : Type 0} {m : Ghosts M} {n : Ghosts N} (a : Floor M m) (b : Floor N n) (history : List Event) → price_of a ≡ price_of b → Lawful history a → Lawful history b → tables_of a ≡ tables_of b
one_floor a b history price of_a of_b = one_tables (price_of b) history (tables_of a) (tables_of b) (subst (λ f. Obeys f history (tables_of a)) price (of_lawful of_a)) (of_lawful of_b)

-- a floor with a history has, once a call is made, the history with the call's event
pub lawful_step : {M : Type 0} {m : Ghosts M} (floor after : Floor M m) (call : Call) (event : Event) → Fair (price_of floor) → event ≡ event_of (price_of floor) (tables_of floor) call
    → tables_of after ≡ tables_then (price_of floor) (tables_of floor) call → measure_of after ≡ measure_of floor → (history : List Event) → Lawful history floor → Lawful (event ∷ history) after
lawful_step {m = m} floor after call event fair is tables same history lawful =
    let price : price_of after ≡ price_of floor = ap m.price same in
    lawful_of
    (subst (λ f. Obeys f (event ∷ history) (tables_of after)) (sym price)
    (obeys_step (price_of floor) fair history (tables_of floor) (tables_of after) call event (floor_known floor) (subst (λ f. Known f (tables_of after)) price (floor_known after)) is tables (of_lawful lawful)))
