-- What one seat costs, under a fair measure.
use Rattle.std.proofs.Common.{◌≡◌, ℕ, ◌+◌, ◌*◌, ◌^◌, ◌<◌, ◌≤◌, Bool, true, false, cond, ◌&&◌, leb, List, [], ◌∷◌, length, get_or, map, drop, refl, ◌∙◌, arith}
use Rattle.std.proofs.ByRecursion.{All-get_or}
use Rattle.std.proofs.lemmas.List.{at_drop_more}
use Rattle.std.proofs.lemmas.Bool.{and_parts, leb-true}
use Rattle.std.proofs.lemmas.List.Sums.{sum_by-cons}
use Rattle.std.specs.List.{AllByRecursion, sum_by}
use Rattle.measure.specs.Costs.{Fair, InRange, Price, cost_of, in_range}
use Rattle.row.proofs.Costs.{cost_within}
use Rattle.row.proofs.Ranges.{ranged}
use Rattle.row.specs.Costs.{sites_cost}
use Rattle.row.specs.declared.Row.{Row}
use Rattle.floor.specs.Formed.{formed}
use Rattle.floor.specs.Seats.{Sited, seat_cost, cell_of, site_of, floor_cost}
use Rattle.floor.specs.declared.Seat.{Seat}
use Rattle.floor.proofs.Defaults.{no_seat}
use Rattle.floor.proofs.Known.{SeatKnown, known_slice}

-- the ranges hold where the test says so
range_within : (w e p : ℕ) → in_range w e p ≡ true → InRange w e p
range_within w e p h =
    let a = and_parts (leb w 65535) (leb 1 e && (leb e 1000 && leb p 65535)) h in
    let b = and_parts (leb 1 e) (leb e 1000 && leb p 65535) a.1 in
    let c = and_parts (leb e 1000) (leb p 65535) b.1 in
    (leb-true w 65535 a.0, leb-true 1 e b.0, leb-true e 1000 c.0, leb-true p 65535 c.1)

-- it is never above 2^42, within the ranges or not
pub cost_small : {f : Price} → Fair f → (w e p : ℕ) → cost_of f w e p ≤ 2 ^ 42
cost_small {f} fair w e p = by_test (in_range w e p) refl
  where
    by_test : (t : Bool) → in_range w e p ≡ t → cond t (f w e p) 0 ≤ 2 ^ 42
    by_test true is = fair.bounded w e p (range_within w e p is)
    by_test false is = omega arith

-- the sites of seats at places cost little ..
pub sites_bound : {f : Price} → Fair f → (seats : List Seat) → AllByRecursion Sited seats → sum_by (seat_cost f) seats ≤ 2 ^ 42 * length seats
sites_bound fair [] sited = omega arith
sites_bound {f} fair (s ∷ seats) sited =
    let own = ranged s.cell sited.0.0 in
    let place = sited.0.1 in
    let one = fair.bounded s.cell.wanted.site s.cell.weight s.site (omega arith) in
    let rest = sites_bound fair seats sited.1 in
    let more = sum_by-cons (seat_cost f) s seats in
    omega arith

-- .. and are what a row's sites cost, added up
pub sites_sum : (f : Price) (seats : List Seat) → sum_by (seat_cost f) seats ≡ sites_cost f (map cell_of seats) (map site_of seats)
sites_sum f [] = refl
sites_sum f (s ∷ seats) =
    let rest = sites_sum f seats in
    let more = sum_by-cons (seat_cost f) s seats in
    omega arith

-- what one seat of a floor adds to its cost, as a measure answers it
pub record Costed (f : Price) (seats : List Seat) (i across up : ℕ) : Type 0 where
  pub across_small : across ≤ 2 ^ 42
  pub up_small : up ≤ 2 ^ 42
  pub more : floor_cost f (drop i seats) ≡ (across + up) + floor_cost f (drop (i + 1) seats)

pub costed : {f : Price} (fair : Fair f) (rows : List Row) {all seats : List Seat} {i across up : ℕ} → formed rows all ≡ true → seats ≡ all → i < length seats →
    across ≡ cost_of f (get_or seats i no_seat).cell.wanted.site (get_or seats i no_seat).cell.weight (get_or seats i no_seat).site →
    up ≡ cost_of f (get_or seats i no_seat).cell.wanted.line (get_or seats i no_seat).cell.weight (get_or seats i no_seat).row.line → Costed f seats i across up
costed {f} fair rows {all} {seats} {i} {across} {up} well same within told_across told_up =
    let s : Seat = get_or seats i no_seat in
    let own : SeatKnown s = All-get_or SeatKnown seats i no_seat within (known_slice rows all seats well same) in
    let r = ranged s.cell own.passes in
    let row = own.ranged in
    let right = own.right in
    let site : InRange s.cell.wanted.site s.cell.weight s.site = omega arith in
    let line : InRange s.cell.wanted.line s.cell.weight s.row.line = omega arith in
    let a = told_across ∙ cost_within f _ _ _ site in
    let u = told_up ∙ cost_within f _ _ _ line in
    let a_small = fair.bounded _ _ _ site in
    let u_small = fair.bounded _ _ _ line in
    let more = at_drop_more (floor_cost f) seats i no_seat within in
    record { across_small = omega arith; up_small = omega arith; more = omega arith }
