-- The widths of seats, as a sum.
use Rattle.std.proofs.Common.{◌≡◌, ◌*◌, ◌≤◌, List, [], ◌∷◌, map, length, sym, refl, arith}
use Rattle.std.proofs.lemmas.List.Recursion.{is_sum_by}
use Rattle.std.specs.List.{AllByRecursion, sum_by}
use Rattle.row.specs.Records.{widths}
use Rattle.row.proofs.Ranges.{ranged}
use Rattle.floor.specs.Seats.{cell_of, Sited}
use Rattle.floor.specs.declared.Seat.{Seat}

pub widths_is : (seats : List Seat) → sum_by (λ s. s.cell.width) seats ≡ widths (map cell_of seats)
widths_is seats = sym (is_sum_by (λ ss. widths (map cell_of ss)) (λ s. s.cell.width) refl (λ _ _. refl) seats)

-- cells within their ranges cover at most 1,000 sites each
pub widths_bound : (seats : List Seat) → AllByRecursion Sited seats → widths (map cell_of seats) ≤ 1000 * length seats
widths_bound [] sited = omega arith
widths_bound (s ∷ seats) sited =
    let own = ranged s.cell sited.0.0 in
    let rest = widths_bound seats sited.1 in
    omega arith
