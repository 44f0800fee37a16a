-- What the table of seats keeps has one proof at most, so that the table may hold it.
use Rattle.std.specs.Prelude.{◌≡◌, List, [], ◌∷◌, true}
use Rattle.std.specs.List.{AllByRecursion-prop}
use Rattle.std.specs.Coded.{×_prop, Unit-prop}
use Rattle.std.proofs.Math.Bool.{Bool-set}
use Rattle.table.specs.Order.{Ordered}
use Rattle.floor.specs.Seats.{seat_ahead}
use Rattle.floor.specs.declared.Seat.{Seat}

-- that the seats are in their order
pub Ordered-prop : (seats : List Seat) → IsProp (Ordered seat_ahead seats)
Ordered-prop [] = Unit-prop
Ordered-prop (s ∷ seats) =
    ×_prop
    (AllByRecursion-prop (λ t. seat_ahead s t ≡ true) (λ t. Bool-set (seat_ahead s t) true) seats)
    (Ordered-prop seats)
