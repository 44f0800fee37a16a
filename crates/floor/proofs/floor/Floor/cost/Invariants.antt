use Rattle.std.proofs.Common.{◌≡◌, ◌+◌, ◌*◌, ◌^◌, ◌≤◌, drop}
use Rattle.floor.specs.Seats.{floor_cost}
use Rattle.floor.proofs.floor.Floor.cost.Given as goal

abbrev pub invariant-loop-seat : goal.invariant-loop-seat
invariant-loop-seat g l =
    (l.sum + floor_cost (g.M.Measure.price l.self.measure) (drop l.seat-index l.seats) ≡ floor_cost (g.M.Measure.price l.self.measure) l.seats)
    × (l.sum ≤ 2 ^ 43 * l.seat-index)
