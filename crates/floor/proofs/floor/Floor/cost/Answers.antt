use Rattle.std.proofs.Common.{◌≡◌, length, drop, ap, arith}
use Rattle.std.proofs.lemmas.List.{at_drop_all}
use Rattle.floor.specs.Seats.{floor_cost}
use Rattle.floor.proofs.Costs.{Costed, costed}
use Rattle.floor.proofs.floor.Floor.cost.Given as given
use Rattle.floor.proofs.floor.Floor.cost.Goals as goal

-- what the seat of this turn costs
one : (g : given.Over) (c : goal.After-cost-up g) → Costed (g.M.Measure.price c.args.self.now.measure) c.as_slice-seats.result.now c.loop-seat.seat-index c.cost-across.result c.cost-up.result
one g c =
    let self = c.args.self.now in
    costed (g.met.M.Measure.fair self.measure) self.rows.items self.well c.as_slice-seats.ensures c.loop-seat-test.true c.cost-across.ensures.value c.cost-up.ensures.value

pub overflow_add-sum : goal.overflow_add-sum
overflow_add-sum g c =
    let seat = one g c in
    omega arith

pub overflow_add-sum-in-loop-seat : goal.overflow_add-sum-in-loop-seat
overflow_add-sum-in-loop-seat g c =
    let self = c.args.self.now in
    let seat = one g c in
    let few = self.seats.few in
    let long = ap length c.as_slice-seats.ensures in
    omega arith

pub loop-seat-preserved : goal.loop-seat-preserved
loop-seat-preserved g c =
    let seat = one g c in
    (omega arith, omega arith)

pub returns : goal.returns
returns g c =
    let self = c.args.self.now in
    let seats = c.as_slice-seats.result.now in
    let f = g.M.Measure.price self.measure in
    let none : floor_cost f (drop c.loop-seat.seat-index seats) ≡ 0 = at_drop_all (floor_cost f) seats c.loop-seat.seat-index c.loop-seat-test.false in
    let same : floor_cost f seats ≡ floor_cost f self.seats.items.items = ap (floor_cost f) c.as_slice-seats.ensures in
    let few = self.seats.few in
    let long = ap length c.as_slice-seats.ensures in
    record { value = omega arith; bound = omega arith }
