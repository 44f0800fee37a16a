use Rattle.std.proofs.Common.{◌≤◌, length, ap, ◌∙◌, sym, subst}
use Rattle.std.specs.List.{AllByRecursion}
use Rattle.floor.specs.Formed.{formed}
use Rattle.floor.specs.Seats.{floor_cost, joined, resited}
use Rattle.floor.specs.Settled.{Settled}
use Rattle.floor.specs.State.{tables_of}
use Rattle.floor.proofs.Best.{place_least}
use Rattle.floor.proofs.Dearer.{place_dearer}
use Rattle.floor.proofs.Keeping.{place_settled}
use Rattle.floor.proofs.Placed.{chose, placing_is}
use Rattle.floor.proofs.floor.Floor.place.Goals as goal

-- the goals stand at places of the body whose facts have types of their own: so `chose` is given them at each
pub seat-requires : goal.seat-requires
seat-requires g c =
    let self = c.args.self.now in
    let known = chose (g.met.M.Measure.fair self.measure) (tables_of self) c.args.cell self.well c.in_ok-check_cell.ensures c.in-Some.is c.choose.ensures.choice c.choose.ensures.sites in
    let same = c.as_slice.ensures.value in
    record {
      passes = known.can.passes;
      fresh = known.can.fresh;
      few = known.can.few;
      each = ap length same ∙ known.each;
      places = subst (AllByRecursion (λ x. x ≤ 65535)) (sym same) known.places;
    }

pub invariant_of-self : goal.invariant_of-self
invariant_of-self g c =
    let self = c.args.self.now in
    let price = g.M.Measure.price self.measure in
    let row = c.in-Some.choice.row in
    let known = chose (g.met.M.Measure.fair self.measure) (tables_of self) c.args.cell self.well c.in_ok-check_cell.ensures c.in-Some.is c.choose.ensures.choice c.choose.ensures.sites in
    let seats = c.seat.ensures ∙ ap (λ xs. resited row xs (joined row c.args.cell self.seats.items.items)) c.as_slice.ensures.value in
    let after = ap (λ seats. record { rows = self.rows.items; seats = seats }) seats ∙ ap (λ o. o.tables) (placing_is (tables_of self) c.args.cell c.in-Some.choice known) in
    record {
      few = self.few;
      well = ap (formed self.rows.items) (seats ∙ ap (λ xs. resited row xs (joined row c.args.cell self.seats.items.items)) known.sites) ∙ known.well;
      set = subst (λ t. Settled price t.rows t.seats) (sym after) (place_settled price (g.met.M.Measure.fair self.measure) (tables_of self) self.well self.set c.args.cell);
    }

pub returns-clause-answer : goal.returns-clause-answer
returns-clause-answer g c =
    let self = c.args.self.now in
    let known = chose (g.met.M.Measure.fair self.measure) (tables_of self) c.args.cell self.well c.in_ok-check_cell.ensures c.in-Some.is c.choose.ensures.choice c.choose.ensures.sites in
    ap (λ o. o.answer) (placing_is (tables_of self) c.args.cell c.in-Some.choice known)

pub returns-clause-tables : goal.returns-clause-tables
returns-clause-tables g c =
    let self = c.args.self.now in
    let row = c.in-Some.choice.row in
    let known = chose (g.met.M.Measure.fair self.measure) (tables_of self) c.args.cell self.well c.in_ok-check_cell.ensures c.in-Some.is c.choose.ensures.choice c.choose.ensures.sites in
    ap (λ seats. record { rows = self.rows.items; seats = seats }) (c.seat.ensures ∙ ap (λ xs. resited row xs (joined row c.args.cell self.seats.items.items)) c.as_slice.ensures.value)
    ∙ ap (λ o. o.tables) (placing_is (tables_of self) c.args.cell c.in-Some.choice known)

pub returns-clause-least : goal.returns-clause-least
returns-clause-least g c =
    let self = c.args.self.now in
    place_least (g.M.Measure.price self.measure) (tables_of self) self.well c.args.cell _ (sym (returns-clause-answer g c))

pub returns-clause-dearer : goal.returns-clause-dearer
returns-clause-dearer g c =
    let self = c.args.self.now in
    let price = g.M.Measure.price self.measure in
    ap (λ t. floor_cost price t.seats) (returns-clause-tables g c) ∙ place_dearer price (g.met.M.Measure.fair self.measure) (tables_of self) self.well self.set c.args.cell _ (sym (returns-clause-answer g c))
