use Rattle.std.proofs.Common.{Ok, sym, ap, ◌∙◌, subst}
use Rattle.floor.specs.Formed.{formed}
use Rattle.floor.specs.Settled.{Settled}
use Rattle.floor.specs.State.{tables_of}
use Rattle.floor.proofs.Leaving.{found_known, withdraw_formed, withdraw_settled}
use Rattle.floor.proofs.floor.Floor.withdraw.Goals as goal

-- the goals stand at places of the body whose facts have types of their own: so `found_known` is given them at each
pub unseat-seat-requires : goal.unseat-seat-requires
unseat-seat-requires g c =
    let self = c.args.self.now in
    let known = found_known (g.M.Measure.price self.measure) (tables_of self) c.args.number c.in-Some.at self.well self.seats.few c.position.ensures c.in-Some.is in
    record { within = known.within; ready = known.ready }

pub invariant_of-self : goal.invariant_of-self
invariant_of-self g c =
    let self = c.args.self.now in
    let price = g.M.Measure.price self.measure in
    let known = found_known price (tables_of self) c.args.number c.in-Some.at self.well self.seats.few c.position.ensures c.in-Some.is in
    let after = ap (λ seats. record { rows = self.rows.items; seats = seats }) c.unseat-seat.ensures.left ∙ ap (λ o. o.tables) (known.is c.unseat-seat.result c.unseat-seat.ensures.taken) in
    record {
      few = self.few;
      well = ap (λ t. formed t.rows t.seats) after ∙ withdraw_formed price (g.met.M.Measure.fair self.measure) (tables_of self) self.well c.args.number;
      set = subst (λ t. Settled price t.rows t.seats) (sym after) (withdraw_settled price (g.met.M.Measure.fair self.measure) (tables_of self) self.well c.args.number self.set);
    }

pub returns-clause-answer : goal.returns-clause-answer
returns-clause-answer g c =
    let self = c.args.self.now in
    let known = found_known (g.M.Measure.price self.measure) (tables_of self) c.args.number c.in-Some.at self.well self.seats.few c.position.ensures c.in-Some.is in
    ap Ok c.spot.ensures ∙ ap (λ o. o.answer) (known.is c.unseat-seat.result c.unseat-seat.ensures.taken)

pub returns-clause-tables : goal.returns-clause-tables
returns-clause-tables g c =
    let self = c.args.self.now in
    let known = found_known (g.M.Measure.price self.measure) (tables_of self) c.args.number c.in-Some.at self.well self.seats.few c.position.ensures c.in-Some.is in
    ap (λ seats. record { rows = self.rows.items; seats = seats }) c.unseat-seat.ensures.left ∙ ap (λ o. o.tables) (known.is c.unseat-seat.result c.unseat-seat.ensures.taken)
