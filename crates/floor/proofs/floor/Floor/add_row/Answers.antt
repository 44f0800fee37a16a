use Rattle.std.proofs.Common.{◌<◌, length, Ok, sym, refl, ap, ◌∙◌, subst, arith}
use Rattle.floor.specs.Calls.{outcome_unless, with_row}
use Rattle.floor.specs.Formed.{formed}
use Rattle.floor.specs.Settled.{Settled}
use Rattle.floor.specs.State.{tables_of}
use Rattle.floor.proofs.Keeping.{with_settled}
use Rattle.floor.proofs.Rowed.{row_added, row_placed, not_full, with_more}
use Rattle.floor.proofs.floor.Floor.add_row.Goals as goal

-- the two goals stand at two places of the body, whose facts have two types: so `row_placed` is given them at each
pub invariant_of-self : goal.invariant_of-self
invariant_of-self g c =
    let self = c.args.self.now in
    let rows = self.rows.items in
    let row = c.args.row in
    let none = sym c.in_ok-check_row.ensures in
    let few : length rows < 64 = not_full rows row none in
    let items = row_placed rows self.seats.items.items _ row _ self.well c.as_slice.ensures.value c.place_of-at.ensures.finds c.insert.ensures.items in
    let more = ap length items ∙ with_more rows row in
    record {
      few = omega arith;
      well = ap (λ rs. formed rs self.seats.items.items) items ∙ row_added rows row none self.seats.items.items self.well;
      set = subst (λ rs. Settled (g.M.Measure.price self.measure) rs self.seats.items.items) (sym items) (with_settled (g.M.Measure.price self.measure) (tables_of self) self.well self.set row none);
    }

pub returns : goal.returns
returns g c =
    let self = c.args.self.now in
    let rows = self.rows.items in
    let seats = self.seats.items.items in
    let row = c.args.row in
    let items = row_placed rows seats _ row _ self.well c.as_slice.ensures.value c.place_of-at.ensures.finds c.insert.ensures.items in
    let granted = ap (λ refusal. outcome_unless refusal (tables_of self) (record { answer = Ok tt; tables = record { rows = with_row rows row; seats = seats } })) c.in_ok-check_row.ensures in
    record {
      answer = ap (λ o. o.answer) granted;
      tables = ap (λ rs. record { rows = rs; seats = seats }) items ∙ ap (λ o. o.tables) granted;
      same = refl;
      limits = record { place = refl; line = refl; width = refl; weight = refl; number = refl; cells = refl };
      most_rows = refl;
    }
