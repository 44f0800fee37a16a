use Rattle.std.proofs.Common.{refl}
use Rattle.floor.proofs.Settling.{set_row}
use Rattle.floor.proofs.seats.Seats.settle_in.Goals as goal

-- the two goals stand at two places of the body, whose facts have two types: so `set_row` is given them at each
pub invariant_of-self : goal.invariant_of-self
invariant_of-self g c =
    let self = c.args.self.now in
    let set = set_row (g.met.M.Measure.fair c.args.measure.now) c.args.row self.items.items c.args.stretch c.requires.ready self.ordered self.sited self.few c.requires.spanned
    c.new-cells.ensures c.deref.ensures.0 c.push_cells.ensures.cells c.as_slice-cells.ensures.value c.set_ready.ensures.after c.deref_mut.ensures.value c.move_to.ensures refl in
    record { ordered = set.ordered; sited = set.sited; few = set.few }

pub returns : goal.returns
returns g c =
    let self = c.args.self.now in
    let set = set_row (g.met.M.Measure.fair c.args.measure.now) c.args.row self.items.items c.args.stretch c.requires.ready self.ordered self.sited self.few c.requires.spanned
    c.new-cells.ensures c.deref.ensures.0 c.push_cells.ensures.cells c.as_slice-cells.ensures.value c.set_ready.ensures.after c.deref_mut.ensures.value c.move_to.ensures refl in
    set.is
