use Rattle.std.proofs.Common.{◌∙◌, ap, sym, subst}
use Rattle.row.specs.Sites.{row_sites}
use Rattle.row.specs.Stack.{Ready}
use Rattle.table.specs.Order.{rank_of}
use Rattle.floor.specs.Seats.{seat_ahead}
use Rattle.floor.proofs.Joining.{placeable}
use Rattle.floor.proofs.Stretch.{gathered_with, on_ordered}
use Rattle.floor.proofs.Trying.{trial_is}
use Rattle.floor.proofs.offered.OfferedRow.try_in.Goals as goal

-- the two goals stand at two places of the body, whose facts have two types: so `gathered_with` is given them at each
pub set_ready-cost-requires-clause-ready : goal.set_ready-cost-requires-clause-ready
set_ready-cost-requires-clause-ready g c =
    let self = c.args.self.now in
    let table = self.offer.now.seats.now in
    let seats = table.items.items in
    let finds = c.place_of-at.ensures.finds (on_ordered self.row seats self.seats.now self.own table.ordered) ∙ ap (rank_of seat_ahead self.seats.now) c.new.ensures in
    subst (Ready self.row)
    (sym (gathered_with self.row self.offer.now.cell seats table.ordered self.own finds c.split_at.ensures.front c.split_at.ensures.back c.new-cells.ensures c.push_cells.ensures.cells c.push.ensures.items c.push_cells-2.ensures.cells c.as_slice.ensures.value))
    (self.ready c.requires.fits)

pub returns : goal.returns
returns g c =
    let self = c.args.self.now in
    let offer = self.offer.now in
    let f = g.M.Measure.price offer.measure.now in
    let table = offer.seats.now in
    let seats = table.items.items in
    let finds = c.place_of-at.ensures.finds (on_ordered self.row seats self.seats.now self.own table.ordered) ∙ ap (rank_of seat_ahead self.seats.now) c.new.ensures in
    let gathered = gathered_with self.row offer.cell seats table.ordered self.own finds c.split_at.ensures.front c.split_at.ensures.back c.new-cells.ensures c.push_cells.ensures.cells c.push.ensures.items c.push_cells-2.ensures.cells c.as_slice.ensures.value in
    record {
      trial = trial_is (g.met.M.Measure.fair offer.measure.now) self.row offer.cell seats (self.ready c.requires.fits) table.ordered (placeable seats offer.cell offer.free).fresh
          gathered c.set_ready-cost.ensures.answer c.set_ready-cost.ensures.after self.own finds;
      sites = c.set_ready-cost.ensures.after ∙ ap (row_sites f self.row) gathered;
    }
