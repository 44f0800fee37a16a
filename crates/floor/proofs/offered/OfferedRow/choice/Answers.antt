use Rattle.std.proofs.Common.{ap, arith}
use Rattle.floor.proofs.Costs.{cost_small}
use Rattle.floor.proofs.Rising.{seated_bound}
use Rattle.floor.proofs.offered.OfferedRow.choice.Goals as goal

pub overflow_add-result : goal.overflow_add-result
overflow_add-result g c =
    let self = c.args.self.now in
    let offer = self.offer.now in
    let fair = g.met.M.Measure.fair offer.measure.now in
    let after = ap (λ t. t.cost) c.try_cell-trial.ensures.trial in
    let bound = seated_bound fair offer.seats.now.items.items self.row offer.cell (self.ready c.requires.fits) in
    let small = cost_small fair offer.cell.wanted.line offer.cell.weight self.row.line in
    let line = c.cost-up.ensures in
    let less = c.saturating_sub.ensures in
    omega arith
