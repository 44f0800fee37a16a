use Rattle.std.proofs.Common.{true, false, ◌∙◌, arith}
use Rattle.std.specs.List.{between}
use Rattle.row.proofs.Accepted.{ready_known}
use Rattle.row.proofs.Least.{least_below, least_last}
use Rattle.row.proofs.Parts.{part_known}
use Rattle.row.proofs.Rises.{climbs_on, tested}
use Rattle.row.proofs.task.Task.best_between.Goals as goal

pub returns-then-climbs : goal.returns-then-climbs
returns-then-climbs g c =
    let rise = rw (c.part.ensures.measure, c.part.ensures.cells) at c.rise_from-above.ensures in
    (rw (c.part-then-climbs.ensures.measure, c.part-then-climbs.ensures.cells) at c.best_before.ensures)
    ∙ least_below _ c.args.low c.args.high (omega arith) (tested c.rise_from-above.result _ true c.rise_from-above.type_inv rise c.if-climbs.true)

pub returns-else-climbs : goal.returns-else-climbs
returns-else-climbs g c =
    let self = c.args.self.now in
    let fair = g.met.M.Measure.fair self.measure.now in
    let cs = between c.args.first c.args.past self.cells.now in
    let rise = rw (c.part.ensures.measure, c.part.ensures.cells) at c.rise_from-above.ensures in
    least_last _ c.args.low c.args.high (omega arith) (tested c.rise_from-above.result _ false c.rise_from-above.type_inv rise c.if-climbs.false)
    (λ t u at up below. climbs_on fair cs t u (part_known (ready_known self.row self.cells.now self.ready) c.args.first c.args.past).pass up (omega arith))
