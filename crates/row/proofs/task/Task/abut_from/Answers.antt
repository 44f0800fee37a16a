use Rattle.std.proofs.Common.{◌∙◌, arith}
use Rattle.row.proofs.Accepted.{ready_known}
use Rattle.row.proofs.Costs.{abut_bounded, abut_cost_more}
use Rattle.row.proofs.Rises.{passes_at, widths_more}
use Rattle.row.proofs.Writes.{abut_more}
use Rattle.row.proofs.task.Task.abut_from.Goals as goal

pub site_cost-cost-requires-clause-passes : goal.site_cost-cost-requires-clause-passes
site_cost-cost-requires-clause-passes g c = passes_at c.args.self.now.cells.now c.loop-i.i c.loop-i-test.true c.args.self.now.row c.args.self.now.ready

pub overflow_add-cost : goal.overflow_add-cost
overflow_add-cost g c =
    let a = ready_known c.args.self.now.row c.args.self.now.cells.now c.args.self.now.ready in
    let few = a.few in
    let whole = abut_bounded (g.met.M.Measure.fair c.args.self.now.measure.now) c.args.self.now.cells.now c.args.start a.pass c.requires.inside in
    let more = abut_cost_more (g.M.Measure.price c.args.self.now.measure.now) c.args.self.now.cells.now c.loop-i.i c.loop-i.site c.loop-i-test.true in
    omega arith

pub overflow_add-site : goal.overflow_add-site
overflow_add-site g c =
    let more = widths_more c.args.self.now.cells.now c.loop-i.i c.loop-i-test.true in
    omega arith

pub loop-i-preserved : goal.loop-i-preserved
loop-i-preserved g c =
    let cells = c.args.self.now.cells.now in
    let more = widths_more cells c.loop-i.i c.loop-i-test.true in
    let cost = abut_cost_more (g.M.Measure.price c.args.self.now.measure.now) cells c.loop-i.i c.loop-i.site c.loop-i-test.true in
    (abut_more cells c.loop-i.sites c.loop-i.i (omega arith) c.loop-i.site c.loop-i-test.true ∙ c.loop-i.invariant.0, omega arith, omega arith)
