use Rattle.std.proofs.Common.{arith}
use Rattle.std.proofs.lemmas.List.{at_drop_all}
use Rattle.std.proofs.lemmas.Int.{ints}
use Rattle.row.specs.Sites.{cluster_rise}
use Rattle.row.proofs.Rises.{passes_at, ranged_at, widths_more, rise_more, stepped}
use Rattle.row.proofs.task.Task.rise_from.Goals as goal

pub site_step-sum-requires : goal.site_step-sum-requires
site_step-sum-requires g c =
    let r = ranged_at c.args.self.now.cells.now c.loop-cell.cell-index c.loop-cell-test.true c.args.self.now.row c.args.self.now.ready in
    let more = widths_more c.args.self.now.cells.now c.loop-cell.cell-index c.loop-cell-test.true in
    record {
      passes = passes_at c.args.self.now.cells.now c.loop-cell.cell-index c.loop-cell-test.true c.args.self.now.row c.args.self.now.ready;
      inside = omega arith;
    }

pub overflow_add-sum : goal.overflow_add-sum
overflow_add-sum g c =
    let step = stepped c.args.self.now.cells.now c.loop-cell.cell-index c.loop-cell-test.true (g.met.M.Measure.fair c.args.self.now.measure.now) c.args.self.now.row c.args.self.now.ready c.loop-cell.site (omega arith) in
    omega (arith, ints)

pub overflow_add-site : goal.overflow_add-site
overflow_add-site g c =
    let more = widths_more c.args.self.now.cells.now c.loop-cell.cell-index c.loop-cell-test.true in
    omega arith

pub loop-cell-preserved : goal.loop-cell-preserved
loop-cell-preserved g c =
    let step = stepped c.args.self.now.cells.now c.loop-cell.cell-index c.loop-cell-test.true (g.met.M.Measure.fair c.args.self.now.measure.now) c.args.self.now.row c.args.self.now.ready c.loop-cell.site (omega arith) in
    let more = widths_more c.args.self.now.cells.now c.loop-cell.cell-index c.loop-cell-test.true in
    let rest = rise_more c.args.self.now.cells.now c.loop-cell.cell-index c.loop-cell-test.true (g.M.Measure.price c.args.self.now.measure.now) c.loop-cell.site in
    (omega (arith, ints), omega arith, omega (arith, ints), omega (arith, ints))

pub returns : goal.returns
returns g c =
    let none = at_drop_all (λ cs. cluster_rise (g.M.Measure.price c.args.self.now.measure.now) cs c.loop-cell.site) c.args.self.now.cells.now c.loop-cell.cell-index c.loop-cell-test.false in
    omega (arith, ints)
