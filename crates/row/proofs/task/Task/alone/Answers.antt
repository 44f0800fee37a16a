use Rattle.std.proofs.Common.{◌+◌, refl, ◌∙◌, arith}
use Rattle.std.specs.List.{between}
use Rattle.row.proofs.Instance.{best_least, best_narrowed}
use Rattle.row.proofs.Lone.{lone_known}
use Rattle.row.proofs.Parts.{one_known}
use Rattle.row.proofs.task.Task.alone.Goals as goal

pub overflow_sub-last : goal.overflow_sub-last
overflow_sub-last g c =
    let known = one_known c.args.self.now.row c.args.self.now.cells.now c.args.first c.args.self.now.ready c.requires in
    omega arith

pub best_between-site-requires : goal.best_between-site-requires
best_between-site-requires g c =
    let known = one_known c.args.self.now.row c.args.self.now.cells.now c.args.first c.args.self.now.ready c.requires in
    record { begins = omega arith; within = omega arith; some = omega arith; inside = omega arith }

pub returns : goal.returns
returns g c =
    let f = g.M.Measure.price c.args.self.now.measure.now in
    let cs = between c.args.first (c.args.first + 1) c.args.self.now.cells.now in
    let known = one_known c.args.self.now.row c.args.self.now.cells.now c.args.first c.args.self.now.ready c.requires in
    let best = best_least f c.args.self.now.row cs known.0.room in
    let before = lone_known f (g.met.M.Measure.fair c.args.self.now.measure.now) c.args.self.now.row c.args.self.now.cells.now c.args.first c.args.self.now.ready c.requires in
    record {
      begins = refl;
      spans = record { starts = omega arith; ends = refl; wide = omega arith };
      best = c.best_between-site.ensures ∙ best_narrowed f c.args.self.now.row cs _ _ known.0.room (omega arith) best.from (omega (arith, best.upto)) (omega arith);
    }
