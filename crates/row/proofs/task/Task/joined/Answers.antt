use Rattle.std.proofs.Common.{refl, ◌∙◌, arith}
use Rattle.std.specs.List.{between}
use Rattle.row.proofs.Instance.{best_least, best_narrowed}
use Rattle.row.proofs.Parts.{pair_known}
use Rattle.row.proofs.task.Task.joined.Goals as goal

pub overflow_add-width : goal.overflow_add-width
overflow_add-width g c =
    let known = pair_known c.args.self.now.row c.args.self.now.cells.now c.args.self.now.ready c.requires.follows in
    omega arith

pub overflow_sub-self : goal.overflow_sub-self
overflow_sub-self g c =
    let known = pair_known c.args.self.now.row c.args.self.now.cells.now c.args.self.now.ready c.requires.follows in
    omega arith

pub best_between-site-requires : goal.best_between-site-requires
best_between-site-requires g c =
    let known = pair_known c.args.self.now.row c.args.self.now.cells.now c.args.self.now.ready c.requires.follows in
    let best = best_least (g.M.Measure.price c.args.self.now.measure.now) c.args.self.now.row (between c.args.before.first c.args.last.past c.args.self.now.cells.now) known.0.room in
    record { begins = omega arith; within = omega arith; some = omega (arith, best.from, best.upto); inside = omega arith }

pub returns : goal.returns
returns g c =
    let f = g.M.Measure.price c.args.self.now.measure.now in
    let cs = between c.args.before.first c.args.last.past c.args.self.now.cells.now in
    let known = pair_known c.args.self.now.row c.args.self.now.cells.now c.args.self.now.ready c.requires.follows in
    let best = best_least f c.args.self.now.row cs known.0.room in
    record {
      begins = refl;
      spans = record { starts = omega arith; ends = refl; wide = omega arith };
      best = c.best_between-site.ensures ∙ best_narrowed f c.args.self.now.row cs c.max-low.result c.min-high.result known.0.room (omega arith) (omega (arith, best.from)) (omega (arith, best.upto)) (omega arith);
    }
