use Rattle.std.proofs.Common.{◌≡◌, ◌+◌, ◌-◌, ◌≤◌, Some, length, arith}
use Rattle.std.specs.List.{slice_get}
use Rattle.row.specs.declared.cluster.Cluster.{Cluster as Run}
use Rattle.std.proofs.lemmas.Grind.{common_steps}
use Rattle.row.proofs.Accepted.{ready_known}
use Rattle.row.proofs.Stacked.{few_runs, start, turn, rests, finish}
use Rattle.row.proofs.task.Task.add.Goals as goal

pub loop-last-init : goal.loop-last-init
loop-last-init g c =
    let a = ready_known c.args.self.now.row c.args.self.now.cells.now c.args.self.now.ready in
    start (g.met.M.Measure.fair c.args.self.now.measure.now) a c.requires.within c.requires.holds c.alone-last.ensures

pub end-requires : goal.end-requires
end-requires g c =
    let known = turn (g.met.M.Measure.fair c.args.self.now.measure.now) c.args.self.now.ready (omega arith) (rw c.deref.ensures.0 at c.in-Some.ensures.value) c.loop-last.invariant in
    omega (arith, known.ends)

pub joined-last-requires : goal.joined-last-requires
joined-last-requires g c =
    let known = turn (g.met.M.Measure.fair c.args.self.now.measure.now) c.args.self.now.ready (omega arith) (rw c.deref.ensures.0 at c.in-Some.ensures.value) c.loop-last.invariant in
    record { follows = known.follows; bracketed = known.bracketed (omega arith) }

pub loop-last-preserved : goal.loop-last-preserved
loop-last-preserved g c =
    let known = turn (g.met.M.Measure.fair c.args.self.now.measure.now) c.args.self.now.ready (omega arith) (rw c.deref.ensures.0 at c.in-Some.ensures.value) c.loop-last.invariant in
    rw c.pop.ensures.rest (known.again (omega arith) c.joined-last.result c.joined-last.ensures)

pub push-requires : goal.push-requires
push-requires g c =
    let a = ready_known c.args.self.now.row c.args.self.now.cells.now c.args.self.now.ready in
    let starts = c.loop-last.invariant.spans.starts in
    let ends = c.loop-last.invariant.spans.ends in
    omega (arith, a.few, few_runs c.args.self.now.cells.now c.loop-last.clusters.items c.loop-last.last.first c.loop-last.invariant.tiled)

pub returns : goal.returns
returns g c =
    let a = ready_known c.args.self.now.row c.args.self.now.cells.now c.args.self.now.ready in
    let f = g.M.Measure.price c.args.self.now.measure.now in
    let fair = g.met.M.Measure.fair c.args.self.now.measure.now in
    let runs = c.loop-last.clusters.items in
    let clear : (b : Run) → Some b ≡ slice_get runs (length runs - 1) → b.site + b.width ≤ c.loop-last.last.site = λ b top. grind (arith, common_steps) in
    rw c.push.ensures.items (finish fair a c.loop-last.invariant (rests fair a (omega arith) c.loop-last.invariant clear))
