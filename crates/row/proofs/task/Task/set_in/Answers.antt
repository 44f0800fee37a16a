use Rattle.std.proofs.Common.{ap, ◌∙◌, refl, arith}
use Rattle.std.proofs.ByRecursion.{All-get_or}
use Rattle.row.specs.Costs.{sites_cost}
use Rattle.row.specs.Stack.{InPlaces}
use Rattle.row.proofs.Accepted.{ready_known}
use Rattle.row.proofs.Defaults.{no_run}
use Rattle.row.proofs.Finished.{all_tiled, in_places, laid_are, next_bounded}
use Rattle.row.proofs.Laying.{lay_none, next_spans, lay_more, lay_cost, lay_all_cost}
use Rattle.row.proofs.task.Task.set_in.Goals as goal

pub loop-cluster-init : goal.loop-cluster-init
loop-cluster-init g c = (0, lay_none _ _ _, refl, omega arith)

pub lay_one-cost-requires : goal.lay_one-cost-requires
lay_one-cost-requires g c =
    let fair = g.met.M.Measure.fair c.args.self.now.measure.now in
    let runs = c.as_slice-cluster-items.result.now in
    let tiled = all_tiled fair c.args.self.now.ready c.as_slice-cluster-items.ensures.value c.put_clusters.ensures in
    let next = next_spans c.args.self.now.cells.now runs c.loop-cluster.cluster-index _ c.loop-cluster.sites tiled c.loop-cluster-test.true (omega arith) c.loop-cluster.invariant.1 in
    let ends = next.2 in
    record {
      within = ends;
      room = omega arith;
      spans = next.0;
      inside = All-get_or InPlaces runs c.loop-cluster.cluster-index no_run c.loop-cluster-test.true (in_places fair c.args.self.now.ready c.as_slice-cluster-items.ensures.value c.put_clusters.ensures);
    }

pub overflow_add-cost : goal.overflow_add-cost
overflow_add-cost g c =
    let fair = g.met.M.Measure.fair c.args.self.now.measure.now in
    let few = (ready_known c.args.self.now.row c.args.self.now.cells.now c.args.self.now.ready).few in
    let tiled = all_tiled fair c.args.self.now.ready c.as_slice-cluster-items.ensures.value c.put_clusters.ensures in
    let ends = (next_spans c.args.self.now.cells.now c.as_slice-cluster-items.result.now c.loop-cluster.cluster-index _ c.loop-cluster.sites tiled c.loop-cluster-test.true (omega arith) c.loop-cluster.invariant.1).2 in
    let bounded = next_bounded fair c.args.self.now.ready c.as_slice-cluster-items.ensures.value c.put_clusters.ensures c.loop-cluster-test.true (omega arith) c.loop-cluster.invariant.1 in
    omega arith

pub loop-cluster-preserved : goal.loop-cluster-preserved
loop-cluster-preserved g c =
    let fair = g.met.M.Measure.fair c.args.self.now.measure.now in
    let cells = c.args.self.now.cells.now in
    let runs = c.as_slice-cluster-items.result.now in
    let i = c.loop-cluster.cluster-index in
    let inv = c.loop-cluster.invariant in
    let tiled = all_tiled fair c.args.self.now.ready c.as_slice-cluster-items.ensures.value c.put_clusters.ensures in
    let cost = lay_cost cells runs i _ c.loop-cluster.sites tiled c.loop-cluster-test.true (omega arith) inv.1 _ c.lay_one-cost.ensures.after (g.M.Measure.price c.args.self.now.measure.now) in
    let bounded = next_bounded fair c.args.self.now.ready c.as_slice-cluster-items.ensures.value c.put_clusters.ensures c.loop-cluster-test.true (omega arith) inv.1 in (
      _,
      lay_more cells runs i _ c.loop-cluster.sites tiled c.loop-cluster-test.true (omega arith) inv.1 _ c.lay_one-cost.ensures.after,
      omega arith,
      omega arith,
    )

pub returns : goal.returns
returns g c =
    let fair = g.met.M.Measure.fair c.args.self.now.measure.now in
    let f = g.M.Measure.price c.args.self.now.measure.now in
    let cells = c.args.self.now.cells.now in
    let inv = c.loop-cluster.invariant in
    let tiled = all_tiled fair c.args.self.now.ready c.as_slice-cluster-items.ensures.value c.put_clusters.ensures in
    let written = laid_are fair c.args.self.now.ready c.as_slice-cluster-items.ensures.value c.put_clusters.ensures c.loop-cluster-test.false (omega arith) inv.1 in
    record {
      answer = inv.2 ∙ lay_all_cost f cells _ _ _ _ tiled c.loop-cluster-test.false (omega arith) inv.1 ∙ ap (sites_cost f cells) written;
      after = written;
    }
