use Rattle.std.proofs.Common.{◌≡◌, ℕ, ◌+◌, ◌-◌, ◌<◌, Bool, false, arith}
use Rattle.row.specs.Sites.{climbs, least}
use Rattle.row.proofs.Accepted.{ready_known}
use Rattle.row.proofs.Least.{least_is, narrowed, after}
use Rattle.row.proofs.Rises.{climbs_on, tested}
use Rattle.row.proofs.task.Task.best_before.Goals as goal

pub loop-from-init : goal.loop-from-init
loop-from-init g c = (least_is c.args.low (c.args.high - c.args.low) c.args.high (omega arith), omega arith, omega arith)

pub loop-from-preserved : goal.loop-from-preserved
loop-from-preserved g c =
    let from = c.loop-from.from in
    let to = c.loop-from.to in
    let probe = c.probe-probe.result in
    let cells = c.args.self.now.cells.now in
    let test : ℕ → Bool = climbs (g.M.Measure.price c.args.self.now.measure.now) cells in
    let inv = c.loop-from.invariant.0 in
    let fails : test probe ≡ false = tested c.rise_from-rise.result _ false c.rise_from-rise.type_inv c.rise_from-rise.ensures c.if-climbs.false in
    let fair = g.met.M.Measure.fair c.args.self.now.measure.now in
    let further : probe < least test c.args.low (c.args.high - c.args.low) =
    after from to probe _ inv (omega arith) fails (λ t u at up below. climbs_on fair cells t u (ready_known c.args.self.now.row c.args.self.now.cells.now c.args.self.now.ready).pass up (omega arith)) in
    (narrowed from to (probe + 1) to _ inv (omega arith) (omega arith) inv.upto (omega arith), c.loop-from.invariant.1, c.loop-from.invariant.2)
