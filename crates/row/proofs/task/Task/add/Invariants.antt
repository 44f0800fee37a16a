use Rattle.std.proofs.Common.{◌+◌, length}
use Rattle.row.proofs.Stacked.{Pushing}
use Rattle.row.proofs.task.Task.add.Given as goal

abbrev pub invariant-loop-last : goal.invariant-loop-last
invariant-loop-last g l = Pushing (g.M.Measure.price l.self.measure.now) l.self.row l.self.cells.now (l.first + 1) l.clusters.items l.last

abbrev pub decreases-loop-last : goal.decreases-loop-last
decreases-loop-last g l = length l.clusters.items
