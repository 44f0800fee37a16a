use Rattle.row.specs.Stack.{Holds}
use Rattle.row.proofs.task.Task.put_clusters.Given as goal

abbrev pub invariant-loop-first : goal.invariant-loop-first
invariant-loop-first g l = Holds (g.M.Measure.price l.self.measure.now) l.self.row l.self.cells.now l.first l.clusters.items
