use Rattle.std.proofs.Common.{◌-◌, ◌≤◌}
use Rattle.row.specs.Sites.{climbs, least}
use Rattle.row.proofs.Least.{IsLeast}
use Rattle.row.proofs.task.Task.best_before.Given as goal

-- what is sought lies between the two
abbrev pub invariant-loop-from : goal.invariant-loop-from
invariant-loop-from g l =
    let test = climbs (g.M.Measure.price l.self.measure.now) l.self.cells.now in
    IsLeast test l.from l.to (least test l.low (l.high - l.low)) × (l.to ≤ l.high)
    × (1 ≤ l.step)

abbrev pub decreases-loop-from : goal.decreases-loop-from
decreases-loop-from g l = l.to - l.from
