use Rattle.row.proofs.Laying.{Laid}
use Rattle.row.specs.Costs.{sites_cost}
use Rattle.std.proofs.Common.{◌≡◌, ℕ, ◌*◌, ◌^◌, ◌≤◌, take}
use Rattle.row.proofs.task.Task.set_in.Given as goal

-- the sites of the clusters so far, which end at some place, are written, and what the cells before that place cost is added up
abbrev pub invariant-loop-cluster : goal.invariant-loop-cluster
invariant-loop-cluster g l =
    (past : ℕ) × Laid l.self.cells.now l.cluster-items l.cluster-index past l.sites
    × (l.cost ≡ sites_cost (g.M.Measure.price l.self.measure.now) (take past l.self.cells.now) (take past l.sites))
    × (l.cost ≤ 2 ^ 42 * past)
