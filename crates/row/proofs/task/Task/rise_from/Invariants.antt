use Rattle.std.proofs.Common.{◌≡◌, ◌+◌, ◌*◌, ◌^◌, drop, pos, ◌+ℤ◌, neg_ℤ, ◌≤ℤ◌}
use Rattle.row.specs.Records.{widths}
use Rattle.row.specs.Sites.{cluster_rise}
use Rattle.row.proofs.task.Task.rise_from.Given as goal

abbrev pub invariant-loop-cell : goal.invariant-loop-cell
invariant-loop-cell g l =
    (l.sum +ℤ cluster_rise (g.M.Measure.price l.self.measure.now) (drop l.cell-index l.self.cells.now) l.site ≡ cluster_rise (g.M.Measure.price l.self.measure.now) l.self.cells.now l.start)
    × (l.site + widths (drop l.cell-index l.self.cells.now) ≡ l.start + widths l.self.cells.now)
    × (neg_ℤ (pos (2 ^ 42 * l.cell-index)) ≤ℤ l.sum)
    × (l.sum ≤ℤ pos (2 ^ 42 * l.cell-index))
