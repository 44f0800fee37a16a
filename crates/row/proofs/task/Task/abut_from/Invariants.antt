use Rattle.std.proofs.Common.{◌≡◌, ◌+◌, ◌++◌, take, drop}
use Rattle.row.specs.Records.{widths}
use Rattle.row.specs.Costs.{sites_cost}
use Rattle.row.specs.Sites.{abut}
use Rattle.row.proofs.task.Task.abut_from.Given as goal

-- what is written and added up, and what is still to come, make the whole
abbrev pub invariant-loop-i : goal.invariant-loop-i
invariant-loop-i g l =
    let cells = l.self.cells.now in
    let left = drop l.i cells in
    let price = g.M.Measure.price l.self.measure.now in
    (take l.i l.sites ++ abut left l.site ≡ abut cells l.start)
    × (l.site + widths left ≡ l.start + widths cells)
    × (l.cost + sites_cost price left (abut left l.site) ≡ sites_cost price cells (abut cells l.start))
