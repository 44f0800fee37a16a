use Rattle.std.proofs.Common.{◌≡◌, drop, None}
use Rattle.row.specs.Refusals.{cells_refusal}
use Rattle.row.proofs.check.check_cells.Given as goal

-- what is left to check decides as the whole does
abbrev pub invariant-loop-cell : goal.invariant-loop-cell
invariant-loop-cell l = cells_refusal l.last (drop l.cell-index l.cells) ≡ cells_refusal None l.cells
