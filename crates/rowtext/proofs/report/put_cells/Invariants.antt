use Rattle.std.proofs.Common.{vec_capacity}
use Rattle.std.specs.Iterator.Adapters.{zip_first, zip_second}
use Rattle.std.specs.Slice.Iter.{iter_rest}
use Rattle.rowtext.specs.Shown.{cell_lines}
use Rattle.rowtext.proofs.Printed.{Putting}
use Rattle.rowtext.proofs.report.put_cells.Given as goal

abbrev pub invariant-loop-cell : goal.invariant-loop-cell
invariant-loop-cell l =
    Putting l.fn.said.items (cell_lines l.cells l.sites) l.said.items (iter_rest (zip_first l.cell-iterator)) (iter_rest (zip_second l.cell-iterator)) (vec_capacity l.fn.said) (vec_capacity l.said)
