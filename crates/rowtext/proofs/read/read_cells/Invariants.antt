use Rattle.std.proofs.Common.{◌≡◌, ◌+◌, ◌≤◌, length, vec_capacity}
use Rattle.rowtext.specs.Lines.{left}
use Rattle.rowtext.specs.Reading.{cells_of}
use Rattle.rowtext.proofs.Numbered.{behind}
use Rattle.rowtext.proofs.read.read_cells.Given as goal

abbrev pub invariant-loop-entry : goal.invariant-loop-entry
invariant-loop-entry l = record {
  read : behind l.cells.items (cells_of (left l.entry-iterator)) ≡ cells_of (left l.initial.entry-iterator);
  count : length l.cells.items + length (left l.entry-iterator) ≡ length (left l.initial.entry-iterator);
  room : vec_capacity l.fn.cells ≤ vec_capacity l.cells;
}
