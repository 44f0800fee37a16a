use Rattle.std.proofs.Common.{◌≡◌, ◌++◌, map, take}
use Rattle.floor.specs.Seats.{cell_of}
use Rattle.floor.proofs.cells.push_cells.Given as goal

abbrev pub invariant-loop-seat : goal.invariant-loop-seat
invariant-loop-seat g l = l.cells.items ≡ l.initial.cells.items ++ map cell_of (take l.seat-index l.seats)
