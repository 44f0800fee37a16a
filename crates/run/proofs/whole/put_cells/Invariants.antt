use Rattle.std.proofs.Common.{ℕ, ◌≤◌, List, ◌++◌, Vec, length, take}
use Rattle.std.specs.declared.alloc.Global.{Global}
use Rattle.lines.specs.Appended.{Appends}
use Rattle.run.specs.State.{state}
use Rattle.run.specs.Texts.{cell_lines}
use Rattle.run.proofs.whole.put_cells.Given as goal

-- the lines of the cells so far are put
abbrev pub invariant-loop-k : goal.invariant-loop-k
invariant-loop-k l =
    ((from : Vec ℕ Global) (said : List ℕ) → Appends from l.initial.added said l.initial.out → Appends from l.added (said ++ cell_lines (take l.k (state l.run).tables.seats)) l.out)
    × (l.k ≤ length (state l.run).tables.seats)
