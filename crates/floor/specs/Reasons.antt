-- Why a call of the floor is refused, in words.
use Rattle.std.specs.Prelude.{ℕ, List, codes}
use Rattle.row.specs.Reasons.{fault_reason}
use Rattle.floor.specs.declared.Refusal.{Refusal}
use Rattle.floor.specs.declared.Refusal.TheVariants.{OutOfRange, NumberStands, CellsFull, NoRoom, NotStanding, RowsFull, RowShares}

-- why a call is refused
abbrev pub reason : Refusal → List ℕ
reason (OutOfRange fault) = fault_reason fault
reason NumberStands = codes "a cell of the number stands"
reason CellsFull = codes "1024 cells stand"
reason NoRoom = codes "no row has sites for the cell"
reason NotStanding = codes "no cell of the number stands"
reason RowsFull = codes "64 rows stand"
reason RowShares = codes "the row shares a site with a row that stands"
