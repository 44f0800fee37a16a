-- Why a cell, a row, or all that `set` is given is refused, in words.
use Rattle.std.specs.Prelude.{ℕ, List, codes}
use Rattle.row.specs.declared.Fault.{Fault}
use Rattle.row.specs.declared.Fault.TheVariants.{Wanted, Width, Weight, Number, Row}
use Rattle.row.specs.declared.Refusal.{Refusal}
use Rattle.row.specs.declared.Refusal.TheVariants.{OutOfRange, Size, Order, TooWide}

-- what is wrong with a field that is outside its range
abbrev pub fault_reason : Fault → List ℕ
fault_reason Wanted = codes "the wanted site is above 65535 or the wanted line above 4095"
fault_reason Width = codes "the width is not from 1 to 1000"
fault_reason Weight = codes "the weight is not from 1 to 1000"
fault_reason Number = codes "the number is above 65535"
fault_reason Row = codes "the row's line is above 4095, or it has no sites, or some above 65534"

-- why a row is not set
abbrev pub reason : Refusal → List ℕ
reason (OutOfRange fault) = fault_reason fault
reason Size = codes "there are more than 1024 cells, or not one site for each"
reason Order = codes "the cells are not in wanted order"
reason TooWide = codes "the cells are wider than the row"
