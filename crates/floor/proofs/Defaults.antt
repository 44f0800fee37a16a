-- What a read past the end of a list of records gives.
use Rattle.row.specs.declared.Row.{Row}
use Rattle.floor.specs.declared.Seat.{Seat}

abbrev pub no_row : Row
no_row = record { line = 0; left = 0; right = 0 }

abbrev pub no_seat : Seat
no_seat = record { cell = record { number = 0; wanted = record { line = 0; site = 0 }; width = 0; weight = 0 }; row = no_row; site = 0 }
