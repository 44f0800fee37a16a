-- The calls of a floor as values: what comes of each, by the floor's one function of the call.
use Rattle.std.specs.Prelude.{List, [], ◌∷◌}
use Rattle.measure.specs.Costs.{Price}
use Rattle.floor.specs.Calls.{add_row, place, try_place, withdraw}
use Rattle.floor.specs.Tables.{Tables}
use Rattle.history.specs.declared.call.Call.{Call}
use Rattle.history.specs.declared.call.Call.TheVariants.{AddRow, Place, Try, Withdraw}
use Rattle.history.specs.declared.call.Event.{Event}
use Rattle.history.specs.declared.call.Event.TheVariants.{Added, Placed, Tried, Withdrawn}

-- a call that is made on a floor with these tables, with its answer
abbrev pub event_of : Price → Tables → Call → Event
event_of price tables (AddRow row) = Added row (add_row tables row).answer
event_of price tables (Place cell) = Placed cell (place price tables cell).answer
event_of price tables (Try cell) = Tried cell (try_place price tables cell).answer
event_of price tables (Withdraw number) = Withdrawn number (withdraw price tables number).answer

-- the tables after it
abbrev pub tables_then : Price → Tables → Call → Tables
tables_then price tables (AddRow row) = (add_row tables row).tables
tables_then price tables (Place cell) = (place price tables cell).tables
tables_then price tables (Try cell) = (try_place price tables cell).tables
tables_then price tables (Withdraw number) = (withdraw price tables number).tables

-- what comes of calls, from the first on
abbrev pub events_of : Price → Tables → List Call → List Event
events_of price tables [] = []
events_of price tables (call ∷ calls) =
    event_of price tables call ∷ events_of price (tables_then price tables call) calls

-- the tables after calls, from the first on
abbrev pub tables_after : Price → Tables → List Call → Tables
tables_after price tables [] = tables
tables_after price tables (call ∷ calls) = tables_after price (tables_then price tables call) calls
