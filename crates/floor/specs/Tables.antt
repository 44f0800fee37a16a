-- What a floor holds, and what a call on it comes to.
use Rattle.std.specs.Prelude.{List, [], Result}
use Rattle.row.specs.declared.Row.{Row}
use Rattle.floor.specs.declared.Refusal.{Refusal}
use Rattle.floor.specs.declared.Seat.{Seat}

-- the rows and the seats of a floor, both in their order
pub record Tables : Type 0 where
  pub rows : List Row
  pub seats : List Seat

-- nothing stands
abbrev pub no_tables : Tables
no_tables = record { rows = []; seats = [] }

-- what a call answers, and what the floor holds then
pub record Outcome (X : Type 0) : Type 0 where
  pub answer : Result X Refusal
  pub tables : Tables
