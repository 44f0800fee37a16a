-- What an offer is made of: the price, and the tables of the floor.
use Rattle.std.specs.Prelude.{List}
use Rattle.measure.specs.Costs.{Price}
use Rattle.measure.specs.declared.Measure.{Ghosts}
use Rattle.floor.specs.Tables.{Tables}
use Rattle.floor.specs.declared.Seat.{Seat}
use Rattle.floor.specs.declared.choice.Offer.{Offer}

module _ {M : Type 0} {m : Ghosts M} where
  -- what a move costs by the floor's measure
  abbrev pub price_in : Offer M m → Price
  price_in offer = m.price offer.measure.now

  -- the seats of the floor
  abbrev pub seats_in : Offer M m → List Seat
  seats_in offer = offer.seats.now.items.items

  -- its tables
  abbrev pub tables_in : Offer M m → Tables
  tables_in offer = record { rows = offer.rows.now; seats = seats_in offer }
