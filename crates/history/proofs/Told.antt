-- What comes of calls, one call more at a time.
use Rattle.std.proofs.Common.{◌≡◌, List, [], ◌∷◌, ◌++◌, refl, ap}
use Rattle.std.proofs.lemmas.Grind.{take_at_read, take-set_at, drop_more_same, reverse_onto}
use Rattle.std.proofs.lemmas.List.{append_assoc, append-nil, reverse-append, map-append, drop-set-lt}
use Rattle.measure.specs.Costs.{Price}
use Rattle.floor.specs.Tables.{Tables}
use Rattle.history.specs.Events.{event_of, tables_then, events_of, tables_after}
use Rattle.history.specs.declared.call.Call.{Call}

module _ (price : Price) where
  -- the tables after one call more
  pub tables_more : (t : Tables) (calls : List Call) (call : Call) → tables_after price t (calls ++ call ∷ []) ≡ tables_then price (tables_after price t calls) call
  tables_more t [] call = refl
  tables_more t (first ∷ calls) call = tables_more (tables_then price t first) calls call

  -- the events with that of one call more
  pub events_more : (t : Tables) (calls : List Call) (call : Call) → events_of price t (calls ++ call ∷ []) ≡ events_of price t calls ++ event_of price (tables_after price t calls) call ∷ []
  events_more t [] call = refl
  events_more t (first ∷ calls) call = ap (λ es. event_of price t first ∷ es) (events_more (tables_then price t first) calls call)

-- what a loop that fills in the events of calls needs of lists
pub ruleset one_more = (tables_more, events_more, take_at_read, take-set_at, drop_more_same, drop-set-lt, map-append, reverse-append, reverse_onto, append_assoc, append-nil)
