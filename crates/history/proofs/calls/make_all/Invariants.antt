use Rattle.std.proofs.Common.{◌≡◌, List, [], ◌++◌, map, reverse, take, drop}
use Rattle.floor.specs.State.{measure_of, price_of, tables_of}
use Rattle.history.specs.Events.{events_of, tables_after}
use Rattle.history.specs.Histories.{call_of}
use Rattle.history.specs.Lawful.{Lawful}
use Rattle.history.specs.declared.call.Event.{Event}
use Rattle.history.proofs.calls.make_all.Given as goal

-- the first k calls are made, and their events filled in
abbrev pub invariant-loop-k : goal.invariant-loop-k
invariant-loop-k g l = record {
  law : (history : List Event) → Lawful history l.fn.floor → Lawful (reverse (take l.k l.events) ++ history) l.floor;
  alone : Lawful [] l.fn.floor → Lawful (reverse (take l.k l.events)) l.floor;
  calls : map call_of (take l.k l.events) ≡ take l.k l.calls;
  rest : drop l.k l.events ≡ drop l.k l.fn.events;
  events : take l.k l.events ≡ events_of (price_of l.fn.floor) (tables_of l.fn.floor) (take l.k l.calls);
  tables : tables_of l.floor ≡ tables_after (price_of l.fn.floor) (tables_of l.fn.floor) (take l.k l.calls);
  same : measure_of l.floor ≡ measure_of l.fn.floor;
}
