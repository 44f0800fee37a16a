-- What a call of a cursor does: it answers a part of the job, and moves to the place after it.
use Rattle.std.specs.Prelude.{◌≡◌, ℕ, ◌+◌, ◌≤◌, IfOk, List, Ok, Err, Option, Result}
use Rattle.std.specs.Option.{option_map}
use Rattle.row.specs.declared.Cell.{Cell}
use Rattle.job.specs.Format.{NameAt, CellNamed, Content}
use Rattle.job.specs.Format.Content.{row, place, withdraw, try}
use Rattle.job.specs.Parts.{Part, taken}
use Rattle.job.specs.declared.cursor.Cursor.{Cursor}
use Rattle.job.specs.declared.cursor.Flaw.{Flaw}
use Rattle.job.specs.declared.cursor.map.Map.{Map}
use Rattle.job.specs.declared.named.Name.{Name}
use Rattle.job.specs.declared.named.Named.{Named}
use Rattle.job.specs.declared.record.Record.{Record}
use Rattle.job.specs.declared.record.Record.TheVariants as variant

-- what a call answered that left its cursor at `next`, as a part
abbrev pub told : {X : Type 0} → Result X Flaw → ℕ → Part X
told (Ok x) next = taken x next
told (Err flaw) next = Err flaw

-- a cursor that stands there or further on, in the same job
pub record Moved (from to : Cursor) : Type 0 where
  pub same : to.job.now ≡ from.job.now
  pub forth : from.at ≤ to.at

-- a call answered a part, and moved to the place after it
pub record Reads {X : Type 0} (part : List ℕ → ℕ → Part X) (from : Cursor) (r : Result X Flaw) (to : Cursor) : Type 0 where
  pub reads : told r to.at ≡ part from.job.now from.at
  pub moved : Moved from to

-- an answer whose value is seen as something else
abbrev pub viewed : {X Y : Type 0} → (X → Y) → Result X Flaw → Result Y Flaw
viewed view (Ok x) = Ok (view x)
viewed view (Err flaw) = Err flaw

-- a map, by its bits
abbrev pub bits : Map → ℕ
bits map = map.bits

-- a name, by its bytes
abbrev pub name_bytes : Name → List ℕ
name_bytes name = name.bytes.now

-- a name in a job, by its bytes and its place
abbrev pub named : Named → NameAt
named n = record { bytes = name_bytes n.name; place = n.place }

-- a cell and its name if it has one
abbrev pub cell_named : Cell × Option Named → CellNamed
cell_named pair = record { cell = pair.0; name = option_map named pair.1 }

-- what a record says
abbrev pub content : Record → Content
content (variant.Row r) = row r
content (variant.Place cell name) = place (cell_named (cell, name))
content (variant.Withdraw number) = withdraw number
content (variant.Try cell name) = try (cell_named (cell, name))

-- a call that answered a record moved its cursor by at least two places
pub record Forward (from : Cursor) (r : Result Record Flaw) (to : Cursor) : Type 0 where
  pub far : IfOk r (λ _. from.at + 2 ≤ to.at)
