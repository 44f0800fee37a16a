-- What `set` answers, and the `set` of a task, and what the sites hold then.
use Rattle.std.specs.Prelude.{ℕ, List, length, Some, None, Ok, Err, Option, Result}
use Rattle.measure.specs.Costs.{Price}
use Rattle.row.specs.Refusals.{set_refusal}
use Rattle.row.specs.Costs.{sites_cost}
use Rattle.row.specs.Sites.{row_sites}
use Rattle.row.specs.declared.Cell.{Cell}
use Rattle.row.specs.declared.Refusal.{Refusal}
use Rattle.row.specs.declared.Row.{Row}

-- a value where nothing is refused
abbrev pub granted : {X E : Type 0} → Option E → X → Result X E
granted None value = Ok value
granted (Some refusal) value = Err refusal

-- what stands after a call: the new where nothing is refused, else the old
abbrev pub changed : {X E : Type 0} → Option E → X → X → X
changed None new old = new
changed (Some refusal) new old = old

-- what `set` answers: the cost of the row's sites, or the refusal
abbrev pub set_answer : Price → Row → List Cell → List ℕ → Result ℕ Refusal
set_answer price row cells sites =
    granted (set_refusal row cells (length sites)) (sites_cost price cells (row_sites price row cells))

-- what the sites hold then: the row's sites, or, where it refuses, what they held
abbrev pub set_sites : Price → Row → List Cell → List ℕ → List ℕ
set_sites price row cells sites =
    changed (set_refusal row cells (length sites)) (row_sites price row cells) sites
