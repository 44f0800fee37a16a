-- One step after another, until one fails.
use Rattle.std.specs.Prelude.{Ok, Err, Result}

-- what next makes of what the first step gave; the first failure stays
abbrev pub then : {A B E : Type 0} → Result A E → (A → Result B E) → Result B E
then (Ok x) next = next x
then (Err e) next = Err e
