-- The answer of a check.
use Rattle.std.specs.Prelude.{Some, None, Ok, Err, Option, Result}

-- what a check answered, as the failure that it found, if it found one
abbrev pub checked : {X E : Type 0} → Result X E → Option E
checked (Ok x) = None
checked (Err failure) = Some failure
