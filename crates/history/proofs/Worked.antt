-- The twelve settings that were worked by hand come out by computation.
use Rattle.std.proofs.Common.{refl}
use Rattle.history.specs.Worked.{WorkedOut}

-- in every check both sides compute to the same
pub worked_out : WorkedOut
worked_out = assumption refl
