-- The two measures.
use Rattle.std.specs.Prelude.{ℕ, ◌+◌, ◌-◌, ◌*◌}
use Rattle.measure.specs.Costs.{Price}

-- the distance between two places; subtraction stops at 0, so one of the two terms is 0
abbrev pub distance : ℕ → ℕ → ℕ
distance place wanted = (place - wanted) + (wanted - place)

-- the weight times the square of the distance
abbrev pub squared : Price
squared wanted weight place = weight * (distance place wanted * distance place wanted)

-- the weight times the distance
abbrev pub plain : Price
plain wanted weight place = weight * distance place wanted
