-- What a move costs, for any measure.
use Rattle.std.specs.Prelude.{◌≡◌, ℕ, ◌+◌, ◌^◌, ◌≤◌, Bool, if◌then◌else◌, ◌&&◌, ℤ, pos, ◌-ℤ◌, ◌≤ℤ◌, nat_le}
use Rattle.measure.specs.declared.TheConstants.{LAST_PLACE, MOST_WEIGHT}

-- a measure's meaning: what it costs, for each wanted place, weight and place
abbrev pub Price : Type 0
Price = ℕ → ℕ → ℕ → ℕ

-- the ranges: wanted place and place from 0 to 65,535, weight from 1 to 1,000
abbrev pub InRange : ℕ → ℕ → ℕ → Type 0
InRange wanted weight place =
    (wanted ≤ LAST_PLACE) × (1 ≤ weight) × (weight ≤ MOST_WEIGHT) × (place ≤ LAST_PLACE)

-- the same as a test
abbrev pub in_range : ℕ → ℕ → ℕ → Bool
in_range wanted weight place =
    nat_le wanted LAST_PLACE
    && (nat_le 1 weight && (nat_le weight MOST_WEIGHT && nat_le place LAST_PLACE))

-- what a step to the right costs: the price at place + 1 less the price at place, signed
abbrev pub step_of : Price → ℕ → ℕ → ℕ → ℤ
step_of price wanted weight place =
    pos (price wanted weight (place + 1)) -ℤ pos (price wanted weight place)

-- the cost that a measure answers: its price, and 0 outside the ranges
abbrev pub cost_of : Price → ℕ → ℕ → ℕ → ℕ
cost_of price wanted weight place =
    if in_range wanted weight place then price wanted weight place else 0

-- the rise that a measure answers: what a step costs; 0 outside the ranges and from the last place
abbrev pub rise_of : Price → ℕ → ℕ → ℕ → ℤ
rise_of price wanted weight place =
    if in_range wanted weight (place + 1) then step_of price wanted weight place else pos 0

-- the laws that every measure shows; a price is a natural number, so it is never below 0
pub record Fair (price : Price) : Type 0 where
  -- it costs nothing to stand where one is wanted
  pub home : (wanted weight : ℕ) → InRange wanted weight wanted → price wanted weight wanted ≡ 0
  -- the rise from one place to the next never falls
  pub bends : (wanted weight p q : ℕ) → p ≤ q → InRange wanted weight (q + 1)
      → step_of price wanted weight p ≤ℤ step_of price wanted weight q
  -- the price stays below what a sum over all cells has room for
  pub bounded : (wanted weight place : ℕ) → InRange wanted weight place
      → price wanted weight place ≤ 2 ^ 42
