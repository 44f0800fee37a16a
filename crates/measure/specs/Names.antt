-- The two measures by name.
use Rattle.std.specs.Prelude.{◌≡◌, ℕ, ◌<◌, List, Result, MatchResult, codes}
use Rattle.measure.specs.Costs.{Fair, Price}
use Rattle.measure.specs.Measures.{squared, plain}
use Rattle.measure.specs.Steps.{squared_fair, plain_fair}
use Rattle.measure.specs.declared.name.MeasureName.{MeasureName}
use Rattle.measure.specs.declared.name.MeasureName.TheVariants.{Squared, Plain}
use Rattle.measure.specs.declared.name.UnknownMeasure.{UnknownMeasure}

-- the price of the measure of this name
abbrev pub named_price : MeasureName → Price
named_price Squared = squared
named_price Plain = plain

-- each of the two shows the laws
pub named_fair : (name : MeasureName) → Fair (named_price name)
named_fair Squared = squared_fair
named_fair Plain = plain_fair

-- the byte by which a job names it
abbrev pub code : MeasureName → ℕ
code Squared = 0
code Plain = 1

-- the name with this code, or an error where no name has it
abbrev pub Decodes : ℕ → Result MeasureName UnknownMeasure → Type 0
Decodes byte r = MatchResult r (λ name. code name ≡ byte) (λ _. 1 < byte)

-- the word for it in what people read
abbrev pub word : MeasureName → List ℕ
word Squared = codes "squared"
word Plain = codes "plain"
