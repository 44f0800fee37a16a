-- The law leaves no slack: it is a whole definition of the right floor.
use Rattle.std.specs.Prelude.{◌≡◌, ℕ, List, ◌∷◌}
use Rattle.measure.specs.Costs.{Price}
use Rattle.history.specs.Histories.{Standing, call_of}
use Rattle.history.specs.Settings.{Where}
use Rattle.history.specs.Law.{Holds, Law}
use Rattle.history.specs.declared.call.Event.{Event}

-- two answers of where_is that both hold while the same cells stand agree at every number
abbrev pub OneSetting : Price → Type 0
OneSetting price = (standing : List Standing) (w v : Where) → Holds price standing w
    → Holds price standing v → (number : ℕ) → w number ≡ v number

-- two answers of where_is that both obey the law for one history agree at every number
abbrev pub OneWhere : Price → Type 0
OneWhere price = (history : List Event) (w v : Where) → Law price history w
    → Law price history v → (number : ℕ) → w number ≡ v number

-- two answers to one call that both obey the law after one history are equal
abbrev pub OneAnswer : Price → Type 0
OneAnswer price = (history : List Event) (d e : Event) (w v : Where) → call_of d ≡ call_of e
    → Law price (d ∷ history) w → Law price (e ∷ history) v → d ≡ e

-- whatever the measure, fair or not
pub record NoSlack : Type 0 where
  pub one_setting : (price : Price) → OneSetting price
  pub one_where : (price : Price) → OneWhere price
  pub one_answer : (price : Price) → OneAnswer price
