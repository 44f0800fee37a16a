-- Cells in wanted order that have a setting fit their row.
use Rattle.std.proofs.Common.{◌≡◌, ℕ, ◌-◌, ◌≤◌, true, List, [], ◌∷◌, arith}
use Rattle.std.specs.List.{AllByRecursion}
use Rattle.measure.specs.Costs.{Price}
use Rattle.row.specs.Records.{before, widths}
use Rattle.row.specs.Settings.{EveryPair, Setting}
use Rattle.row.specs.Stack.{Passes}
use Rattle.row.specs.declared.Cell.{Cell}
use Rattle.row.specs.declared.Row.{Row}
use Rattle.row.proofs.Instance.{lane, span_is}
use Rattle.row.proofs.Subject.{setting_chain}
use Rattle.row.proofs.Theory.Chains.{room_of_chain}

-- their widths are at most right - left, whatever the measure
pub setting_fits : (row : Row) (cells : List Cell) (sites : List ℕ) → Setting row cells sites → AllByRecursion Passes cells → EveryPair (λ c d. before c d ≡ true) cells → widths cells ≤ row.right - row.left
setting_fits row [] sites setting pass order = omega arith
setting_fits row (c ∷ cs) sites setting pass order =
    let free : Price = λ w e p. 0 in
    let room = room_of_chain (lane free row) (c ∷ cs) sites row.left tt (setting_chain free row (c ∷ cs) sites pass order setting) in
    let wide = span_is free row (c ∷ cs) in
    omega arith
