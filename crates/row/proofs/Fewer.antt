-- One cell fewer costs a row no more.
use Rattle.std.proofs.Common.{ℕ, ◌≤◌, List, ◌∷◌, ◌++◌, arith}
use Rattle.measure.specs.Costs.{Fair, Price}
use Rattle.row.specs.Costs.{sites_cost}
use Rattle.row.specs.Sites.{row_sites}
use Rattle.row.specs.declared.Cell.{Cell}
use Rattle.row.specs.declared.Row.{Row}
use Rattle.row.proofs.Accepted.{Accepted}
use Rattle.row.proofs.Instance.{lane, tight, cost_is}
use Rattle.row.proofs.Subject.{row_answer}
use Rattle.row.proofs.Theory.Fewer.{Triangle, fewer_cheapest}

module _ (f : Price) (row : Row) where
  -- a cell between two others keeps them further apart
  triangle : Triangle (lane f row)
  triangle c d e = omega arith

  -- the cheapest setting without a cell costs at most what the cheapest with it does
  pub fewer_costs : Fair f → (ps : List Cell) (d : Cell) (ss : List Cell) (count more : ℕ) → Accepted row (ps ++ ss) count → Accepted row (ps ++ (d ∷ ss)) more → sites_cost f (ps ++ ss) (row_sites f row (ps ++ ss)) ≤ sites_cost f (ps ++ (d ∷ ss)) (row_sites f row (ps ++ (d ∷ ss)))
  fewer_costs fair ps d ss count more few all =
      let xs = row_sites f row (ps ++ ss) in
      let ys = row_sites f row (ps ++ (d ∷ ss)) in
      let one = row_answer f row fair (ps ++ ss) count few in
      let other = row_answer f row fair (ps ++ (d ∷ ss)) more all in
      let least = fewer_cheapest (lane f row) (tight f row) triangle ps d ss xs one.cheapest ys other.legal in
      let cost_of_xs = cost_is f row (ps ++ ss) xs in
      let cost_of_ys = cost_is f row (ps ++ (d ∷ ss)) ys in
      omega arith
