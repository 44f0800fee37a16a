-- A cell alone on its row: it costs nothing at its wanted site, so its best site is at or before that.
use Rattle.std.proofs.Common.{◌≡◌, ℕ, ◌+◌, ◌-◌, ◌<◌, ◌≤◌, max, true, List, [], ◌∷◌, length, get_or, sym, subst, ⊎_elim, arith}
use Rattle.std.proofs.ByRecursion.{All-get_or}
use Rattle.std.proofs.lemmas.Bool.{cases_lt}
use Rattle.std.proofs.lemmas.Int.{ints}
use Rattle.std.specs.List.{between}
use Rattle.measure.specs.Costs.{Fair, Price}
use Rattle.row.specs.Records.{widths}
use Rattle.row.specs.Sites.{climbs, best_site}
use Rattle.row.specs.Stack.{Passes, Ready}
use Rattle.row.specs.declared.Cell.{Cell}
use Rattle.row.specs.declared.Row.{Row}
use Rattle.row.proofs.Accepted.{ready_known}
use Rattle.row.proofs.Defaults.{no_cell}
use Rattle.row.proofs.Instance.{best_least}
use Rattle.row.proofs.Least.{not_after}
use Rattle.row.proofs.Parts.{between_one, one_known}
use Rattle.row.proofs.Ranges.{ranged}
use Rattle.row.proofs.Rises.{in_ranges, climbs_on}

module _ (f : Price) (fair : Fair f) (c : Cell) (passes : Passes c) where
  -- at its wanted site a cell does not gain by going right
  home_climbs : climbs f (c ∷ []) c.wanted.site ≡ true
  home_climbs =
      let r = ranged c passes in
      let home = fair.home c.wanted.site c.weight (in_ranges c c.wanted.site passes r.site) in
      grind (arith, ints)

  -- so its best site is not after its wanted site, unless the row begins there or later
  pub lone_best : (row : Row) → row.left + widths (c ∷ []) ≤ row.right → row.right ≤ 65535 → best_site f row (c ∷ []) ≤ max c.wanted.site row.left
  lone_best row room right =
      let z = best_site f row (c ∷ []) in
      let best = best_least f row (c ∷ []) room in
      ⊎_elim
      (λ before.
      let h : z ≤ row.left = not_after row.left (row.right - widths (c ∷ [])) row.left z best (omega arith)
      (climbs_on fair (c ∷ []) c.wanted.site row.left (passes, tt) (omega arith) (omega arith) home_climbs) in
      omega arith)
      (λ from.
      let h : z ≤ c.wanted.site = not_after row.left (row.right - widths (c ∷ [])) c.wanted.site z best from home_climbs in
      omega arith)
      (cases_lt c.wanted.site row.left)

-- the same of the cell with index i of a row that is not refused
pub lone_known : (f : Price) → Fair f → (row : Row) (cells : List Cell) (i : ℕ) → Ready row cells → i < length cells → best_site f row (between i (i + 1) cells) ≤ max (get_or cells i no_cell).wanted.site row.left
lone_known f fair row cells i ready within =
    let c : Cell = get_or cells i no_cell in
    let one : between i (i + 1) cells ≡ c ∷ [] = between_one cells i no_cell within in
    let all = ready_known row cells ready in
    let room = (one_known row cells i ready within).0.room in
    subst (λ cs. best_site f row cs ≤ max c.wanted.site row.left) (sym one)
    (lone_best f fair c (All-get_or Passes cells i no_cell within all.pass) row (rw one at room) all.ranged.right)
