-- What cells cost at sites.
use Rattle.std.proofs.Common.{◌≡◌, ℕ, ◌+◌, ◌*◌, ◌^◌, ◌<◌, ◌≤◌, true, ◌&&◌, leb, List, [], ◌∷◌, ◌++◌, length, get_or, drop, arith}
use Rattle.std.proofs.lemmas.Bool.{and_from, le-leb, cond-true}
use Rattle.std.proofs.lemmas.List.{at_drop_more}
use Rattle.std.specs.List.{AllByRecursion}
use Rattle.measure.specs.Costs.{Fair, InRange, Price, cost_of, in_range}
use Rattle.row.specs.Records.{widths}
use Rattle.row.specs.Costs.{sites_cost}
use Rattle.row.specs.Sites.{abut}
use Rattle.row.specs.Stack.{Passes}
use Rattle.row.specs.declared.Cell.{Cell}
use Rattle.row.proofs.Defaults.{no_cell}
use Rattle.row.proofs.Rises.{in_ranges}

-- the test of the ranges, where they hold
in_range_true : (w e p : ℕ) → InRange w e p → in_range w e p ≡ true
in_range_true w e p h =
    and_from (leb w 65535) (leb 1 e && (leb e 1000 && leb p 65535)) (le-leb w 65535 h.0)
    (and_from (leb 1 e) (leb e 1000 && leb p 65535) (le-leb 1 e h.1)
    (and_from (leb e 1000) (leb p 65535) (le-leb e 1000 h.2) (le-leb p 65535 h.3)))

-- what a measure answers there is its price
pub cost_within : (f : Price) (w e p : ℕ) → InRange w e p → cost_of f w e p ≡ f w e p
cost_within f w e p h = cond-true (in_range w e p) (f w e p) 0 (in_range_true w e p h)

-- some cells and then others cost what they cost together
pub sites_cost-append : (f : Price) (cs ds : List Cell) (xs ys : List ℕ) → length xs ≡ length cs → sites_cost f (cs ++ ds) (xs ++ ys) ≡ sites_cost f cs xs + sites_cost f ds ys
sites_cost-append f [] ds [] ys each = omega arith
sites_cost-append f [] ds (x ∷ xs) ys each = absurd (omega arith)
sites_cost-append f (c ∷ cs) ds [] ys each = absurd (omega arith)
sites_cost-append f (c ∷ cs) ds (x ∷ xs) ys each = let rest = sites_cost-append f cs ds xs ys (omega arith) in omega arith

-- each of some abutting cells costs at most 2^42
pub abut_bounded : {f : Price} → Fair f → (cs : List Cell) (x : ℕ) → AllByRecursion Passes cs → x + widths cs ≤ 65535 → sites_cost f cs (abut cs x) ≤ 2 ^ 42 * length cs
abut_bounded fair [] x pass inside = omega arith
abut_bounded fair (c ∷ cs) x pass inside =
    let own = fair.bounded _ _ _ (in_ranges c x pass.0 (omega arith)) in
    let rest = abut_bounded fair cs (x + c.width) pass.1 (omega arith) in
    omega arith

-- what the abutting cells that are left cost, one cell on
pub abut_cost_more : (f : Price) (cells : List Cell) (i x : ℕ) → i < length cells → sites_cost f (drop i cells) (abut (drop i cells) x) ≡ f (get_or cells i no_cell).wanted.site (get_or cells i no_cell).weight x + sites_cost f (drop (i + 1) cells) (abut (drop (i + 1) cells) (x + (get_or cells i no_cell).width))
abut_cost_more f cells i x within = at_drop_more (λ cs. sites_cost f cs (abut cs x)) cells i no_cell within
