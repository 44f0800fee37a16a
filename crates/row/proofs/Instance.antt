-- One row of the program as an instance of the theory.
use Rattle.std.proofs.Common.{◌≡◌, ℕ, ◌+◌, ◌-◌, ◌<◌, ◌≤◌, true, false, List, [], ◌∷◌, ◌++◌, pos, ◌+ℤ◌, sym, refl, ap, ◌∙◌, arith}
use mathlib.Core.Path.{fun_ext}
use Rattle.std.proofs.lemmas.Int.{ints}
use Rattle.std.specs.List.{AllByRecursion}
use Rattle.measure.specs.Costs.{Fair, Price}
use Rattle.row.specs.Clusters.{Cluster, push, settle, laid}
use Rattle.row.specs.Records.{widths}
use Rattle.row.specs.Costs.{sites_cost}
use Rattle.row.specs.Sites.{abut, cluster_rise, climbs, least, best_site, reach as reaches, row_clusters, row_sites}
use Rattle.row.specs.Stack.{Passes}
use Rattle.row.specs.declared.Cell.{Cell}
use Rattle.row.specs.declared.Row.{Row}
use Rattle.row.proofs.Least.{IsLeast, least_is, least_unique, narrowed}
use Rattle.row.proofs.Ranges.{ranged}
use Rattle.row.proofs.Rises.{in_ranges}
use Rattle.row.proofs.Theory.Packed.{Lane, next, span, packed, reach, sites, cost, Bends, AllBend, Tight}
use Rattle.row.proofs.Theory.Certificates.{IsBest}

-- cells abut, and a cluster takes its first best site
abbrev pub lane : Price → Row → Lane Cell
lane f row = record { width = λ c. c.width; apart = λ c d. c.width; price = λ c x. f c.wanted.site c.weight x; low = row.left; high = row.right; tie = 0 }

module _ (f : Price) (row : Row) where
  abbrev R : Lane Cell
  R = lane f row

  pub tight : Tight R
  tight c d = omega arith

  pub next_is : (c : Cell) (cs : List Cell) → next R c cs ≡ c.width
  next_is c [] = refl
  next_is c (d ∷ ds) = refl

  pub span_is : (cs : List Cell) → span R cs ≡ widths cs
  span_is [] = refl
  span_is (c ∷ cs) = let n = next_is c cs in let s = span_is cs in omega arith

  pub reach_is : (ps ss : List Cell) → reach R ps ss ≡ widths ps
  reach_is [] ss = refl
  reach_is (p ∷ ps) ss = let n = next_is p (ps ++ ss) in let s = reach_is ps ss in omega arith

  sites_is : (cs : List Cell) (x : ℕ) → sites R cs x ≡ abut cs x
  sites_is [] x = refl
  sites_is (c ∷ cs) x = ap (λ ys. x ∷ ys) (ap (λ n. sites R cs (x + n)) (next_is c cs) ∙ sites_is cs (x + c.width))

  pub cost_is : (cs : List Cell) (ys : List ℕ) → cost R cs ys ≡ sites_cost f cs ys
  cost_is [] ys = refl
  cost_is (c ∷ cs) [] = refl
  cost_is (c ∷ cs) (y ∷ ys) = ap (λ n. f c.wanted.site c.weight y + n) (cost_is cs ys)

  -- a cluster's rise is what its cost rises by
  packed_rise : (cs : List Cell) (x u : ℕ) → u ≡ x + 1 → pos (packed R cs x) +ℤ cluster_rise f cs x ≡ pos (packed R cs u)
  packed_rise [] x u e = omega (arith, ints)
  packed_rise (c ∷ cs) x u e =
      let here : packed R cs (x + next R c cs) ≡ packed R cs (x + c.width) = ap (λ n. packed R cs (x + n)) (next_is c cs) in
      let there : packed R cs (u + next R c cs) ≡ packed R cs (u + c.width) = ap (λ n. packed R cs (u + n)) (next_is c cs) in
      let first : f c.wanted.site c.weight (x + 1) ≡ f c.wanted.site c.weight u = ap (f c.wanted.site c.weight) (sym e) in
      let others = packed_rise cs (x + c.width) (u + c.width) (omega arith) in
      omega (arith, ints)

  climbing : (cs : List Cell) (x u : ℕ) → u ≡ x + 1 → climbs f cs x ≡ true → packed R cs x ≤ packed R cs u
  climbing cs x u e test = let r = packed_rise cs x u e in grind (arith, ints)

  falling : (cs : List Cell) (x u : ℕ) → u ≡ x + 1 → climbs f cs x ≡ false → packed R cs u < packed R cs x
  falling cs x u e test = let r = packed_rise cs x u e in grind (arith, ints)

  -- the best site, as the least that climbs
  pub best_least : (cs : List Cell) → row.left + widths cs ≤ row.right → IsLeast (climbs f cs) row.left (row.right - widths cs) (best_site f row cs)
  best_least cs room = least_is row.left (row.right - widths cs - row.left) (row.right - widths cs) (omega arith)

  -- a search between any two ends that hold the best site finds it
  pub best_narrowed : (cs : List Cell) (low high : ℕ) → row.left + widths cs ≤ row.right → row.left ≤ low → low ≤ best_site f row cs → best_site f row cs ≤ high → high ≤ row.right - widths cs → least (climbs f cs) low (high - low) ≡ best_site f row cs
  best_narrowed cs low high room from below above to =
      least_unique low high _ _ (least_is low (high - low) high (omega arith))
      (narrowed row.left (row.right - widths cs) low high (best_site f row cs) (best_least cs room) from below above to)

  pub best_is : (cs : List Cell) → row.left + span R cs ≤ row.right → IsBest R cs (best_site f row cs)
  best_is cs room =
      let wide = span_is cs in
      let is = best_least cs (omega arith) in
      record {
        from = is.from;
        to = omega (arith, is.upto);
        falls = λ t u at below e. let down = falling cs t u e (is.none t at below) in omega arith;
        climbs = λ u below e. let up = climbing cs (best_site f row cs) u e (is.passes (omega arith)) in omega arith;
      }

  -- cells that pass their checks bend
  pub bends : Fair f → row.right ≤ 65535 → (c : Cell) → Passes c → Bends R c
  bends fair right c passes p q at up inside =
      let r = ranged c passes in
      let law = fair.bends c.wanted.site c.weight p q up (in_ranges c (q + 1) passes (omega arith)) in
      omega (arith, ints)

  pub all_bend : Fair f → row.right ≤ 65535 → (cs : List Cell) → AllByRecursion Passes cs → AllBend R cs
  all_bend fair right [] passed = tt
  all_bend fair right (c ∷ cs) passed = (bends fair right c passed.0, all_bend fair right cs passed.1)

  reach_same : reaches ≡ reach R
  reach_same = fun_ext (λ front. fun_ext (λ back. sym (reach_is front back)))

  -- the clusters and the sites of a row are those of the theory
  pub push_is : (k : Cluster Cell) (stack : List (Cluster Cell)) → push reaches (best_site f row) k stack ≡ push (reach R) (best_site f row) k stack
  push_is k stack = ap (λ r. push r (best_site f row) k stack) reach_same

  pub clusters_are : (cells : List Cell) → row_clusters f row cells ≡ settle (reach R) (best_site f row) cells []
  clusters_are cells = ap (λ r. settle r (best_site f row) cells []) reach_same

  pub sites_are : (cells : List Cell) → row_sites f row cells ≡ laid (sites R) (settle (reach R) (best_site f row) cells [])
  sites_are cells =
      let same : abut ≡ sites R = fun_ext (λ cs. fun_ext (λ x. sym (sites_is cs x))) in
      ap (λ a. laid a (row_clusters f row cells)) same ∙ ap (laid (sites R)) (clusters_are cells)
