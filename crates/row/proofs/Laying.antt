-- The sites of the runs, written run after run.
use Rattle.std.proofs.Common.{◌≡◌, ℕ, ◌+◌, ◌<◌, ◌≤◌, List, [], ◌∷◌, ◌++◌, map, reverse, length, get_or, take, drop, sym, refl, ap, ◌∙◌, subst, append_assoc, arith}
use Rattle.std.proofs.lemmas.List.Edits.{length-between}
use Rattle.std.proofs.lemmas.List.{take_more, reverse-append, length-take-le, length-append, take-append-drop, take_at, take_all}
use Rattle.std.specs.List.{between}
use Rattle.measure.specs.Costs.{Price}
use Rattle.row.specs.Clusters.{laid}
use Rattle.row.specs.Costs.{sites_cost}
use Rattle.row.specs.Sites.{abut}
use Rattle.row.specs.Stack.{part, cluster_of, stack_of, Spans, Tiled}
use Rattle.row.specs.declared.Cell.{Cell}
use Rattle.row.specs.declared.cluster.Cluster.{Cluster as Run}
use Rattle.row.proofs.Costs.{sites_cost-append}
use Rattle.row.proofs.Defaults.{no_run}
use Rattle.row.proofs.Parts.{take_join}
use Rattle.row.proofs.Stacked.{pushed_run}

-- The sites of the first i runs, which end at `past`, stand in front.
pub record Laid (cells : List Cell) (runs : List Run) (i past : ℕ) (sites : List ℕ) : Type 0 where
  pub tiled : Tiled cells past (reverse (take i runs))
  pub within : past ≤ length cells
  pub written : take past sites ≡ laid abut (stack_of cells (take i runs))

-- where runs end is one place
tiled_once : (cells : List Cell) (ks : List Run) (a b : ℕ) → Tiled cells a ks → Tiled cells b ks → a ≡ b
tiled_once cells [] a b s t = s ∙ sym t
tiled_once cells (k ∷ ks) a b s t = sym s.0.ends ∙ t.0.ends

-- the runs below some of those that follow one another follow one another too
tiled_below : (cells : List Cell) (ks below : List Run) (past : ℕ) → Tiled cells past (ks ++ below) → past ≤ length cells → (end : ℕ) × (end ≤ length cells) × Tiled cells end below
tiled_below cells [] below past tiled within = (past, within, tiled)
tiled_below cells (k ∷ ks) below past tiled within =
    let starts = tiled.0.starts in
    let ends = tiled.0.ends in
    tiled_below cells ks below k.first tiled.1 (omega arith)

pub abut-length : (cs : List Cell) (x : ℕ) → length (abut cs x) ≡ length cs
abut-length [] x = refl
abut-length (c ∷ cs) x = let more = abut-length cs (x + c.width) in omega arith

module _ (cells : List Cell) (runs : List Run) (i past : ℕ) (sites : List ℕ) (tiled : Tiled cells (length cells) (reverse runs)) (below : i < length runs) (each : length sites ≡ length cells) (l : Laid cells runs i past sites) where
  abbrev next_run : Run
  next_run = get_or runs i no_run

  reversed_more : reverse (take (i + 1) runs) ≡ next_run ∷ reverse (take i runs)
  reversed_more = ap reverse (take_more runs i no_run below) ∙ pushed_run (take i runs) next_run

  -- the next run starts where the first i end
  pub next_spans : Spans cells next_run.past next_run × (next_run.first ≡ past) × (next_run.past ≤ length cells)
  next_spans =
      let cut : reverse runs ≡ reverse (drop (i + 1) runs) ++ (next_run ∷ reverse (take i runs)) =
      sym (ap reverse (take-append-drop (i + 1) runs)) ∙ reverse-append (take (i + 1) runs) (drop (i + 1) runs) ∙ ap (λ ks. reverse (drop (i + 1) runs) ++ ks) reversed_more in
      let known = tiled_below cells (reverse (drop (i + 1) runs)) (next_run ∷ reverse (take i runs)) (length cells) (subst (Tiled cells (length cells)) cut tiled) (omega arith) in
      let at_end = known.1 in
      let own : Spans cells known.0 next_run = known.2.0 in
      let ends = own.ends in
      let starts = tiled_once cells (reverse (take i runs)) next_run.first past known.2.1 l.tiled in
      (record { starts = own.starts; ends = refl; wide = own.wide }, starts, omega arith)

  module _ (new : List ℕ) (is : new ≡ take next_run.first sites ++ (abut (part cells next_run) next_run.site ++ drop next_run.past sites)) where
    -- its sites stand behind those of the first i
    lay_cut : take next_run.past new ≡ take past sites ++ abut (part cells next_run) next_run.site
    lay_cut =
        let own = next_spans in
        let starts = own.0.starts in
        let at = own.1 in
        let ends = own.2 in
        let front : List ℕ = take next_run.first sites in
        let here : List ℕ = abut (part cells next_run) next_run.site in
        let behind : List ℕ = drop next_run.past sites in
        let front_long : length front ≡ next_run.first = length-take-le next_run.first sites (omega arith) in
        let here_long : length here ≡ length (part cells next_run) = abut-length (part cells next_run) next_run.site in
        let part_long = length-between cells next_run.first next_run.past (omega arith) in
        let long : length (front ++ here) ≡ next_run.past = omega (arith, length-append front here) in
        ap (take next_run.past) (is ∙ sym (append_assoc front here behind))
        ∙ take_at (front ++ here) behind next_run.past long
        ∙ ap (λ n. take n sites ++ here) at

    pub lay_more : Laid cells runs (i + 1) next_run.past new
    lay_more =
        let own = next_spans in
        let ends = own.2 in
        let here : List ℕ = abut (part cells next_run) next_run.site in
        record {
          tiled = subst (Tiled cells next_run.past) (sym reversed_more) (own.0, subst (λ n. Tiled cells n (reverse (take i runs))) (sym own.1) l.tiled);
          within = ends;
          written = lay_cut ∙ ap (λ ys. ys ++ here) l.written ∙ sym (ap (λ ks. laid abut (map (cluster_of cells) ks)) reversed_more);
        }

    -- and what its cells cost is added to what those before them cost
    pub lay_cost : (f : Price) → sites_cost f (take next_run.past cells) (take next_run.past new) ≡ sites_cost f (take past cells) (take past sites) + sites_cost f (part cells next_run) (abut (part cells next_run) next_run.site)
    lay_cost f =
        let own = next_spans in
        let starts = own.0.starts in
        let here : List ℕ = abut (part cells next_run) next_run.site in
        let within = l.within in
        let front : take past cells ++ part cells next_run ≡ take next_run.past cells = ap (λ n. take past cells ++ between n next_run.past cells) own.1 ∙ take_join cells past next_run.past (omega (arith, own.1)) in
        let each : length (take past sites) ≡ length (take past cells) = length-take-le past sites (omega arith) ∙ sym (length-take-le past cells within) in
        ap (sites_cost f (take next_run.past cells)) lay_cut
        ∙ sym (ap (λ cs. sites_cost f cs (take past sites ++ here)) front)
        ∙ sites_cost-append f (take past cells) (part cells next_run) (take past sites) here each

-- no run's sites are written yet
pub lay_none : (cells : List Cell) (runs : List Run) (sites : List ℕ) → Laid cells runs 0 0 sites
lay_none cells runs sites = record { tiled = refl; within = omega arith; written = refl }

-- where all runs end, all cells are passed
laid_end : {cells : List Cell} {runs : List Run} {i past : ℕ} {sites : List ℕ} → Tiled cells (length cells) (reverse runs) → length runs ≤ i → Laid cells runs i past sites → past ≡ length cells
laid_end {cells} {runs} {i} {past} tiled all l = tiled_once cells (reverse runs) past (length cells) (subst (λ ks. Tiled cells past (reverse ks)) (take_all i runs all) l.tiled) tiled

-- the sites of all runs are written
pub lay_all : (cells : List Cell) (runs : List Run) (i past : ℕ) (sites : List ℕ) → Tiled cells (length cells) (reverse runs) → length runs ≤ i → length sites ≡ length cells → Laid cells runs i past sites → sites ≡ laid abut (stack_of cells runs)
lay_all cells runs i past sites tiled all each l =
    let end = laid_end tiled all l in
    sym (take_all past sites (omega arith)) ∙ l.written ∙ ap (λ ks. laid abut (stack_of cells ks)) (take_all i runs all)

-- and their cost is that of all cells
pub lay_all_cost : (f : Price) (cells : List Cell) (runs : List Run) (i past : ℕ) (sites : List ℕ) → Tiled cells (length cells) (reverse runs) → length runs ≤ i → length sites ≡ length cells → Laid cells runs i past sites → sites_cost f (take past cells) (take past sites) ≡ sites_cost f cells sites
lay_all_cost f cells runs i past sites tiled all each l =
    let end = laid_end tiled all l in
    ap (λ cs. sites_cost f cs (take past sites)) (take_all past cells (omega arith)) ∙ ap (sites_cost f cells) (take_all past sites (omega arith))
