-- The clusters that the program keeps, and the stack of the theory.
use Rattle.std.proofs.Common.{◌≡◌, ℕ, ◌+◌, ◌-◌, ◌<◌, ◌≤◌, true, false, ltb, List, [], ◌∷◌, ◌++◌, map, reverse, length, get_or, take, Some, sym, refl, ap, ◌∙◌, subst, ⊎_elim, arith}
use Rattle.std.proofs.lemmas.List.Edits.{length-between}
use Rattle.std.proofs.ByRecursion.{All-take, All-get_or}
use Rattle.std.proofs.lemmas.List.{take_more, take_all, reverse-append, length-reverse}
use Rattle.std.proofs.lemmas.Option.{slice_get_within, get_or_from_slice_get, slice_get_cases}
use Rattle.std.proofs.lemmas.Bool.{cond-true, cond-false, lt-ltb, le-ltb}
use Rattle.std.specs.List.{between, slice_get}
use Rattle.measure.specs.Costs.{Fair, Price}
use Rattle.row.specs.Clusters.{Cluster, at_best, push, settle}
use Rattle.row.specs.Records.{widths}
use Rattle.row.specs.Sites.{best_site, reach as reaches, row_clusters}
use Rattle.row.specs.Stack.{Passes, Ready, part, cluster_of, stack_of, Spans, AtBest, Follows, Bracketed, Tiled, Holds}
use Rattle.row.specs.declared.Cell.{Cell}
use Rattle.row.specs.declared.Row.{Row}
use Rattle.row.specs.declared.cluster.Cluster.{Cluster as Run}
use Rattle.row.proofs.Accepted.{Accepted, ready_known}
use Rattle.row.proofs.Defaults.{no_cell, no_run}
use Rattle.row.proofs.Instance.{lane, tight, span_is, reach_is, best_is, bends, all_bend, clusters_are}
use Rattle.row.proofs.Parts.{take_join, between_one, part_joined, part_known, widths-take}
use Rattle.row.proofs.Theory.Certificates.{Certified, IsBest, one_cell, join, join_left, join_right}
use Rattle.row.proofs.Theory.Cheapest.{settled_sound}
use Rattle.row.proofs.Theory.Packed.{Lane, NonEmpty, AllBend, span, reach}
use Rattle.row.proofs.Theory.Settled.{Sound, cells_of}

-- a run on top of others
pub pushed_run : (runs : List Run) (k : Run) → reverse (runs ++ k ∷ []) ≡ k ∷ reverse runs
pushed_run runs k = reverse-append runs (k ∷ [])

-- a run stands on top of others
pub record OnTop (runs others : List Run) (b : Run) : Type 0 where
  pub is : runs ≡ others ++ b ∷ []

pub top_of : (runs : List Run) (b : Run) → Some b ≡ slice_get runs (length runs - 1) → OnTop runs (take (length runs - 1) runs) b
top_of runs b last =
    let i : ℕ = length runs - 1 in
    let within : i < length runs = slice_get_within runs i b (sym last) in
    let same : get_or runs i no_run ≡ b = get_or_from_slice_get runs i b no_run (sym last) in
    record { is = sym (take_all (i + 1) runs (omega arith)) ∙ take_more runs i no_run within ∙ ap (λ k. take i runs ++ k ∷ []) same }

-- runs that follow one another have the cells from the first on, and are at most as many
pub tiled_cells : (cells : List Cell) (ks : List Run) (past : ℕ) → Tiled cells past ks → cells_of (map (cluster_of cells) ks) ≡ take past cells
tiled_cells cells [] past tiled = sym (ap (λ n. take n cells) tiled)
tiled_cells cells (k ∷ ks) past tiled =
    let own = tiled.0 in
    let low : k.first ≤ k.past = omega (arith, own.starts) in
    ap (λ l. l ++ part cells k) (tiled_cells cells ks k.first tiled.1) ∙ take_join cells k.first k.past low ∙ ap (λ n. take n cells) own.ends

tiled_count : (cells : List Cell) (ks : List Run) (past : ℕ) → Tiled cells past ks → length ks ≤ past
tiled_count cells [] past tiled = omega arith
tiled_count cells (k ∷ ks) past tiled =
    let own = tiled.0 in
    let starts = own.starts in
    let ends = own.ends in
    let rest = tiled_count cells ks k.first tiled.1 in
    omega arith

pub few_runs : (cells : List Cell) (runs : List Run) (past : ℕ) → Tiled cells past (reverse runs) → length runs ≤ past
few_runs cells runs past tiled =
    let back = length-reverse runs in
    omega (arith, tiled_count cells (reverse runs) past tiled)

-- what has a length is not empty
some_length : {A : Type 0} (xs : List A) → 0 < length xs → NonEmpty xs
some_length [] h = omega arith
some_length (x ∷ xs) h = tt

some_part : (cells : List Cell) (past : ℕ) (k : Run) → past ≤ length cells → Spans cells past k → NonEmpty (part cells k)
some_part cells past k within own =
    let starts = own.starts in
    let ends = own.ends in
    let long = length-between cells k.first k.past (omega arith) in
    some_length (part cells k) (omega arith)

-- one cell more is pushed on the clusters of those before it
settle_push : (best : List Cell → ℕ) (cs : List Cell) (c : Cell) (stack : List (Cluster Cell)) → settle reaches best (cs ++ c ∷ []) stack ≡ push reaches best (at_best reaches best (c ∷ [])) (settle reaches best cs stack)
settle_push best [] c stack = refl
settle_push best (d ∷ cs) c stack = settle_push best cs c (push reaches best (at_best reaches best (d ∷ [])) stack)

-- the last cluster, on the clusters that the runs are: what is to come of them once it is pushed
pub record Pushing (f : Price) (row : Row) (cells : List Cell) (past : ℕ) (runs : List Run) (last : Run) : Type 0 where
  pub spans : Spans cells past last
  pub tiled : Tiled cells last.first (reverse runs)
  pub sure : Certified (lane f row) (part cells last) last.site
  pub sound : Sound (lane f row) (stack_of cells runs)
  pub comes : push reaches (best_site f row) (cluster_of cells last) (stack_of cells runs) ≡ row_clusters f row (take past cells)

-- the last cluster is put on top of the others as it is
abbrev pub Rests : Price → Row → List Cell → List Run → Run → Type 0
Rests f row cells runs last = push reaches (best_site f row) (cluster_of cells last) (stack_of cells runs) ≡ cluster_of cells last ∷ stack_of cells runs

-- so it is where there are none
rests_alone : (f : Price) (row : Row) (cells : List Cell) (runs : List Run) (last : Run) → length runs ≡ 0 → Rests f row cells runs last
rests_alone f row cells [] last none = refl
rests_alone f row cells (k ∷ ks) last none = absurd (omega arith)

module _ {f : Price} {row : Row} {cells : List Cell} {n : ℕ} (fair : Fair f) (a : Accepted row cells n) where
  abbrev R : Lane Cell
  R = lane f row

  -- a run at its best site is the cluster of its cells there
  at_best_is : (first past : ℕ) (k : Run) → AtBest f row cells first past k → cluster_of cells k ≡ at_best reaches (best_site f row) (between first past cells)
  at_best_is first past k b =
      let cs : part cells k ≡ between first past cells = ap (λ i. between i k.past cells) b.begins ∙ ap (λ j. between first j cells) b.spans.ends in
      let site : k.site ≡ best_site f row (between first past cells) = b.best ∙ ap (best_site f row) cs in
      λ i. record { site = site i; cells = cs i }

  -- the clusters of the first cells are sound
  pub prefix_sound : (i : ℕ) → Sound R (row_clusters f row (take i cells))
  prefix_sound i =
      let right = a.ranged.right in
      let wide = span_is f row (take i cells) in
      let less = widths-take i cells in
      let room : row.left + span R (take i cells) ≤ row.right = omega (arith, a.room) in
      subst (Sound R) (sym (clusters_are f row (take i cells)))
      (settled_sound R (tight f row) (best_site f row) (best_is f row) (take i cells) (all_bend f row fair right (take i cells) (All-take Passes i cells a.pass)) room (omega arith))

  -- where a cell is taken: it is a cluster of its own on those before it
  pub start : {i : ℕ} {runs : List Run} {last : Run} → i < length cells → Holds f row cells i runs → AtBest f row cells i (i + 1) last → Pushing f row cells (i + 1) runs last
  start {i} {runs} {last} within h b =
      let right = a.ranged.right in
      let c : Cell = get_or cells i no_cell in
      let one : between i (i + 1) cells ≡ c ∷ [] = between_one cells i no_cell within in
      let is = at_best_is i (i + 1) last b in
      let known = part_known a i (i + 1) in
      let best : IsBest R (c ∷ []) (best_site f row (c ∷ [])) = best_is f row (c ∷ []) (let w = span_is f row (c ∷ []) in let e = ap widths one in omega (arith, known.room)) in
      let sure : Certified R (c ∷ []) (best_site f row (c ∷ [])) = one_cell R (tight f row) (bends f row fair right c (All-get_or Passes cells i no_cell within a.pass)) best in
      let whole : cluster_of cells last ≡ at_best reaches (best_site f row) (c ∷ []) = is ∙ ap (at_best reaches (best_site f row)) one in
      record {
        spans = b.spans;
        tiled = subst (λ k. Tiled cells k (reverse runs)) (sym b.begins) h.tiled;
        sure = subst (λ k. Certified R k.cells k.site) (sym whole) sure;
        sound = subst (Sound R) (sym h.clusters) (prefix_sound i);
        comes =
            ap (λ k. push reaches (best_site f row) k (stack_of cells runs)) whole
            ∙ ap (push reaches (best_site f row) (at_best reaches (best_site f row) (c ∷ []))) h.clusters
            ∙ sym (ap (row_clusters f row) (take_more cells i no_cell within) ∙ settle_push (best_site f row) (take i cells) c []);
      }

  -- what is known where there is a cluster b before the last one, on others
  module _ {past : ℕ} {runs others : List Run} {b last : Run} (within : past ≤ length cells) (top : OnTop runs others b) (p : Pushing f row cells past runs last) where
    reversed : reverse runs ≡ b ∷ reverse others
    reversed = ap reverse top.is ∙ pushed_run others b

    tiled_top : Tiled cells last.first (b ∷ reverse others)
    tiled_top = subst (Tiled cells last.first) reversed p.tiled

    stack_top : stack_of cells runs ≡ cluster_of cells b ∷ stack_of cells others
    stack_top = ap (map (cluster_of cells)) reversed

    sound_top : Sound R (cluster_of cells b ∷ stack_of cells others)
    sound_top = subst (Sound R) stack_top p.sound

    -- the one before lies within the row
    end_fits : b.site + b.width ≤ row.right
    end_fits =
        let to = sound_top.0.sure.to in
        let wide = span_is f row (part cells b) in
        let own = tiled_top.0.wide in
        omega arith

    follows : Follows cells b last
    follows = record {
      one = tiled_top.0;
      two = record { starts = p.spans.starts; ends = refl; wide = p.spans.wide };
      ends = omega (arith, p.spans.ends);
    }

    joined_cells : part cells b ++ part cells last ≡ between b.first last.past cells
    joined_cells = part_joined follows

    best_joined : IsBest R (part cells b ++ part cells last) (best_site f row (part cells b ++ part cells last))
    best_joined =
        let known = part_known a b.first last.past in
        let wide = span_is f row (part cells b ++ part cells last) in
        let same = ap widths joined_cells in
        best_is f row (part cells b ++ part cells last) (omega (arith, known.room))

    module _ (overlap : last.site < b.site + b.width) where
      touch : last.site ≤ b.site + reach R (part cells b) (part cells last)
      touch =
          let wide = tiled_top.0.wide in
          let far = reach_is f row (part cells b) (part cells last) in
          omega arith

      some_b : NonEmpty (part cells b)
      some_b = sound_top.0.some

      some_last : NonEmpty (part cells last)
      some_last = some_part cells past last within p.spans

      bracketed : Bracketed f row cells b last
      bracketed =
          let left = join_left R some_b some_last sound_top.0.sure p.sure touch best_joined (tight f row) in
          let right = join_right R some_b some_last sound_top.0.sure p.sure touch best_joined (tight f row) (omega arith) in
          let same = ap (best_site f row) joined_cells in
          let wide = tiled_top.0.wide in
          let far = reach_is f row (part cells b) (part cells last) in
          record { not_after = omega arith; not_before = omega arith }

      -- the two as one are pushed on those before them
      again : (r : Run) → AtBest f row cells b.first last.past r → Pushing f row cells past others r
      again r best =
          let both : List Cell = part cells b ++ part cells last in
          let whole : cluster_of cells r ≡ at_best reaches (best_site f row) both = at_best_is b.first last.past r best ∙ ap (at_best reaches (best_site f row)) (sym joined_cells) in
          let known = part_known a b.first last.past in
          let bend = subst (AllBend R) (sym joined_cells) (all_bend f row fair a.ranged.right (between b.first last.past cells) known.pass) in
          let sure = join R some_b some_last sound_top.0.sure p.sure touch best_joined (tight f row) (omega arith) bend in
          let test : ltb last.site (b.site + widths (part cells b)) ≡ true = lt-ltb last.site (b.site + widths (part cells b)) (omega (arith, tiled_top.0.wide)) in
          let rest = stack_of cells others in
          record {
            spans = record { starts = best.spans.starts; ends = best.spans.ends ∙ p.spans.ends; wide = best.spans.wide };
            tiled = subst (λ j. Tiled cells j (reverse others)) (sym best.begins) tiled_top.1;
            sure = subst (λ k. Certified R k.cells k.site) (sym whole) sure;
            sound = sound_top.1;
            comes =
                ap (λ k. push reaches (best_site f row) k rest) whole
                ∙ sym (cond-true (ltb last.site (b.site + widths (part cells b))) (push reaches (best_site f row) (at_best reaches (best_site f row) both) rest) (cluster_of cells last ∷ cluster_of cells b ∷ rest) test)
                ∙ sym (ap (push reaches (best_site f row) (cluster_of cells last)) stack_top)
                ∙ p.comes;
          }

    -- where it does not overlap, it is put on top
    rests_on : b.site + b.width ≤ last.site → Rests f row cells runs last
    rests_on clear =
        let rest = stack_of cells others in
        let both : List Cell = part cells b ++ part cells last in
        let test : ltb last.site (b.site + widths (part cells b)) ≡ false = le-ltb last.site (b.site + widths (part cells b)) (omega (arith, tiled_top.0.wide)) in
        ap (push reaches (best_site f row) (cluster_of cells last)) stack_top
        ∙ cond-false (ltb last.site (b.site + widths (part cells b))) (push reaches (best_site f row) (at_best reaches (best_site f row) both) rest) (cluster_of cells last ∷ cluster_of cells b ∷ rest) test
        ∙ sym (ap (λ s. cluster_of cells last ∷ s) stack_top)

  -- where no run on top ends behind its site, it rests on the others
  pub rests : {past : ℕ} {runs : List Run} {last : Run} → past ≤ length cells → Pushing f row cells past runs last → ((b : Run) → Some b ≡ slice_get runs (length runs - 1) → b.site + b.width ≤ last.site) → Rests f row cells runs last
  rests {past} {runs} {last} within p clear =
      ⊎_elim
      (λ found. rests_on within (top_of runs found.0 (sym found.2)) p (clear found.0 (sym found.2)))
      (λ none. let past_end = none.0 in rests_alone f row cells runs last (omega arith))
      (slice_get_cases runs (length runs - 1)).1

  -- the last cluster put on those that it rests on
  pub finish : {past : ℕ} {runs : List Run} {last : Run} → Pushing f row cells past runs last → Rests f row cells runs last → Holds f row cells past (runs ++ last ∷ [])
  finish {past} {runs} {last} p rested =
      let top = pushed_run runs last in
      record {
        tiled = subst (Tiled cells past) (sym top) (p.spans, p.tiled);
        clusters = ap (map (cluster_of cells)) top ∙ sym rested ∙ p.comes;
      }

-- what is known where the run on top of the others is b
pub record Turn (f : Price) (row : Row) (cells : List Cell) (past : ℕ) (runs : List Run) (b last : Run) : Type 0 where
  pub ends : b.site + b.width ≤ 65535
  pub follows : Follows cells b last
  pub bracketed : last.site < b.site + b.width → Bracketed f row cells b last
  pub again : last.site < b.site + b.width → (r : Run) → AtBest f row cells b.first last.past r → Pushing f row cells past (take (length runs - 1) runs) r

pub turn : {f : Price} {row : Row} {cells : List Cell} {past : ℕ} {runs : List Run} {b last : Run} → Fair f → Ready row cells → past ≤ length cells → Some b ≡ slice_get runs (length runs - 1) → Pushing f row cells past runs last → Turn f row cells past runs b last
turn {f} {row} {cells} {past} {runs} {b} {last} fair ready within at p =
    let a = ready_known row cells ready in
    let top = top_of runs b at in
    let ends = end_fits fair a within top p in
    let right = a.ranged.right in
    record {
      ends = omega arith;
      follows = follows fair a within top p;
      bracketed = λ overlap. bracketed fair a within top p overlap;
      again = λ overlap. again fair a within top p overlap;
    }
