-- What is known of a row once its clusters are found and its sites are written.
use Rattle.std.proofs.Common.{◌≡◌, ℕ, ◌+◌, ◌*◌, ◌^◌, ◌<◌, ◌≤◌, List, [], ◌∷◌, map, reverse, length, get_or, sym, ap, ◌∙◌, subst, arith}
use mathlib.Core.List.{reverse-cons}
use Rattle.std.proofs.ByRecursion.{All-push, All-get_or}
use Rattle.std.proofs.lemmas.List.Edits.{length-between}
use Rattle.std.proofs.lemmas.List.{take_all, reverse-reverse}
use Rattle.std.specs.List.{between, AllByRecursion}
use Rattle.measure.specs.Costs.{Fair, Price}
use Rattle.row.specs.Clusters.{laid}
use Rattle.row.specs.Settings.{placed, Within}
use Rattle.row.specs.Costs.{sites_cost}
use Rattle.row.specs.Sites.{abut, row_clusters, row_sites}
use Rattle.row.specs.Stack.{Ready, InPlaces, part, cluster_of, stack_of, Tiled, Holds}
use Rattle.row.specs.declared.Cell.{Cell}
use Rattle.row.specs.declared.Row.{Row}
use Rattle.row.specs.declared.cluster.Cluster.{Cluster as Run}
use Rattle.row.proofs.Accepted.{Accepted, ready_known}
use Rattle.row.proofs.Costs.{abut_bounded}
use Rattle.row.proofs.Defaults.{no_run}
use Rattle.row.proofs.Laying.{Laid, lay_all, next_spans}
use Rattle.row.proofs.Parts.{part_known}
use Rattle.row.proofs.Instance.{lane, span_is}
use Rattle.row.proofs.Stacked.{prefix_sound}
use Rattle.row.proofs.Subject.{row_cheapest}
use Rattle.row.proofs.Theory.Settled.{Sound}

-- what holds of each element holds of each backwards
all_reverse : {X : Type 0} (P : X → Type 0) (xs : List X) → AllByRecursion P xs → AllByRecursion P (reverse xs)
all_reverse P [] h = tt
all_reverse P (x ∷ xs) h = subst (AllByRecursion P) (sym (reverse-cons x xs)) (All-push P (reverse xs) x (all_reverse P xs h.1) h.0)

-- sites of cells within a row are places
all_places : (row : Row) (cs : List Cell) (ys : List ℕ) → row.right ≤ 65535 → length ys ≡ length cs → AllByRecursion (Within row) (placed cs ys) → AllByRecursion (λ y. y ≤ 65535) ys
all_places row cs [] right each within = tt
all_places row [] (y ∷ ys) right each within = absurd (omega arith)
all_places row (c ∷ cs) (y ∷ ys) right each within = let end = within.0.1 in (omega arith, all_places row cs ys right (omega arith) within.1)

module _ (f : Price) (row : Row) (cells : List Cell) (n : ℕ) (fair : Fair f) (a : Accepted row cells n) where
  -- sound clusters lie within the row
  sound_places : (ks : List Run) (past : ℕ) → Tiled cells past ks → Sound (lane f row) (map (cluster_of cells) ks) → AllByRecursion InPlaces ks
  sound_places [] past tiled sound = tt
  sound_places (k ∷ ks) past tiled sound =
      let to = sound.0.sure.to in
      let wide = tiled.0.wide in
      let spanned = span_is f row (between k.first k.past cells) in
      let right = a.ranged.right in
      (omega arith, sound_places ks k.first tiled.1 sound.1)

  pub row_each : length (row_sites f row cells) ≡ length cells
  row_each = (row_cheapest f row fair cells n a).setting.each

  pub row_places : AllByRecursion (λ y. y ≤ 65535) (row_sites f row cells)
  row_places = all_places row cells (row_sites f row cells) a.ranged.right row_each (row_cheapest f row fair cells n a).setting.legal.0

-- Runs that are the row's clusters.
module _ {f : Price} {row : Row} {cells : List Cell} {runs items : List Run} (fair : Fair f) (ready : Ready row cells) (same : runs ≡ items) (h : Holds f row cells (length cells) items) where
  abbrev a : Accepted row cells (length cells)
  a = ready_known row cells ready

  pub all_tiled : Tiled cells (length cells) (reverse runs)
  all_tiled = subst (λ ks. Tiled cells (length cells) (reverse ks)) (sym same) h.tiled

  pub in_places : AllByRecursion InPlaces runs
  in_places =
      let sound : Sound (lane f row) (stack_of cells items) = subst (Sound (lane f row)) (sym h.clusters) (prefix_sound fair a (length cells)) in
      let back : AllByRecursion InPlaces (reverse items) = sound_places f row cells (length cells) fair a (reverse items) (length cells) h.tiled sound in
      subst (AllByRecursion InPlaces) (reverse-reverse items ∙ sym same) (all_reverse InPlaces (reverse items) back)

  -- what the cells of the next run cost is at most 2^42 for each of them
  pub next_bounded : {i past : ℕ} {sites : List ℕ} → i < length runs → length sites ≡ length cells → Laid cells runs i past sites → sites_cost f (part cells (get_or runs i no_run)) (abut (part cells (get_or runs i no_run)) (get_or runs i no_run).site) + 2 ^ 42 * past ≤ 2 ^ 42 * (get_or runs i no_run).past
  next_bounded {i} below each l =
      let k : Run = get_or runs i no_run in
      let next = next_spans cells runs i _ _ all_tiled below each l in
      let wide = next.0.wide in
      let starts = next.0.starts in
      let at = next.1 in
      let inside : InPlaces k = All-get_or InPlaces runs i no_run below in_places in
      let known = part_known a k.first k.past in
      let long = length-between cells k.first k.past next.2 in
      let bound = abut_bounded fair (part cells k) k.site known.pass (omega arith) in
      omega arith

  -- once the sites of all of them are written, they are the row's
  pub laid_are : {i past : ℕ} {sites : List ℕ} → length runs ≤ i → length sites ≡ length cells → Laid cells runs i past sites → sites ≡ row_sites f row cells
  laid_are all each l =
      lay_all cells runs _ _ _ all_tiled all each l
      ∙ ap (λ ks. laid abut (stack_of cells ks)) same
      ∙ ap (laid abut) (h.clusters ∙ ap (row_clusters f row) (take_all (length cells) cells (omega arith)))
