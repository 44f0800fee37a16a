-- A stack of certified clusters, each clear of the next: pushing and settling keep it.
use Rattle.std.proofs.Common.{◌≡◌, ℕ, ◌+◌, ◌≤◌, ltb, List, [], ◌∷◌, ◌++◌, sym, refl, ap, ◌∙◌, append_assoc, append-nil, arith}
use Rattle.std.proofs.lemmas.Bool.{cond_both, ltb-true, ltb-false}
use Rattle.row.specs.Clusters.{Cluster, at_best, push, settle}
use Rattle.row.proofs.Theory.Packed.{Lane, NonEmpty, some_append, span, reach, AllBend, Tight, bend_front, bend_back, span-append, span_front}
use Rattle.row.proofs.Theory.Certificates.{Certified, IsBest, one_cell, join}

-- the cells of all clusters, from the first on
abbrev pub cells_of : {A : Type 0} → List (Cluster A) → List A
cells_of [] = []
cells_of (k ∷ rest) = cells_of rest ++ k.cells

module _ {A : Type 0} (reach' : List A → List A → ℕ) (best : List A → ℕ) where
  -- pushing keeps the cells and their order
  pub push_cells : (k : Cluster A) (stack : List (Cluster A)) → cells_of (push reach' best k stack) ≡ cells_of stack ++ k.cells
  push_cells k [] = refl
  push_cells k (b ∷ rest) =
      let both : List A = b.cells ++ k.cells in
      cond_both (ltb k.site (b.site + reach' b.cells k.cells)) (push reach' best (at_best reach' best both) rest) (k ∷ b ∷ rest)
      (λ stack. cells_of stack ≡ cells_of rest ++ b.cells ++ k.cells)
      (λ _. push_cells (at_best reach' best both) rest ∙ sym (append_assoc (cells_of rest) b.cells k.cells))
      (λ _. refl)

  -- and so does settling
  pub settle_cells : (cs : List A) (stack : List (Cluster A)) → cells_of (settle reach' best cs stack) ≡ cells_of stack ++ cs
  settle_cells [] stack = sym (append-nil (cells_of stack))
  settle_cells (c ∷ cs) stack =
      let one : Cluster A = at_best reach' best (c ∷ []) in
      settle_cells cs (push reach' best one stack) ∙ (ap (λ l. l ++ cs) (push_cells one stack) ∙ append_assoc (cells_of stack) (c ∷ []) cs)

module _ {A : Type 0} (R : Lane A) where
  -- a cluster is clear of the one below it
  abbrev pub Clear : List (Cluster A) → Cluster A → Type 0
  Clear [] k = Unit {0}
  Clear (b ∷ rest) k = b.site + reach R b.cells k.cells ≤ k.site

  -- a cluster stands on the clusters below it
  pub record Stands (rest : List (Cluster A)) (k : Cluster A) : Type 0 where
    pub some : NonEmpty k.cells
    pub sure : Certified R k.cells k.site
    pub clear : Clear rest k

  -- every cluster of a stack stands on those below it
  abbrev pub Sound : List (Cluster A) → Type 0
  Sound [] = Unit {0}
  Sound (k ∷ rest) = Stands rest k × Sound rest

  module _ (tight : Tight R) (small : R.tie ≤ 1) (best : List A → ℕ) (best_is : (cs : List A) → R.low + span R cs ≤ R.high → IsBest R cs (best cs)) where
    -- a certified cluster pushed on a sound stack leaves a sound stack
    pub push_sound : (k : Cluster A) (stack : List (Cluster A)) → NonEmpty k.cells → Certified R k.cells k.site → Sound stack → AllBend R (cells_of stack ++ k.cells) → R.low + span R (cells_of stack ++ k.cells) ≤ R.high → Sound (push (reach R) best k stack)
    push_sound k [] some sure sound bend room = (record { some = some; sure = sure; clear = tt }, tt)
    push_sound k (b ∷ rest) some sure sound bend room =
        let both : List A = b.cells ++ k.cells in
        let end : ℕ = b.site + reach R b.cells k.cells in
        let below : Stands rest b = sound.0 in
        let group : cells_of rest ++ b.cells ++ k.cells ≡ cells_of rest ++ both = append_assoc (cells_of rest) b.cells k.cells in
        cond_both (ltb k.site end) (push (reach R) best (at_best (reach R) best both) rest) (k ∷ b ∷ rest) Sound
        (λ test.
        let overlap = ltb-true k.site end test in
        let all_bend : AllBend R (cells_of rest ++ both) = rw group at bend in
        let all_room : R.low + span R (cells_of rest ++ both) ≤ R.high = rw group at room in
        let length = span-append R (cells_of rest) both in
        let joined = join R below.some some below.sure sure (omega arith) (best_is both (omega arith)) tight small (bend_back R (cells_of rest) both all_bend) in
        push_sound (at_best (reach R) best both) rest (some_append b.cells k.cells below.some) joined sound.1 all_bend all_room)
        (λ test. (record { some = some; sure = sure; clear = ltb-false k.site end test }, sound))

    -- so do cells settled on it
    pub settle_sound : (cs : List A) (stack : List (Cluster A)) → Sound stack → AllBend R (cells_of stack ++ cs) → R.low + span R (cells_of stack ++ cs) ≤ R.high → Sound (settle (reach R) best cs stack)
    settle_sound [] stack sound bend room = sound
    settle_sound (c ∷ cs) stack sound bend room =
        let one : Cluster A = at_best (reach R) best (c ∷ []) in
        let group : cells_of stack ++ (c ∷ []) ++ cs ≡ cells_of stack ++ (c ∷ cs) = append_assoc (cells_of stack) (c ∷ []) cs in
        let all_bend : AllBend R (cells_of stack ++ (c ∷ []) ++ cs) = rw group bend in
        let all_room : R.low + span R (cells_of stack ++ (c ∷ []) ++ cs) ≤ R.high = rw group room in
        let front = span_front R tight (cells_of stack ++ (c ∷ [])) cs in
        let back = span-append R (cells_of stack) (c ∷ []) in
        let sure = one_cell R tight (bend_back R (cells_of stack) (c ∷ cs) bend).0 (best_is (c ∷ []) (omega arith)) in
        let pushed = push_sound one stack tt sure sound (bend_front R (cells_of stack ++ (c ∷ [])) cs all_bend) (omega arith) in
        let same : cells_of (push (reach R) best one stack) ++ cs ≡ cells_of stack ++ (c ∷ []) ++ cs = ap (λ l. l ++ cs) (push_cells (reach R) best one stack) in
        settle_sound cs (push (reach R) best one stack) pushed (rw same all_bend) (rw same all_room)
