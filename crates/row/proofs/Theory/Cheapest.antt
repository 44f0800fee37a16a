-- What settled cells are: legal, the cheapest, and the leftmost of the cheapest. There is one such answer only.
use Rattle.std.proofs.Common.{◌≡◌, ℕ, ◌+◌, ◌≤◌, List, [], ◌∷◌, ◌++◌, ap, append_assoc, append-nil, arith}
use Rattle.row.specs.Clusters.{Cluster, settle, laid}
use Rattle.row.proofs.Theory.Packed.{Lane, NotRight, span, packed, reach, sites, cost, Chain, AllBend, Tight, cost_sites, reach_front}
use Rattle.row.proofs.Theory.Certificates.{IsBest}
use Rattle.row.proofs.Theory.Chains.{Halves, halves, abut_chain, cost-append, not_right-append, not_right_both}
use Rattle.row.proofs.Theory.Walks.{cluster_cheapest, cluster_leftmost}
use Rattle.row.proofs.Theory.Settled.{cells_of, Stands, Sound, settle_cells, settle_sound}

module _ {A : Type 0} (R : Lane A) where
  -- where what follows a stack may start
  abbrev start : List (Cluster A) → List A → ℕ
  start [] ds = R.low
  start (k ∷ rest) ds = k.site + reach R k.cells ds

  -- a cluster and a chain behind it are a chain from where the clusters below it end
  below_chain : Tight R → (rest : List (Cluster A)) (k : Cluster A) (ds : List A) (zs : List ℕ) → Stands R rest k → Chain R (k.site + reach R k.cells ds) ds zs → Chain R (start rest (k.cells ++ ds)) (k.cells ++ ds) (sites R k.cells k.site ++ zs)
  below_chain tight [] k ds zs stands chain = abut_chain R tight k.cells ds zs R.low k.site stands.some stands.sure.from stands.sure.to chain
  below_chain tight (b ∷ rest) k ds zs stands chain =
      let same = reach_front R b.cells k.cells ds stands.some in
      let clear = stands.clear in
      abut_chain R tight k.cells ds zs (b.site + reach R b.cells (k.cells ++ ds)) k.site stands.some (omega arith) stands.sure.to chain

  -- the cells of a sound stack and a chain behind them are a chain
  stack_chain : Tight R → (stack : List (Cluster A)) → Sound R stack → (ds : List A) (zs : List ℕ) → Chain R (start stack ds) ds zs → Chain R R.low (cells_of stack ++ ds) (laid (sites R) stack ++ zs)
  stack_chain tight [] sound ds zs chain = chain
  stack_chain tight (k ∷ rest) sound ds zs chain =
      let all = stack_chain tight rest sound.1 (k.cells ++ ds) (sites R k.cells k.site ++ zs) (below_chain tight rest k ds zs sound.0 chain) in
      rw (append_assoc (cells_of rest) k.cells ds, append_assoc (laid (sites R) rest) (sites R k.cells k.site) zs) all

  -- a sound stack is legal
  pub stack_legal : Tight R → (stack : List (Cluster A)) → Sound R stack → Chain R R.low (cells_of stack) (laid (sites R) stack)
  stack_legal tight stack sound =
      let all = stack_chain tight stack sound [] [] tt in
      rw (append-nil (cells_of stack), append-nil (laid (sites R) stack)) at all

  -- the cost of a stack is that of its clusters
  stack_cost : Tight R → (k : Cluster A) (rest : List (Cluster A)) → Sound R rest → cost R (cells_of (k ∷ rest)) (laid (sites R) (k ∷ rest)) ≡ cost R (cells_of rest) (laid (sites R) rest) + packed R k.cells k.site
  stack_cost tight k rest sound =
      let both = cost-append R (cells_of rest) k.cells (laid (sites R) rest) (sites R k.cells k.site) R.low (stack_legal tight rest sound) in
      let one = cost_sites R k.cells k.site in
      omega arith

  -- a sound stack is cheapest
  pub stack_cheapest : Tight R → R.tie ≤ 1 → (stack : List (Cluster A)) → Sound R stack → (zs : List ℕ) → Chain R R.low (cells_of stack) zs → cost R (cells_of stack) (laid (sites R) stack) ≤ cost R (cells_of stack) zs
  stack_cheapest tight small [] sound zs chain = omega arith
  stack_cheapest tight small (k ∷ rest) sound zs chain =
      let h : Halves R R.low (cells_of rest) k.cells zs = halves R tight (cells_of rest) k.cells R.low zs chain in
      let below = stack_cheapest tight small rest sound.1 h.first h.one in
      let top = cluster_cheapest R small k.cells sound.0.sure h.second h.two in
      let mine = stack_cost tight k rest sound.1 in
      let theirs = cost-append R (cells_of rest) k.cells h.first h.second R.low h.one in
      let whole = ap (cost R (cells_of (k ∷ rest))) h.parts in
      omega arith

  -- where the first best site is taken, a sound stack is the leftmost of the cheapest
  pub stack_leftmost : Tight R → R.tie ≡ 0 → (stack : List (Cluster A)) → Sound R stack → (zs : List ℕ) → Chain R R.low (cells_of stack) zs → cost R (cells_of stack) zs ≤ cost R (cells_of stack) (laid (sites R) stack) → NotRight (laid (sites R) stack) zs
  stack_leftmost tight first [] sound zs chain cheap = tt
  stack_leftmost tight first (k ∷ rest) sound zs chain cheap =
      let h : Halves R R.low (cells_of rest) k.cells zs = halves R tight (cells_of rest) k.cells R.low zs chain in
      let below = stack_cheapest tight (omega arith) rest sound.1 h.first h.one in
      let top = cluster_cheapest R (omega arith) k.cells sound.0.sure h.second h.two in
      let mine = stack_cost tight k rest sound.1 in
      let theirs = cost-append R (cells_of rest) k.cells h.first h.second R.low h.one in
      let whole = ap (cost R (cells_of (k ∷ rest))) h.parts in
      let left_below = stack_leftmost tight first rest sound.1 h.first h.one (omega arith) in
      let left_top = cluster_leftmost R first k.cells sound.0.sure h.second h.two (omega arith) in
      rw h.parts (not_right-append R (cells_of rest) (laid (sites R) rest) h.first (sites R k.cells k.site) h.second R.low R.low (stack_legal tight rest sound.1) h.one left_below left_top)

  -- sites that are legal, the cheapest, and the leftmost of the cheapest
  pub record Answer (cells : List A) (ys : List ℕ) : Type 0 where
    pub legal : Chain R R.low cells ys
    pub cheapest : (zs : List ℕ) → Chain R R.low cells zs → cost R cells ys ≤ cost R cells zs
    pub leftmost : (zs : List ℕ) → Chain R R.low cells zs → cost R cells zs ≤ cost R cells ys → NotRight ys zs

  -- there are no two answers
  pub one_answer : (cells : List A) (ys zs : List ℕ) → Answer cells ys → Answer cells zs → ys ≡ zs
  one_answer cells ys zs a b =
      not_right_both R cells ys zs R.low R.low a.legal b.legal (a.leftmost zs b.legal (b.cheapest ys a.legal)) (b.leftmost ys a.legal (a.cheapest zs b.legal))

  module _ (tight : Tight R) (best : List A → ℕ) (best_is : (cs : List A) → R.low + span R cs ≤ R.high → IsBest R cs (best cs)) (cells : List A) (bend : AllBend R cells) (room : R.low + span R cells ≤ R.high) where
    -- settled cells stand in a sound stack
    pub settled_sound : R.tie ≤ 1 → Sound R (settle (reach R) best cells [])
    settled_sound small = settle_sound R tight small best best_is cells [] tt bend room

    -- they are legal ..
    pub settled_legal : R.tie ≤ 1 → Chain R R.low cells (laid (sites R) (settle (reach R) best cells []))
    settled_legal small =
        let stack : List (Cluster A) = settle (reach R) best cells [] in
        let legal = stack_legal tight stack (settled_sound small) in
        rw (settle_cells (reach R) best cells []) at legal

    -- .. the cheapest ..
    pub settled_cheapest : R.tie ≤ 1 → (zs : List ℕ) → Chain R R.low cells zs → cost R cells (laid (sites R) (settle (reach R) best cells [])) ≤ cost R cells zs
    settled_cheapest small =
        let stack : List (Cluster A) = settle (reach R) best cells [] in
        let cheapest = stack_cheapest tight small stack (settled_sound small) in
        rw (settle_cells (reach R) best cells []) at cheapest

    -- .. and, where the first best site is taken, the leftmost of the cheapest
    pub settled_leftmost : R.tie ≡ 0 → (zs : List ℕ) → Chain R R.low cells zs → cost R cells zs ≤ cost R cells (laid (sites R) (settle (reach R) best cells [])) → NotRight (laid (sites R) (settle (reach R) best cells [])) zs
    settled_leftmost first =
        let stack : List (Cluster A) = settle (reach R) best cells [] in
        let leftmost = stack_leftmost tight first stack (settled_sound (omega arith)) in
        rw (settle_cells (reach R) best cells []) at leftmost

    -- so they are the answer
    pub settled_answer : R.tie ≡ 0 → Answer cells (laid (sites R) (settle (reach R) best cells []))
    settled_answer first = record { legal = settled_legal (omega arith); cheapest = settled_cheapest (omega arith); leftmost = settled_leftmost first }
