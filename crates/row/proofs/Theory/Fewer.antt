-- One cell fewer: its neighbours may stay where they are, so the others cost no more.
use Rattle.std.proofs.Common.{ℕ, ◌+◌, ◌≤◌, List, [], ◌∷◌, ◌++◌, arith}
use Rattle.row.proofs.Theory.Packed.{Lane, next, span, cost, Chain, Tight}
use Rattle.row.proofs.Theory.Chains.{chain_lower}

-- sites without the one of the cell behind ps
abbrev pub without : {A : Type 0} → List A → List ℕ → List ℕ
without [] [] = []
without [] (y ∷ ys) = ys
without (p ∷ ps) [] = []
without (p ∷ ps) (y ∷ ys) = y ∷ without ps ys

module _ {A : Type 0} (R : Lane A) where
  -- a cell between two others does not bring them closer
  abbrev pub Triangle : Type 0
  Triangle = (c d e : A) → R.apart c e ≤ R.apart c d + R.apart d e

  -- nor closer to what follows
  next_fewer : Tight R → Triangle → (c d : A) (ss : List A) → next R c ss ≤ R.apart c d + next R d ss
  next_fewer tight triangle c d [] = let wide = tight c d in omega arith
  next_fewer tight triangle c d (s ∷ ss) = triangle c d s

  -- a chain without one of its cells is a chain of the others
  pub fewer_legal : Tight R → Triangle → (ps : List A) (d : A) (ss : List A) (lo : ℕ) (ys : List ℕ) → Chain R lo (ps ++ (d ∷ ss)) ys → Chain R lo (ps ++ ss) (without ps ys)
  fewer_legal tight triangle [] d ss lo [] chain = absurd chain
  fewer_legal tight triangle [] d ss lo (y ∷ ys) chain = let start = chain.0 in chain_lower R ss ys (y + next R d ss) lo (omega arith) chain.2
  fewer_legal tight triangle (p ∷ ps) d ss lo [] chain = absurd chain
  fewer_legal tight triangle (p ∷ []) d ss lo (y ∷ []) chain = absurd chain.2
  fewer_legal tight triangle (p ∷ []) d ss lo (y ∷ z ∷ zs) chain =
      let short = next_fewer tight triangle p d ss in
      let after = chain.2.0 in
      (chain.0, chain.1, chain_lower R ss zs (z + next R d ss) (y + next R p ss) (omega arith) chain.2.2)
  fewer_legal tight triangle (p ∷ q ∷ ps) d ss lo (y ∷ ys) chain =
      (chain.0, chain.1, fewer_legal tight triangle (q ∷ ps) d ss (y + R.apart p q) ys chain.2)

  -- it costs no more
  pub fewer_cost : (ps : List A) (d : A) (ss : List A) (lo : ℕ) (ys : List ℕ) → Chain R lo (ps ++ (d ∷ ss)) ys → cost R (ps ++ ss) (without ps ys) ≤ cost R (ps ++ (d ∷ ss)) ys
  fewer_cost [] d ss lo [] chain = absurd chain
  fewer_cost [] d ss lo (y ∷ ys) chain = omega arith
  fewer_cost (p ∷ ps) d ss lo [] chain = absurd chain
  fewer_cost (p ∷ ps) d ss lo (y ∷ ys) chain = let rest = fewer_cost ps d ss (y + next R p (ps ++ (d ∷ ss))) ys chain.2 in omega arith

  -- so the cheapest sites of the others cost no more than any of all
  pub fewer_cheapest : Tight R → Triangle → (ps : List A) (d : A) (ss : List A) (xs : List ℕ) → ((zs : List ℕ) → Chain R R.low (ps ++ ss) zs → cost R (ps ++ ss) xs ≤ cost R (ps ++ ss) zs) → (ys : List ℕ) → Chain R R.low (ps ++ (d ∷ ss)) ys → cost R (ps ++ ss) xs ≤ cost R (ps ++ (d ∷ ss)) ys
  fewer_cheapest tight triangle ps d ss xs cheapest ys chain =
      let best = cheapest (without ps ys) (fewer_legal tight triangle ps d ss R.low ys chain) in
      let less = fewer_cost ps d ss R.low ys chain in
      omega arith

  -- and the others have room where all have
  pub fewer_span : Tight R → Triangle → (ps : List A) (d : A) (ss : List A) → span R (ps ++ ss) ≤ span R (ps ++ (d ∷ ss))
  fewer_span tight triangle [] d ss = omega arith
  fewer_span tight triangle (p ∷ []) d ss = let short = next_fewer tight triangle p d ss in omega arith
  fewer_span tight triangle (p ∷ q ∷ ps) d ss = let rest = fewer_span tight triangle (q ∷ ps) d ss in omega arith
