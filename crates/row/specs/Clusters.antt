-- Clusters: runs of abutting cells, and how they are joined. In a list of them the last stands first.
use Rattle.std.specs.Prelude.{ℕ, ◌+◌, if◌then◌else◌, List, [], ◌∷◌, ◌++◌, nat_lt}

-- a site, and the cells that abut from it
pub record Cluster (A : Type 0) : Type 0 where
  pub site : ℕ
  pub cells : List A

-- reach P S: from the start of the cells P to where the cells S start when they abut
-- best cs: the best site of the cells cs as one cluster
module _ {A : Type 0} (reach : List A → List A → ℕ) (best : List A → ℕ) where
  -- cells as one cluster at their best site
  abbrev pub at_best : List A → Cluster A
  at_best cs = record { site = best cs; cells = cs }

  -- a cluster after others: while it starts before the end of the one before it, the two are joined
  abbrev pub push : Cluster A → List (Cluster A) → List (Cluster A)
  push k [] = k ∷ []
  push k (b ∷ rest) =
      if nat_lt k.site (b.site + reach b.cells k.cells)
      then push (at_best (b.cells ++ k.cells)) rest
      else k ∷ b ∷ rest

  -- cells taken one after another on top of the clusters that are there
  abbrev pub settle : List A → List (Cluster A) → List (Cluster A)
  settle [] stack = stack
  settle (c ∷ cs) stack = settle cs (push (at_best (c ∷ [])) stack)

-- the sites of all cells, from the first on; abut cs x: the sites of cells that abut from x
abbrev pub laid : {A : Type 0} → (List A → ℕ → List ℕ) → List (Cluster A) → List ℕ
laid abut [] = []
laid abut (k ∷ rest) = laid abut rest ++ abut k.cells k.site
