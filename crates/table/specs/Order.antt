-- Ordered tables of ranked records.
use Rattle.std.specs.Prelude.{◌≡◌, ℕ, Bool, true, List, [], ◌∷◌}
use Rattle.std.specs.List.{prefix_len, AllByRecursion}

-- every record is ahead of all that follow it
abbrev pub Ordered : {X : Type 0} → (X → X → Bool) → List X → Type 0
Ordered ahead [] = Unit {0}
Ordered ahead (x ∷ xs) = AllByRecursion (λ y. ahead x y ≡ true) xs × Ordered ahead xs

-- how many records, from the first on, are ahead of the key: where it stands, or would stand
abbrev pub rank_of : {X : Type 0} → (X → X → Bool) → List X → X → ℕ
rank_of ahead xs key = prefix_len (λ x. ahead x key) xs
