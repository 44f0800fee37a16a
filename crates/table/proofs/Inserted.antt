-- A record put into an ordered table at its place.
use Rattle.std.proofs.Common.{◌≡◌, ℕ, suc, ◌+◌, Bool, true, false, cond, List, [], ◌∷◌, ◌++◌, take, drop, refl, ap, ◌∙◌, arith}
use Rattle.std.specs.List.{insert, AllByRecursion}
use Rattle.table.specs.Order.{Ordered, rank_of}

-- the table with a key behind the records that are ahead of it, record by record
abbrev pub put_in : {X : Type 0} → (X → X → Bool) → X → List X → List X
put_in ahead k [] = k ∷ []
put_in ahead k (x ∷ xs) = cond (ahead x k) (x ∷ put_in ahead k xs) (k ∷ x ∷ xs)

module _ {X : Type 0} (ahead : X → X → Bool) (k : X) where
  insert_by : (x : X) (xs : List X) (n : ℕ) (b : Bool) → insert xs n k ≡ put_in ahead k xs → insert (x ∷ xs) (cond b (1 + n) 0) k ≡ cond b (x ∷ put_in ahead k xs) (k ∷ x ∷ xs)
  insert_by x xs n true rest = let one : 1 + n ≡ suc n = omega arith in ap (λ m. take m (x ∷ xs) ++ k ∷ drop m (x ∷ xs)) one ∙ ap (λ l. x ∷ l) rest
  insert_by x xs n false rest = refl

  pub inserted_is : (xs : List X) → insert xs (rank_of ahead xs k) k ≡ put_in ahead k xs
  inserted_is [] = refl
  inserted_is (x ∷ xs) = insert_by x xs (rank_of ahead xs k) (ahead x k) (inserted_is xs)

  put_all_by : (P : X → Type 0) (x : X) (xs : List X) (b : Bool) → P k → AllByRecursion P (x ∷ xs) → AllByRecursion P (put_in ahead k xs) → AllByRecursion P (cond b (x ∷ put_in ahead k xs) (k ∷ x ∷ xs))
  put_all_by P x xs true own all rest = (all.0, rest)
  put_all_by P x xs false own all rest = (own, all)

  -- what holds of the key and of all records holds of all then
  pub put_all : (P : X → Type 0) (xs : List X) → P k → AllByRecursion P xs → AllByRecursion P (put_in ahead k xs)
  put_all P [] own all = (own, tt)
  put_all P (x ∷ xs) own all = put_all_by P x xs (ahead x k) own all (put_all P xs own all.1)

  module _ (chain : (a b c : X) → ahead a b ≡ true → ahead b c ≡ true → ahead a c ≡ true) where
    behind_all : (x : X) (xs : List X) → ahead k x ≡ true → AllByRecursion (λ y. ahead x y ≡ true) xs → AllByRecursion (λ y. ahead k y ≡ true) xs
    behind_all x [] first all = tt
    behind_all x (y ∷ ys) first all = (chain k x y first all.0, behind_all x ys first all.1)

    ordered_by : (x : X) (xs : List X) (b : Bool) → ahead x k ≡ b → (ahead x k ≡ false → ahead k x ≡ true) → Ordered ahead (x ∷ xs) → Ordered ahead (put_in ahead k xs) → Ordered ahead (cond b (x ∷ put_in ahead k xs) (k ∷ x ∷ xs))
    ordered_by x xs true is total ordered rest = (put_all (λ y. ahead x y ≡ true) xs is ordered.0, rest)
    ordered_by x xs false is total ordered rest = ((total is, behind_all x xs (total is) ordered.0), ordered)

    -- a key that ties with no record leaves the table ordered
    pub put_ordered : (xs : List X) → AllByRecursion (λ x. ahead x k ≡ false → ahead k x ≡ true) xs → Ordered ahead xs → Ordered ahead (put_in ahead k xs)
    put_ordered [] total ordered = (tt, tt)
    put_ordered (x ∷ xs) total ordered = ordered_by x xs (ahead x k) refl total.0 ordered (put_ordered xs total.1 ordered.1)

-- A relation that goes both ways, between any two records of a table.
abbrev pub Pairs : {X : Type 0} → (X → X → Type 0) → List X → Type 0
Pairs R [] = Unit {0}
Pairs R (x ∷ xs) = AllByRecursion (R x) xs × Pairs R xs

module _ {X : Type 0} (ahead : X → X → Bool) (k : X) (R : X → X → Type 0) (turn : (x y : X) → R x y → R y x) where
  pairs_by : (x : X) (xs : List X) (b : Bool) → AllByRecursion (R k) (x ∷ xs) → Pairs R (x ∷ xs) → Pairs R (put_in ahead k xs) → Pairs R (cond b (x ∷ put_in ahead k xs) (k ∷ x ∷ xs))
  pairs_by x xs true own pairs rest = (put_all ahead k (R x) xs (turn k x own.0) pairs.0, rest)
  pairs_by x xs false own pairs rest = (own, pairs)

  -- it holds with a key more, where it holds between the key and every record
  pub put_pairs : (xs : List X) → AllByRecursion (R k) xs → Pairs R xs → Pairs R (put_in ahead k xs)
  put_pairs [] own pairs = (tt, tt)
  put_pairs (x ∷ xs) own pairs = pairs_by x xs (ahead x k) own pairs (put_pairs xs own.1 pairs.1)
