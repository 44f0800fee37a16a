-- Tests over lists, and what they say.
use Rattle.std.proofs.Common.{◌≡◌, ℕ, Bool, true, false, cond, not, ◌||◌, ◌⊎◌, List, [], ◌∷◌, is_some, Some, None, Option, refl, ap, inl, inr, arith}
use Rattle.std.proofs.lemmas.Bool.{and_parts, and_from, or_parts, or_from, or_left, or_right, or_cases, not-true}
use Rattle.std.specs.List.{AllByRecursion, list_all, list_any}
use Rattle.table.specs.Order.{Ordered}
use Rattle.table.proofs.Inserted.{Pairs, put_in}
use Rattle.floor.specs.Formed.{every_pair}

pub every_all : {X : Type 0} (test : X → Bool) (xs : List X) → list_all test xs ≡ true → AllByRecursion (λ x. test x ≡ true) xs
every_all test [] e = tt
every_all test (x ∷ xs) e = let parts = and_parts (test x) (list_all test xs) e in (parts.0, every_all test xs parts.1)

pub all_every : {X : Type 0} (test : X → Bool) (xs : List X) → AllByRecursion (λ x. test x ≡ true) xs → list_all test xs ≡ true
all_every test [] h = refl
all_every test (x ∷ xs) h = and_from (test x) (list_all test xs) h.0 (all_every test xs h.1)

pub pairs_all : {X : Type 0} (test : X → X → Bool) (xs : List X) → every_pair test xs ≡ true → Pairs (λ x y. test x y ≡ true) xs
pairs_all test [] e = tt
pairs_all test (x ∷ xs) e = let parts = and_parts (list_all (test x) xs) (every_pair test xs) e in (every_all (test x) xs parts.0, pairs_all test xs parts.1)

pub all_pairs : {X : Type 0} (test : X → X → Bool) (xs : List X) → Pairs (λ x y. test x y ≡ true) xs → every_pair test xs ≡ true
all_pairs test [] h = refl
all_pairs test (x ∷ xs) h = and_from (list_all (test x) xs) (every_pair test xs) (all_every (test x) xs h.0) (all_pairs test xs h.1)

-- an order between any two is that the list is ordered
pub pairs_ordered : {X : Type 0} (ahead : X → X → Bool) (xs : List X) → Pairs (λ x y. ahead x y ≡ true) xs → Ordered ahead xs
pairs_ordered ahead [] h = tt
pairs_ordered ahead (x ∷ xs) h = (h.0, pairs_ordered ahead xs h.1)

pub ordered_pairs : {X : Type 0} (ahead : X → X → Bool) (xs : List X) → Ordered ahead xs → Pairs (λ x y. ahead x y ≡ true) xs
ordered_pairs ahead [] h = tt
ordered_pairs ahead (x ∷ xs) h = (h.0, ordered_pairs ahead xs h.1)

-- a check that found nothing
pub none_found : {X : Type 0} (o : Option X) → not (is_some o) ≡ true → o ≡ None
none_found None e = refl
none_found (Some x) e = let never : ◌≡◌ {A = ℕ} 0 1 = cc in absurd (omega arith)

pub nothing_some : {X : Type 0} (o : Option X) → o ≡ None → not (is_some o) ≡ true
nothing_some o e = ap (λ p. not (is_some p)) e

-- none of a list passes a test
pub none_any : {X : Type 0} (test : X → Bool) (xs : List X) → not (list_any test xs) ≡ true → AllByRecursion (λ x. test x ≡ false) xs
none_any test [] e = tt
none_any test (x ∷ xs) e =
    let parts = or_parts (test x) (list_any test xs) (not-true (test x || list_any test xs) e) in
    (parts.0, none_any test xs (ap not parts.1))

-- and the other way
pub any_none : {X : Type 0} (test : X → Bool) (xs : List X) → AllByRecursion (λ x. test x ≡ false) xs → list_any test xs ≡ false
any_none test [] h = refl
any_none test (x ∷ xs) h = or_from (test x) (list_any test xs) h.0 (any_none test xs h.1)

-- what one of a list passes, one passes with a key more
any_by : {X : Type 0} (ahead : X → X → Bool) (k : X) (test : X → Bool) (x : X) (xs : List X) (b : Bool) → (test x ≡ true) ⊎ (list_any test xs ≡ true) → (list_any test xs ≡ true → list_any test (put_in ahead k xs) ≡ true) → list_any test (cond b (x ∷ put_in ahead k xs) (k ∷ x ∷ xs)) ≡ true
any_by ahead k test x xs true (inl here) more = or_left (test x) (list_any test (put_in ahead k xs)) here
any_by ahead k test x xs true (inr there) more = or_right (test x) (list_any test (put_in ahead k xs)) (more there)
any_by ahead k test x xs false (inl here) more = or_right (test k) (test x || list_any test xs) (or_left (test x) (list_any test xs) here)
any_by ahead k test x xs false (inr there) more = or_right (test k) (test x || list_any test xs) (or_right (test x) (list_any test xs) there)

pub any_put : {X : Type 0} (ahead : X → X → Bool) (k : X) (test : X → Bool) (xs : List X) → list_any test xs ≡ true → list_any test (put_in ahead k xs) ≡ true
any_put ahead k test [] e = let never : ◌≡◌ {A = ℕ} 0 1 = cc in absurd (omega arith)
any_put ahead k test (x ∷ xs) e = any_by ahead k test x xs (ahead x k) (or_cases (test x) (list_any test xs) e) (any_put ahead k test xs)
