-- A list taken row by row, where each of it is on exactly one row.
use Rattle.std.proofs.Common.{◌≡◌, ℕ, ◌+◌, ◌*◌, ◌≤◌, Bool, true, false, cond, List, [], ◌∷◌, length, filter, sym, ap, ◌∙◌, ⊎_elim, arith}
use mathlib.Core.Path.{fun_ext}
use Rattle.std.proofs.ByRecursion.{All-weaker}
use Rattle.std.proofs.lemmas.Bool.{cases_Bool}
use Rattle.std.proofs.lemmas.List.Sums.{sum_by-cons, length-filter}
use Rattle.std.specs.List.{AllByRecursion, sum_by, count_by}
use Rattle.floor.proofs.Kept.{kept_yes, kept_no, kept_none, kept_passing}

module _ {R : Type 0} (a b : R → ℕ) where
  -- a sum of numbers none of which is greater is no greater
  pub sums_le : (rs : List R) → AllByRecursion (λ r. a r ≤ b r) rs → sum_by a rs ≤ sum_by b rs
  sums_le [] h = omega arith
  sums_le (r ∷ rs) h =
      let one = h.0 in
      let rest = sums_le rs h.1 in
      let low = sum_by-cons a r rs in
      let high = sum_by-cons b r rs in
      omega arith

  -- where it is no less either, each of the numbers is the same
  pub sums_tight : (rs : List R) → AllByRecursion (λ r. a r ≤ b r) rs → sum_by b rs ≤ sum_by a rs → AllByRecursion (λ r. b r ≡ a r) rs
  sums_tight [] h up = tt
  sums_tight (r ∷ rs) h up =
      let one = h.0 in
      let rest = sums_le rs h.1 in
      let low = sum_by-cons a r rs in
      let high = sum_by-cons b r rs in
      (omega arith, sums_tight rs h.1 (omega arith))

  -- a sum of multiples and others
  sums_more : (n : ℕ) (rs : List R) → sum_by (λ r. n * a r + b r) rs ≡ n * sum_by a rs + sum_by b rs
  sums_more n [] = omega arith
  sums_more n (r ∷ rs) =
      let whole = sum_by-cons (λ q. n * a q + b q) r rs in
      let rest = sums_more n rs in
      let first = ap (λ k. n * k) (sum_by-cons a r rs) in
      let second = sum_by-cons b r rs in
      grind arith

-- a sum of nothing
sums_zero : {R : Type 0} (rs : List R) → sum_by (λ r. 0) rs ≡ 0
sums_zero [] = omega arith
sums_zero (r ∷ rs) = let whole = sum_by-cons (λ q. 0) r rs in let rest = sums_zero rs in omega arith

module _ {R : Type 0} (p : R → Bool) where
  -- how many pass with one more that passes ..
  pub count_yes : (r : R) (rs : List R) → p r ≡ true → count_by p (r ∷ rs) ≡ 1 + count_by p rs
  count_yes r rs e =
      let all = length-filter p (r ∷ rs) in
      let kept = ap length (kept_yes p r rs e) in
      let others = length-filter p rs in
      omega arith

  -- .. and with one that does not
  pub count_no : (r : R) (rs : List R) → p r ≡ false → count_by p (r ∷ rs) ≡ count_by p rs
  count_no r rs e = sym (length-filter p (r ∷ rs)) ∙ (ap length (kept_no p r rs e) ∙ length-filter p rs)

  -- .. and where none passes
  pub count_none : (rs : List R) → AllByRecursion (λ r. p r ≡ false) rs → count_by p rs ≡ 0
  count_none rs h = sym (length-filter p rs) ∙ ap length (kept_none p rs h)

  -- where one passes, what follows from any that passes holds
  found_one : (C : Type 0) (rs : List R) → 1 ≤ count_by p rs → AllByRecursion (λ r. p r ≡ true → C) rs → C
  found_one C [] some h = absurd (omega arith)
  found_one C (r ∷ rs) some h = ⊎_elim h.0 (λ no. let fewer = count_no r rs no in found_one C rs (omega arith) h.1) (cases_Bool (p r))

module _ {R X : Type 0} (on : R → X → Bool) (rows : List R) where
  -- on exactly one of the rows
  abbrev pub OnOne : X → Type 0
  OnOne x = count_by (λ r. on r x) rows ≡ 1

  -- one more adds its number to the sum of each row that it is on
  sum_on_more : (g : X → ℕ) (x : X) (xs : List X) (r : R) → sum_by g (filter (on r) (x ∷ xs)) ≡ g x * cond (on r x) 1 0 + sum_by g (filter (on r) xs)
  sum_on_more g x xs r = by_test (on r x)
    where
      by_test : (t : Bool) → sum_by g (cond t (x ∷ filter (on r) xs) (filter (on r) xs)) ≡ g x * cond t 1 0 + sum_by g (filter (on r) xs)
      by_test true = let more = sum_by-cons g x (filter (on r) xs) in omega arith
      by_test false = omega arith

  -- the sum of all is the sum over the rows of the sums of those on each
  pub sum_by_rows : (g : X → ℕ) (xs : List X) → AllByRecursion OnOne xs → sum_by g xs ≡ sum_by (λ r. sum_by g (filter (on r) xs)) rows
  sum_by_rows g [] one = sym (sums_zero rows)
  sum_by_rows g (x ∷ xs) one =
      let more = ap (λ h. sum_by h rows) (fun_ext (sum_on_more g x xs)) in
      let parts = sums_more (λ r. cond (on r x) 1 0) (λ r. sum_by g (filter (on r) xs)) (g x) rows in
      let own = ap (λ n. g x * n) one.0 in
      let rest = sum_by_rows g xs one.1 in
      let whole = sum_by-cons g x xs in
      omega arith

  -- what each row tells of each that is on it holds of all ..
  each_passing : (P : X → Type 0) (xs : List X) → AllByRecursion OnOne xs → AllByRecursion (λ r. AllByRecursion (λ x. on r x ≡ true → P x) xs) rows → AllByRecursion P xs
  each_passing P [] one h = tt
  each_passing P (x ∷ xs) one h = let own = one.0 in (
    found_one (λ r. on r x) (P x) rows (omega arith)
        (All-weaker (λ r. AllByRecursion (λ y. on r y ≡ true → P y) (x ∷ xs)) (λ r. on r x ≡ true → P x) (λ r all. all.0) rows h),
    each_passing P xs one.1
        (All-weaker (λ r. AllByRecursion (λ y. on r y ≡ true → P y) (x ∷ xs)) (λ r. AllByRecursion (λ y. on r y ≡ true → P y) xs) (λ r all. all.1) rows h),
  )

  -- .. and so does what holds of the list of those on each row
  pub each_by_rows : (P : X → Type 0) (xs : List X) → AllByRecursion OnOne xs → AllByRecursion (λ r. AllByRecursion P (filter (on r) xs)) rows → AllByRecursion P xs
  each_by_rows P xs one h =
      each_passing P xs one
      (All-weaker (λ r. AllByRecursion P (filter (on r) xs)) (λ r. AllByRecursion (λ x. on r x ≡ true → P x) xs) (λ r. kept_passing (on r) P xs) rows h)
