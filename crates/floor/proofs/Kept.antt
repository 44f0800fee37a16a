-- What a filter keeps of a list, of any two of it, and of a list with one more.
use Rattle.std.proofs.Common.{◌≡◌, ℕ, zero, suc, Bool, true, false, cond, List, [], ◌∷◌, ◌++◌, take, drop, filter, sym, refl, ap, ◌∙◌, subst}
use mathlib.Core.Path.{fun_ext}
use Rattle.std.proofs.lemmas.List.Elements.{filter-append}
use Rattle.std.proofs.ByRecursion.{All-weaker, all_kept_by}
use Rattle.std.proofs.lemmas.List.{take-append-drop}
use Rattle.std.proofs.lemmas.Bool.{cond-true, cond-false, cond_both, false_from_ne_true, both_ways}
use Rattle.std.specs.List.{insert, AllByRecursion}
use Rattle.table.specs.Order.{Ordered}
use Rattle.table.proofs.Inserted.{Pairs}
use Rattle.floor.proofs.Tests.{pairs_ordered, ordered_pairs}

-- two facts of each give a third
pub all_with : {X : Type 0} (P Q S : X → Type 0) → ((x : X) → P x → Q x → S x) → (xs : List X) → AllByRecursion P xs → AllByRecursion Q xs → AllByRecursion S xs
all_with P Q S give [] ps qs = tt
all_with P Q S give (x ∷ xs) ps qs = (give x ps.0 qs.0, all_with P Q S give xs ps.1 qs.1)

-- two facts of any two give a third
pub pairs_with : {X : Type 0} (R S T : X → X → Type 0) → ((x y : X) → R x y → S x y → T x y) → (xs : List X) → Pairs R xs → Pairs S xs → Pairs T xs
pairs_with R S T give [] rs ss = tt
pairs_with R S T give (x ∷ xs) rs ss = (all_with (R x) (S x) (T x) (give x) xs rs.0 ss.0, pairs_with R S T give xs rs.1 ss.1)

-- a weaker fact of any two
pub pairs_weaker : {X : Type 0} (R T : X → X → Type 0) → ((x y : X) → R x y → T x y) → (xs : List X) → Pairs R xs → Pairs T xs
pairs_weaker R T give xs rs = pairs_with R R T (λ x y r _. give x y r) xs rs rs

-- a fact of each, of both of any two
pub pairs_both : {X : Type 0} (P : X → Type 0) (xs : List X) → AllByRecursion P xs → Pairs (λ x y. P x × P y) xs
pairs_both P [] h = tt
pairs_both P (x ∷ xs) h = (All-weaker P (λ y. P x × P y) (λ y own. (h.0, own)) xs h.1, pairs_both P xs h.1)

-- what is left of a list in order is in order
pub ordered_drop : {X : Type 0} (ahead : X → X → Bool) (n : ℕ) (xs : List X) → Ordered ahead xs → Ordered ahead (drop n xs)
ordered_drop ahead zero xs h = h
ordered_drop ahead (suc n) [] h = tt
ordered_drop ahead (suc n) (x ∷ xs) h = ordered_drop ahead n xs h.1

module _ {X : Type 0} (p : X → Bool) where
  -- one that passes, and one that does not
  pub kept_yes : (x : X) (xs : List X) → p x ≡ true → filter p (x ∷ xs) ≡ x ∷ filter p xs
  kept_yes x xs e = cond-true (p x) (x ∷ filter p xs) (filter p xs) e

  pub kept_no : (x : X) (xs : List X) → p x ≡ false → filter p (x ∷ xs) ≡ filter p xs
  kept_no x xs e = cond-false (p x) (x ∷ filter p xs) (filter p xs) e

  -- none passes
  pub kept_none : (xs : List X) → AllByRecursion (λ x. p x ≡ false) xs → filter p xs ≡ []
  kept_none [] h = refl
  kept_none (x ∷ xs) h = kept_no x xs h.0 ∙ kept_none xs h.1

  -- a fact of those that pass, there and back
  pub passing_kept : (P : X → Type 0) (xs : List X) → AllByRecursion (λ x. p x ≡ true → P x) xs → AllByRecursion P (filter p xs)
  passing_kept P [] h = tt
  passing_kept P (x ∷ xs) h =
      cond_both (p x) (x ∷ filter p xs) (filter p xs) (AllByRecursion P) (λ yes. (h.0 yes, passing_kept P xs h.1)) (λ no. passing_kept P xs h.1)

  tail_by : (P : X → Type 0) (x : X) (xs : List X) (b : Bool) → AllByRecursion P (cond b (x ∷ xs) xs) → AllByRecursion P xs
  tail_by P x xs true h = h.1
  tail_by P x xs false h = h

  pub kept_passing : (P : X → Type 0) (xs : List X) → AllByRecursion P (filter p xs) → AllByRecursion (λ x. p x ≡ true → P x) xs
  kept_passing P [] h = tt
  kept_passing P (x ∷ xs) h = (λ yes. (subst (AllByRecursion P) (kept_yes x xs yes) h).0, kept_passing P xs (tail_by P x (filter p xs) (p x) h))

  -- a fact of any two of a list holds of any two that are kept
  pub pairs_kept : (R : X → X → Type 0) (xs : List X) → Pairs R xs → Pairs R (filter p xs)
  pairs_kept R [] h = tt
  pairs_kept R (x ∷ xs) h =
      cond_both (p x) (x ∷ filter p xs) (filter p xs) (Pairs R) (λ yes. (all_kept_by p (R x) xs h.0, pairs_kept R xs h.1)) (λ no. pairs_kept R xs h.1)

  -- so a list in order stays in order
  pub kept_ordered : (ahead : X → X → Bool) (xs : List X) → Ordered ahead xs → Ordered ahead (filter p xs)
  kept_ordered ahead xs h = pairs_ordered ahead (filter p xs) (pairs_kept (λ x y. ahead x y ≡ true) xs (ordered_pairs ahead xs h))

  pair_tail_by : (R : X → X → Type 0) (x : X) (xs : List X) (b : Bool) → Pairs R (cond b (x ∷ xs) xs) → Pairs R xs
  pair_tail_by R x xs true h = h.1
  pair_tail_by R x xs false h = h

  -- what passes a second test stays where all of it passes the first
  pub kept_past : (q : X → Bool) (xs : List X) → AllByRecursion (λ x. q x ≡ true → p x ≡ true) xs → filter q (filter p xs) ≡ filter q xs
  kept_past q [] h = refl
  kept_past q (x ∷ xs) h =
      cond_both (p x) (x ∷ filter p xs) (filter p xs) (λ l. filter q l ≡ filter q (x ∷ xs))
      (λ yes. ap (λ l. cond (q x) (x ∷ l) l) (kept_past q xs h.1))
      (λ no. kept_past q xs h.1 ∙ sym (cond-false (q x) (x ∷ filter q xs) (filter q xs) (false_from_ne_true (q x) (λ on. both_ways (p x) no (h.0 on)))))

  -- of the first and all others that are kept, and of any two of the others
  pub pairs_first : (R : X → X → Type 0) (x : X) (xs : List X) → p x ≡ true → Pairs R (filter p (x ∷ xs)) → AllByRecursion (λ y. p y ≡ true → R x y) xs
  pairs_first R x xs e h = kept_passing (R x) xs (subst (Pairs R) (kept_yes x xs e) h).0

  pub pairs_others : (R : X → X → Type 0) (x : X) (xs : List X) → Pairs R (filter p (x ∷ xs)) → Pairs R (filter p xs)
  pairs_others R x xs h = pair_tail_by R x (filter p xs) (p x) h

  -- of a list cut in two
  pub kept_parts : (n : ℕ) (xs : List X) → filter p xs ≡ filter p (take n xs) ++ filter p (drop n xs)
  kept_parts n xs = ap (filter p) (sym (take-append-drop n xs)) ∙ filter-append p (take n xs) (drop n xs)

  -- of a list with one more
  pub kept_more : (n : ℕ) (k : X) (xs : List X) → p k ≡ true → filter p (insert xs n k) ≡ filter p (take n xs) ++ (k ∷ filter p (drop n xs))
  kept_more n k xs e = filter-append p (take n xs) (k ∷ drop n xs) ∙ ap (λ l. filter p (take n xs) ++ l) (kept_yes k (drop n xs) e)

  pub kept_same : (n : ℕ) (k : X) (xs : List X) → p k ≡ false → filter p (insert xs n k) ≡ filter p xs
  kept_same n k xs e =
      filter-append p (take n xs) (k ∷ drop n xs) ∙ (ap (λ l. filter p (take n xs) ++ l) (kept_no k (drop n xs) e) ∙ sym (kept_parts n xs))

-- two tests with one answer keep the same
pub kept_alike : {X : Type 0} (p q : X → Bool) (xs : List X) → ((x : X) → p x ≡ q x) → filter p xs ≡ filter q xs
kept_alike p q xs same = ap (λ t. filter t xs) (fun_ext same)
