-- Permutations: std's, and mathlib's derivations of them, one from the other; and ordered lists that are permutations of one another are one.
use Rattle.std.proofs.Common.{◌≡◌, ℕ, zero, suc, ◌<◌, ◌⊎◌, Bool, true, List, [], ◌∷◌, length, get_or, set, sym, refl, ◌∙◌, subst, inl, inr, arith}
use Rattle.std.proofs.lemmas.List.Sorted.{IsPermutation-refl, IsPermutation-trans, IsPermutation-cons, IsPermutation-swap, IsPermutation-keeps}
use Rattle.std.specs.List.{swap, AllByRecursion}
use Rattle.std.specs.Prelude.{IsPermutation}
use mathlib.Core.List.{Permᴰ}
use mathlib.Core.List.Permᴰ as perm
use Rattle.table.specs.Order.{Ordered}

-- std's permutation of a derivation
pub permutation : {X : Type 0} {xs ys : List X} → Permᴰ xs ys → IsPermutation xs ys
permutation Permᴰ.nil = IsPermutation-refl []
permutation (Permᴰ.cons {a = a} {b = b} {l₁ = xs} {l₂ = ys} e d) =
    subst (λ y. IsPermutation (a ∷ xs) (y ∷ ys)) e (IsPermutation-cons a xs ys (permutation d))
permutation (Permᴰ.swap {a = a} {b = b} {a' = x} {b' = y} {l = l} e f) =
    subst (λ z. IsPermutation (a ∷ b ∷ l) (x ∷ z ∷ l)) e
    (subst (λ z. IsPermutation (a ∷ b ∷ l) (z ∷ a ∷ l)) f (IsPermutation-swap (a ∷ b ∷ l) (b ∷ a ∷ l) 0 1 (omega arith) (omega arith) refl))
permutation (Permᴰ.trans {l₁ = xs} {l₂ = ys} {l₃ = zs} d e) = IsPermutation-trans xs ys zs (permutation d) (permutation e)

-- one that changes places with an element behind it
one_put : {X : Type 0} (x : X) (xs : List X) (i : ℕ) (d : X) → i < length xs → Permᴰ (x ∷ xs) (get_or xs i d ∷ set xs i x)
one_put x [] i d within = absurd (omega arith)
one_put x (y ∷ ys) zero d within = Permᴰ.swap refl refl
one_put x (y ∷ ys) (suc i) d within =
    Permᴰ.trans (Permᴰ.swap refl refl)
    (Permᴰ.trans (Permᴰ.cons refl (one_put x ys i d (omega arith))) (Permᴰ.swap refl refl))

-- two that change places
two_put : {X : Type 0} (xs : List X) (i j : ℕ) (d : X) → i < length xs → j < length xs → Permᴰ xs (set (set xs i (get_or xs j d)) j (get_or xs i d))
two_put [] i j d p q = absurd (omega arith)
two_put (x ∷ xs) zero zero d p q = perm.refl (x ∷ xs)
two_put (x ∷ xs) zero (suc j) d p q = one_put x xs j d (omega arith)
two_put (x ∷ xs) (suc i) zero d p q = one_put x xs i d (omega arith)
two_put (x ∷ xs) (suc i) (suc j) d p q = Permᴰ.cons refl (two_put xs i j d (omega arith) (omega arith))

-- an exchange
exchanged : {X : Type 0} (xs : List X) (i j : ℕ) → i < length xs → j < length xs → Permᴰ xs (swap xs i j)
exchanged [] i j p q = absurd (omega arith)
exchanged (x ∷ xs) i j p q = two_put (x ∷ xs) i j x p q

-- a derivation of std's permutation
pub derivation : {X : Type 0} (xs ys : List X) → IsPermutation xs ys → Permᴰ xs ys
derivation xs ys = IsPermutation-keeps xs (Permᴰ xs) (perm.refl xs) (λ l i j p q d. Permᴰ.trans d (exchanged l i j p q)) ys

-- one of a list
abbrev In : {X : Type 0} → X → List X → Type 0
In x [] = ⊥
In x (y ∷ ys) = (x ≡ y) ⊎ In x ys

-- what is in a list is in a permutation of it
carried : {X : Type 0} (x : X) {xs ys : List X} → Permᴰ xs ys → In x xs → In x ys
carried x Permᴰ.nil here = here
carried x (Permᴰ.cons e d) (inl is) = inl (is ∙ e)
carried x (Permᴰ.cons e d) (inr later) = inr (carried x d later)
carried x (Permᴰ.swap e f) (inl is) = inr (inl (is ∙ e))
carried x (Permᴰ.swap e f) (inr (inl is)) = inl (is ∙ f)
carried x (Permᴰ.swap e f) (inr (inr later)) = inr (inr later)
carried x (Permᴰ.trans d e) here = carried x e (carried x d here)

-- what holds of all of a list holds of one of it
holds_of : {X : Type 0} (P : X → Type 0) (x : X) (xs : List X) → AllByRecursion P xs → In x xs → P x
holds_of P x [] all here = absurd here
holds_of P x (y ∷ ys) all (inl is) = subst P (sym is) all.0
holds_of P x (y ∷ ys) all (inr later) = holds_of P x ys all.1 later

module _ {X : Type 0} (ahead : X → X → Bool) (once : (x y : X) → ahead x y ≡ true → ahead y x ≡ true → ⊥) where
  -- two ordered lists with the same elements have the same first ..
  same_first : (x y : X) (xs ys : List X) → Ordered ahead (x ∷ xs) → Ordered ahead (y ∷ ys) → In x (y ∷ ys) → In y (x ∷ xs) → x ≡ y
  same_first x y xs ys a b (inl is) there = is
  same_first x y xs ys a b (inr later) (inl is) = sym is
  same_first x y xs ys a b (inr later) (inr other) =
      absurd (once x y (holds_of (λ z. ahead x z ≡ true) y xs a.0 other) (holds_of (λ z. ahead y z ≡ true) x ys b.0 later))

  -- .. and the others of one are others of the other
  others : (x y : X) (xs ys : List X) → x ≡ y → Ordered ahead (x ∷ xs) → (z : X) → In z xs → In z (y ∷ ys) → In z ys
  others x y xs ys same a z here (inl is) =
      let again : ahead x x ≡ true = subst (λ w. ahead x w ≡ true) (is ∙ sym same) (holds_of (λ w. ahead x w ≡ true) z xs a.0 here) in
      absurd (once x x again again)
  others x y xs ys same a z here (inr later) = later

  -- so they are one
  one_list : (xs ys : List X) → Ordered ahead xs → Ordered ahead ys → ((z : X) → In z xs → In z ys) → ((z : X) → In z ys → In z xs) → xs ≡ ys
  one_list [] [] a b to back = refl
  one_list [] (y ∷ ys) a b to back = absurd (back y (inl refl))
  one_list (x ∷ xs) [] a b to back = absurd (to x (inl refl))
  one_list (x ∷ xs) (y ∷ ys) a b to back =
      let first = same_first x y xs ys a b (to x (inl refl)) (back y (inl refl)) in
      let rest =
      one_list xs ys a.1 b.1 (λ z here. others x y xs ys first a z here (to z (inr here)))
      (λ z here. others y x ys xs (sym first) b z here (back z (inr here))) in
      λ i. first i ∷ rest i

  -- ordered permutations of one another are one
  pub one_order : (xs ys : List X) → Permᴰ xs ys → Ordered ahead xs → Ordered ahead ys → xs ≡ ys
  one_order xs ys d a b = one_list xs ys a b (λ z. carried z d) (λ z. carried z (perm.symm d))
