-- The first part of bytes is what stands before the first mark.
use Rattle.std.proofs.Common.{◌≡◌, ℕ, ◌+◌, ◌<◌, ◌≤◌, true, false, cond, not, ltb, List, [], ◌∷◌, length, take, drop, Some, None, sym, refl, ap, subst, add-one, one-add, arith}
use Rattle.std.specs.List.{position_or_len, before_first, after_first, onto_first}
use Rattle.std.proofs.lemmas.Bool.Decides.{nat_tests}
use Rattle.rowtext.specs.Text.{among, parts}

-- bytes are cut after n: the first part, and the parts behind the mark
abbrev At : List ℕ → ℕ → List (List ℕ) → ℕ → List ℕ → Type 0
At marks b ps n bs = ps ≡ take n (b ∷ bs) ∷ parts marks (drop n bs)

first_is : (marks : List ℕ) (b : ℕ) (bs : List ℕ) → At marks b (parts marks (b ∷ bs)) (position_or_len (among marks) (b ∷ bs)) bs
first_is marks b [] =
    elim (among marks b) as (λ t. At marks b (cond t ([] ∷ []) (onto_first b [])) (cond (not t) 1 0) []) [ true ↦ refl | false ↦ refl ]
first_is marks b (x ∷ xs) =
    let n = position_or_len (among marks) (x ∷ xs) in
    let all = parts marks (x ∷ xs) in
    elim (among marks b) as (λ t. At marks b (cond t ([] ∷ all) (onto_first b all)) (cond (not t) (1 + n) 0) (x ∷ xs)) [
      | true ↦ refl
      | false ↦ subst (λ k. At marks b (onto_first b all) k (x ∷ xs)) (sym (one-add n)) (ap (onto_first b) (first_is marks x xs))
    ]

pub first_cut : (marks bs : List ℕ) → 0 < length bs → parts marks bs ≡ before_first (among marks) bs ∷ parts marks (after_first (among marks) bs)
first_cut marks [] some = absurd (omega arith)
first_cut marks (b ∷ bs) some = rw add-one (first_is marks b bs)

-- there are no more parts than bytes
length-onto_first : (b : ℕ) (ps : List (List ℕ)) → length (onto_first b ps) ≤ length ps + 1
length-onto_first b [] = omega arith
length-onto_first b (p ∷ ps) = omega arith

pub length-parts : (marks bs : List ℕ) → length (parts marks bs) ≤ length bs
length-parts marks [] = omega arith
length-parts marks (b ∷ bs) =
    let more = length-parts marks bs in
    elim (among marks b) as (λ t. length (cond t ([] ∷ parts marks bs) (onto_first b (parts marks bs))) ≤ length (b ∷ bs)) [
      | true ↦ omega arith
      | false ↦ omega (arith, length-onto_first b (parts marks bs))
    ]

-- the place of the first mark, from what `position` gives
pub at_mark : (n m i : ℕ) → cond (ltb n m) (Some n) None ≡ Some i → (n ≡ i) × (n < m)
at_mark n m i e = grind (arith, nat_tests)

pub no_mark : (n m : ℕ) → cond (ltb n m) (Some n) None ≡ None → m ≤ n
no_mark n m e = grind (arith, nat_tests)
