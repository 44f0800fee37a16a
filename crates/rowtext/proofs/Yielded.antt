-- Iterators that show what is left, and the first part that is not empty.
use Rattle.std.proofs.Common.{◌≡◌, ℕ, Bool, true, false, cond, eqb, not, List, [], ◌∷◌, length, Some, None, Option, Bor, sym, ap, ◌∙◌, arith}
use Rattle.std.specs.Fn.{CalledAt}
use Rattle.std.specs.Iterator.{FindsItem, MakesProgress, Yields, YieldsFirstBy, YieldsFirstRef, item_count}
use Rattle.std.specs.List.{FoldsTo}
use Rattle.std.specs.Bool.{⊤}
use denote.Param.Members.{Mut}
use Rattle.rowtext.specs.declared.parts.Parts.{Parts}
use Rattle.rowtext.specs.Parts.{parts_left}
use Rattle.rowtext.specs.Text.{filled}

-- an item more is an item less to come
pub nearer : {S A B : Type 0} (view : A → B) (rest : S → List B) (s : S) (r : Option A) (t : S) → YieldsFirstBy view rest s r t → MakesProgress (λ _. ⊤) (item_count rest) s r t
nearer view rest s None t e = record { on = λ _. tt; keeps = tt; rests = λ _. tt }
nearer view rest s (Some x) t e = record { on = λ _. (tt, tt, omega (arith, ap length e)); keeps = tt; rests = λ _. tt }

module _ {F : Type 0} (g : Mut F (Bor (Bor (List ℕ)) × Unit {0}) Bool) (tells : (f : F) (x : Bor (List ℕ)) (b : Bool) (q : F) → CalledAt g f x b q → b ≡ not (eqb (length x.now) 0)) where
  all_passed : (xs : List (Bor (List ℕ))) (s t : Parts) (p q : F) → Yields (YieldsFirstRef parts_left) s xs t → FoldsTo (λ p x q. CalledAt g p x false q) p xs q → filled (parts_left s) ≡ filled (parts_left t)
  all_passed [] s t p q came calls = ap (λ ps. filled (parts_left ps)) came
  all_passed (x ∷ xs) s t p q came calls =
      ap filled came.1
      ∙ ap (λ t. cond t (x.now ∷ filled (parts_left came.0)) (filled (parts_left came.0))) (sym (tells p x false calls.0 calls.1))
      ∙ all_passed xs came.0 t calls.0 q came.2 calls.2

  -- the first part that is not empty is the first of the filled ones
  pub first_filled : (s u : Parts) (f : F) (r : Option (Bor (List ℕ))) → FindsItem (YieldsFirstRef parts_left) g s f r u → YieldsFirstRef (λ ps. filled (parts_left ps)) s r u
  first_filled s u f None found =
      let same = all_passed found.0 s found.2.0 f found.1 found.2.1 found.3 in
      (same ∙ ap filled found.2.2.0, ap filled found.2.2.1)
  first_filled s u f (Some x) found =
      let same = all_passed found.0 s found.2.0 f found.1 found.2.1 found.3 in
      same
      ∙ ap filled found.2.2
      ∙ ap (λ t. cond t (x.now ∷ filled (parts_left u)) (filled (parts_left u))) (sym (tells found.1 x true found.4.0 found.4.1))
