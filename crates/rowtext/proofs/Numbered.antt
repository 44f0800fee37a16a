-- The numbers of a line, one word after another.
use Rattle.std.proofs.Common.{◌≡◌, ℕ, suc, ◌+◌, ◌-◌, ◌<◌, List, [], ◌∷◌, ◌++◌, length, take, set, Ok, Err, Result, true, not, ◌==◌, subst, sym, refl, ap, ◌∙◌, append_assoc, arith}
use Rattle.std.proofs.lemmas.Bool.Decides.{nat_tests}
use Rattle.std.proofs.lemmas.List.Elements.{filter_passes}
use Rattle.std.proofs.lemmas.List.{take_more_set, length-set}
use Rattle.rowtext.specs.declared.trouble.Form.{Form}
use Rattle.rowtext.specs.declared.trouble.Reason.{Reason}
use Rattle.rowtext.specs.declared.trouble.Reason.TheVariants.{TooFewWords}
use Rattle.rowtext.specs.Numbers.{number_of, numbers_of}
use Rattle.std.specs.List.{All}
use Rattle.rowtext.specs.Text.{filled}
use Rattle.rowtext.specs.Steps.{then}

-- a word is never empty
pub some_bytes : (ps : List (List ℕ)) (w : List ℕ) (ws : List (List ℕ)) → filled ps ≡ w ∷ ws → 0 < length w
some_bytes ps w ws e =
    let passes = subst (λ l. All (λ part. not (length part == 0) ≡ true) l) e (filter_passes _ ps) 0 [] (omega arith) in
    grind (arith, nat_tests)

-- what is read after the values, behind them
abbrev pub behind : {A E : Type 0} → List A → Result (List A) E → Result (List A) E
behind values read = then read (λ more. Ok (values ++ more))

pub behind_more : {A E : Type 0} (values : List A) (v : A) (read : Result (List A) E) → behind values (then read (λ more. Ok (v ∷ more))) ≡ behind (values ++ v ∷ []) read
behind_more values v (Ok more) = ap Ok (sym (append_assoc values (v ∷ []) more))
behind_more values v (Err e) = refl

-- the first i of the numbers are read, and the others are still to come
pub record Sofar (form : Form) (total : ℕ) (all : List (List ℕ)) (i : ℕ) (values : List ℕ) (rest : List (List ℕ)) : Type 0 where
  pub long : length values ≡ total
  pub reads : behind (take i values) (numbers_of form (total - i) rest) ≡ numbers_of form total all

module _ {form : Form} {total : ℕ} {all : List (List ℕ)} {i : ℕ} {values : List ℕ} {rest : List (List ℕ)} (sofar : Sofar form total all i values rest) where
  -- the same, where so many are to come and the words are written out
  here : (n : ℕ) (ws : List (List ℕ)) → total - i ≡ n → rest ≡ ws → behind (take i values) (numbers_of form n ws) ≡ numbers_of form total all
  here n ws k e = sym (λ j. behind (take i values) (numbers_of form (k j) (e j))) ∙ sofar.reads

  pub too_few : i < total → rest ≡ [] → Err (TooFewWords form) ≡ numbers_of form total all
  too_few more e = here (suc (total - (i + 1))) [] (omega arith) e

  pub unread : i < total → (w : List ℕ) (ws : List (List ℕ)) (why : Reason) → rest ≡ w ∷ ws → Err why ≡ number_of w → Err why ≡ numbers_of form total all
  unread more w ws why e bad =
      let k = total - (i + 1) in
      ap (λ r. behind (take i values) (then r (λ n. then (numbers_of form k ws) (λ ns. Ok (n ∷ ns))))) bad ∙ here (suc k) (w ∷ ws) (omega arith) e

  pub one_more : i < total → (w : List ℕ) (ws : List (List ℕ)) (v : ℕ) → rest ≡ w ∷ ws → Ok v ≡ number_of w → Sofar form total all (i + 1) (set values i v) ws
  one_more more w ws v e good =
      let k = total - (i + 1) in
      record {
        long = simp length-set sofar.long;
        reads = ap (λ vs. behind vs (numbers_of form k ws)) (take_more_set values i v (omega (arith, sofar.long)))
            ∙ sym (behind_more (take i values) v (numbers_of form k ws))
            ∙ ap (λ r. behind (take i values) (then r (λ n. then (numbers_of form k ws) (λ ns. Ok (n ∷ ns))))) good
            ∙ here (suc k) (w ∷ ws) (omega arith) e;
      }
