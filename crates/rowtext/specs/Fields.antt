-- What is left of a line behind its first word.
use Rattle.std.specs.Prelude.{◌≡◌, ℕ, List, [], ◌∷◌, Ok, Err, Result, MatchResult}
use Rattle.std.specs.Borrow.{Bor}
use Rattle.rowtext.specs.declared.fields.Fields.{Fields}
use Rattle.rowtext.specs.declared.trouble.Form.{Form}
use Rattle.rowtext.specs.declared.trouble.Reason.{Reason}
use Rattle.rowtext.specs.declared.trouble.Reason.TheVariants.{TooFewWords, TooManyWords}
use Rattle.rowtext.specs.Forms.{behind_name}
use Rattle.rowtext.specs.Parts.{words_left}
use Rattle.rowtext.specs.Text.{words}

-- the words that are left
abbrev pub left : Fields → List (List ℕ)
left fields = words_left fields.words

-- r has the words of the line behind the form's name, or says why that name is not there
abbrev pub Behind : Form → List ℕ → Result Fields Reason → Type 0
Behind form line r =
    MatchResult r
    (λ fields. (fields.form ≡ form) × (behind_name form (words line) ≡ Ok (left fields)))
    (λ why. behind_name form (words line) ≡ Err why)

-- r is the first of the words that were left, and the others are left after; or none was left, and
-- none is
abbrev pub Takes : Fields → Fields → Result (Bor (List ℕ)) Reason → Type 0
Takes before after r =
    MatchResult r
    (λ word. left before ≡ word.now ∷ left after)
    (λ why. (left before ≡ []) × (left after ≡ []) × (why ≡ TooFewWords before.form))

-- that there are no words, or that they are too many for the form
abbrev pub ended : Form → List (List ℕ) → Result (Unit {0}) Reason
ended form [] = Ok tt
ended form (w ∷ ws) = Err (TooManyWords form)
