-- How a word is read as a number, and the words of a line as numbers.
use Rattle.std.specs.Prelude.{ℕ, zero, suc, ◌+◌, ◌-◌, ◌*◌, ◌^◌, cond, List, [], ◌∷◌, Ok, Err, fold, Result, nat_lt}
use Rattle.std.specs.Str.{all_ascii_digits}
use Rattle.rowtext.specs.declared.trouble.Form.{Form}
use Rattle.rowtext.specs.declared.trouble.Reason.{Reason}
use Rattle.rowtext.specs.declared.trouble.Reason.TheVariants.{TooFewWords, TooManyWords, NotNumber, TooLarge}
use Rattle.rowtext.specs.Steps.{then}

-- the number with one digit more
abbrev pub and_digit : ℕ → ℕ → ℕ
and_digit value digit = 10 * value + (digit - 48)

-- the number that digits write
abbrev pub value_of : List ℕ → ℕ
value_of digits = fold and_digit 0 digits

-- the number that a word writes: its bytes are digits (a word is never empty), and it is below 2 ^
-- 32
abbrev pub number_of : List ℕ → Result ℕ Reason
number_of word =
    cond (all_ascii_digits word)
    (cond (nat_lt (value_of word) (2 ^ 32)) (Ok (value_of word)) (Err TooLarge))
    (Err NotNumber)

-- the numbers of so many words, word after word; then too few words, or too many for the form
abbrev pub numbers_of : Form → ℕ → List (List ℕ) → Result (List ℕ) Reason
numbers_of form zero [] = Ok []
numbers_of form zero (w ∷ ws) = Err (TooManyWords form)
numbers_of form (suc more) [] = Err (TooFewWords form)
numbers_of form (suc more) (w ∷ ws) =
    then (number_of w) (λ n. then (numbers_of form more ws) (λ ns. Ok (n ∷ ns)))
