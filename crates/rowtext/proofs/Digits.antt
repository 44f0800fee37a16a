-- Digits as text, and the number that they write.
use Rattle.std.proofs.Common.{◌≡◌, ℕ, ◌^◌, ◌<◌, true, ◌&&◌, List, length, Ok, Err, Result, MatchResult, fold, refl, rules, arith}
use Rattle.std.proofs.lemmas.Bool.Decides.{nat_tests}
use Rattle.std.proofs.lemmas.Fmt.{IsAscii-from_digits}
use Rattle.std.proofs.lemmas.List.Recursion.{same_from_clauses}
use Rattle.std.proofs.lemmas.Str.{IsUtf8-from_ascii}
use Rattle.std.proofs.lemmas.Str.Parse.{IsNumeralModel, numerals_by_fold, tells_all_ascii_digits, parse_digits}
use Rattle.std.specs.Char.{is_ascii_digit}
use Rattle.std.specs.List.{list_all}
use Rattle.std.specs.Str.{IsUtf8, all_ascii_digits}
use Rattle.std.specs.Str.Parse.{ParsesUnsigned}
use Rattle.rowtext.specs.declared.trouble.Reason.{Reason}
use Rattle.rowtext.specs.declared.trouble.Reason.TheVariants.{NotNumber, TooLarge}
use Rattle.rowtext.specs.Numbers.{and_digit, number_of, value_of}

-- two words for one test
pub all_digits : (word : List ℕ) → list_all is_ascii_digit word ≡ all_ascii_digits word
all_digits = same_from_clauses (list_all is_ascii_digit) all_ascii_digits (λ b rest. is_ascii_digit b && rest) refl (λ _ _. refl) (λ _ _. refl)

own : IsNumeralModel (λ ds. all_ascii_digits ds ≡ true) value_of
own = numerals_by_fold _ tells_all_ascii_digits (fold and_digit) (search rules)

-- digits are text
pub digits_text : (word : List ℕ) → all_ascii_digits word ≡ true → IsUtf8 word
digits_text word digits = IsUtf8-from_ascii word (IsAscii-from_digits word (own.to word digits))

-- a word of digits is the number that they write, or too large
pub number_parsed : {E : Type 0} (word : List ℕ) (r : Result ℕ E) (q : Result ℕ Reason) → all_ascii_digits word ≡ true → 0 < length word → ParsesUnsigned 32 10 word r → MatchResult r (λ n. q ≡ Ok n) (λ _. q ≡ Err TooLarge) → q ≡ number_of word
number_parsed {E} word (Ok n) q digits some parses same =
    let fits = parse_digits own {E = E} 32 word (Ok n) parses digits in
    grind (arith, nat_tests)
number_parsed {E} word (Err e) q digits some parses same =
    let fits = parse_digits own {E = E} 32 word (Err e) parses digits in
    let large : ¬ (value_of word < 2 ^ 32) = λ small. fits (some, small) in
    grind (arith, nat_tests)

-- what is no text is no number
pub no_text : (word : List ℕ) → ¬ (IsUtf8 word) → Err NotNumber ≡ number_of word
no_text word untold =
    let other : ¬ (all_ascii_digits word ≡ true) = λ digits. untold (digits_text word digits) in
    grind (arith, nat_tests)
