-- How long lines are.
use Rattle.std.proofs.Common.{ℕ, ◌^◌, ◌<◌, ◌≤◌, length, Some, None, decimal, Option, arith, length-append}
use Rattle.std.proofs.lemmas.Fmt.{length-decimal-le}
use Rattle.job.specs.declared.named.Name.{Name}
use Rattle.lines.specs.Texts.{ending, text}
use Rattle.lines.specs.declared.Line.{Line}
use Rattle.lines.specs.declared.Line.TheVariants.{Granted, Seated, Refused, Unreadable, Cell, Cost}

-- what ends a line has at most two bytes more than the longest name
ending_length : (name : Option Name) → length (ending name) ≤ 257
ending_length None = omega arith
ending_length (Some name) = let short = name.short in simp length-append (omega arith)

-- a number of 16 bits has at most five digits
five_digits : (n : ℕ) → n < 2 ^ 16 → length (decimal n) ≤ 5
five_digits n small = length-decimal-le 5 n (omega arith) (omega arith) (omega arith)

-- a number of 32 bits has at most ten
ten_digits : (n : ℕ) → n < 2 ^ 32 → length (decimal n) ≤ 10
ten_digits n small = length-decimal-le 10 n (omega arith) (omega arith) (omega arith)

-- a number of 64 bits has at most twenty
twenty_digits : (n : ℕ) → n < 2 ^ 64 → length (decimal n) ≤ 20
twenty_digits n small = length-decimal-le 20 n (omega arith) (omega arith) (omega arith)

-- the numbers of a line are within the widths that they are kept in
abbrev pub InWidths : Line → Type 0
InWidths (Granted index name) = index < 2 ^ 16
InWidths (Seated index line site rise name) = (index < 2 ^ 16) × (line < 2 ^ 32) × (site < 2 ^ 32) × (rise < 2 ^ 64)
InWidths (Refused index number name) = (index < 2 ^ 16) × (number < 2 ^ 32)
InWidths (Unreadable index number place) = (index < 2 ^ 16) × (number < 2 ^ 32) × (place < 2 ^ 16)
InWidths (Cell number line site) = (number < 2 ^ 32) × (line < 2 ^ 32) × (site < 2 ^ 32)
InWidths (Cost cost) = cost < 2 ^ 64

-- a line fits in every buffer that `write` takes
pub text_length : (line : Line) → InWidths line → length (text line) ≤ 320
text_length (Granted index name) w =
    simp length-append (omega (arith, five_digits index w, ending_length name))
text_length (Seated index line site rise name) w =
    simp length-append (omega (arith, five_digits index w.0, ten_digits line w.1, ten_digits site w.2, twenty_digits rise w.3, ending_length name))
text_length (Refused index number name) w =
    simp length-append (omega (arith, five_digits index w.0, ten_digits number w.1, ending_length name))
text_length (Unreadable index number place) w =
    simp length-append (omega (arith, five_digits index w.0, ten_digits number w.1, five_digits place w.2))
text_length (Cell number line site) w =
    simp length-append (omega (arith, ten_digits number w.0, ten_digits line w.1, ten_digits site w.2))
text_length (Cost cost) w = simp length-append (omega (arith, twenty_digits cost w))
