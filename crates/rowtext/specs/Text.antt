-- How a text falls into lines, and a line into words.
use Rattle.std.specs.Prelude.{ℕ, Bool, cond, not, List, [], ◌∷◌, length, codes, ◌==◌}
use Rattle.std.specs.List.{filter, list_any, onto_first}

-- whether b is one of the marks
abbrev pub among : List ℕ → ℕ → Bool
among marks b = list_any (λ m. m == b) marks

-- the parts of bytes: each mark ends one, and the last may lack its mark
abbrev pub parts : List ℕ → List ℕ → List (List ℕ)
parts marks [] = []
parts marks (b ∷ bs) = cond (among marks b) ([] ∷ parts marks bs) (onto_first b (parts marks bs))

-- those of the parts that are not empty
abbrev pub filled : List (List ℕ) → List (List ℕ)
filled parts = filter (λ part. not (length part == 0)) parts

-- the parts that end with the byte 10, the line end
abbrev pub lines : List ℕ → List (List ℕ)
lines text = parts (codes "\n") text

-- the filled parts between blanks: spaces, tabs and carriage returns
abbrev pub words : List ℕ → List (List ℕ)
words line = filled (parts (codes " \t\r") line)
