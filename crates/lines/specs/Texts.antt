-- The text of each line: a word and decimal numbers with spaces between them, the name if there is one, and a newline.
use Rattle.std.specs.Prelude.{ℕ, List, ◌++◌, Some, None, codes, decimal, Option}
use Rattle.std.specs.Option.{option_map}
use Rattle.job.specs.Reads.{name_bytes}
use Rattle.job.specs.declared.named.Name.{Name}
use Rattle.lines.specs.declared.Line.{Line}
use Rattle.lines.specs.declared.Line.TheVariants.{Granted, Seated, Refused, Unreadable, Cell, Cost}

-- the byte that ends a line, 0A
abbrev pub newline : List ℕ
newline = codes "\n"

-- a space, then a number without leading zeros
abbrev pub spaced : ℕ → List ℕ
spaced number = codes " " ++ decimal number

-- a spot: its line, then its site
abbrev pub spot : ℕ → ℕ → List ℕ
spot line site = spaced line ++ spaced site

-- the bytes of a name, if there is one
abbrev pub named : Option Name → Option (List ℕ)
named name = option_map name_bytes name

-- a space and the name, where there is one, and a newline
abbrev pub ending_text : Option (List ℕ) → List ℕ
ending_text None = newline
ending_text (Some name) = codes " " ++ name ++ newline

-- what ends a line with a name or none
abbrev pub ending : Option Name → List ℕ
ending name = ending_text (named name)

-- a record is granted: `K ok`, or `K ok NAME`
abbrev pub granted_text : ℕ → Option (List ℕ) → List ℕ
granted_text index name = decimal index ++ codes " ok" ++ ending_text name

-- a cell is seated: `K ok LINE SITE RISE`, or `K ok LINE SITE RISE NAME`
abbrev pub seated_text : ℕ → ℕ → ℕ → ℕ → Option (List ℕ) → List ℕ
seated_text index line site rise name = decimal index ++ codes " ok" ++ spot line site ++ spaced rise ++ ending_text name

-- a record is refused: `K no N`, or `K no N NAME`
abbrev pub refused_text : ℕ → ℕ → Option (List ℕ) → List ℕ
refused_text index number name = decimal index ++ codes " no" ++ spaced number ++ ending_text name

-- a record cannot be read: `K bad N P`
abbrev pub unreadable_text : ℕ → ℕ → ℕ → List ℕ
unreadable_text index number place = decimal index ++ codes " bad" ++ spaced number ++ spaced place ++ newline

-- where a cell stands: `NUMBER LINE SITE`
abbrev pub cell_text : ℕ → ℕ → ℕ → List ℕ
cell_text number line site = decimal number ++ spot line site ++ newline

-- what all standing cells cost: `cost C`
abbrev pub cost_text : ℕ → List ℕ
cost_text cost = codes "cost" ++ spaced cost ++ newline

-- the whole line
abbrev pub text : Line → List ℕ
text (Granted index name) = granted_text index (named name)
text (Seated index line site rise name) = seated_text index line site rise (named name)
text (Refused index number name) = refused_text index number (named name)
text (Unreadable index number place) = unreadable_text index number place
text (Cell number line site) = cell_text number line site
text (Cost cost) = cost_text cost
