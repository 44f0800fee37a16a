-- What is left of the parts of some bytes, and of the words of a line.
use Rattle.std.specs.Prelude.{ℕ, cond, List, length, Some, None, Option, codes, nat_lt}
use Rattle.std.specs.List.{position_or_len}
use Rattle.rowtext.specs.declared.parts.Marks.{Marks}
use Rattle.rowtext.specs.declared.parts.Marks.TheVariants.{LineEnd, Blanks}
use Rattle.rowtext.specs.declared.parts.Parts.{Parts}
use Rattle.rowtext.specs.declared.parts.Words.{Words}
use Rattle.rowtext.specs.Text.{among, parts, filled}

-- the bytes that end a part
abbrev pub marks_of : Marks → List ℕ
marks_of LineEnd = codes "\n"
marks_of Blanks = codes " \t\r"

-- the place of the first of the marks, if one is there
abbrev pub first_mark : List ℕ → List ℕ → Option ℕ
first_mark marks bytes =
    let place = position_or_len (among marks) bytes in
    cond (nat_lt place (length bytes)) (Some place) None

-- the parts of the bytes that are left
abbrev pub parts_left : Parts → List (List ℕ)
parts_left ps = parts (marks_of ps.marks) ps.rest.now

-- the words of what is left of the line
abbrev pub words_left : Words → List (List ℕ)
words_left ws = filled (parts_left ws.0)
