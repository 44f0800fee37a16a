-- What a whole text is read as: a task, or the first line that cannot be read and why.
--
-- A text is bytes. A line ends with the byte 10, and the last may lack it. The words of a line stand
-- between blanks: spaces, tabs and carriage returns. A line with no word is skipped, and so is a
-- comment, whose first word begins with `#`. Of the lines that count, the first is the measure, the
-- second the row, and each other one a cell:
--
--     measure squared          or: measure plain
--     row LINE LEFT RIGHT
--     cell NUMBER SITE LINE WIDTH WEIGHT
--
-- SITE and LINE are where the cell is wanted. A number is one or more decimal digits, and at most
-- 4294967295. Lines are read from first to last, and a line from its first word on: the first word,
-- each word after it, and too few or too many words where the reading comes to it. The first fault
-- is the answer, with its line's number from 1. Where the text ends before the measure or the row,
-- the number is that of the line after the last.
use Rattle.std.specs.Prelude.{◌≡◌, ℕ, List, [], ◌∷◌, length, Ok, Err, Result, MatchResult}
use Rattle.measure.specs.declared.name.MeasureName.{MeasureName}
use Rattle.row.specs.declared.Cell.{Cell}
use Rattle.row.specs.declared.Row.{Row}
use Rattle.rowtext.specs.declared.lines.Entry.{Entry}
use Rattle.rowtext.specs.declared.lines.Lines.{Lines}
use Rattle.rowtext.specs.declared.trouble.Form.{Form}
use Rattle.rowtext.specs.declared.trouble.Form.TheVariants as form
use Rattle.rowtext.specs.declared.trouble.Trouble.{Trouble}
use Rattle.rowtext.specs.declared.trouble.Trouble.TheVariants.{Unreadable as unreadable, TooLong, NoMemory, NotRead, NotWritten}
use Rattle.rowtext.specs.declared.read.Heading.{Heading}
use Rattle.rowtext.specs.declared.trouble.Reason.{Reason}
use Rattle.rowtext.specs.declared.trouble.Reason.TheVariants.{Missing}
use Rattle.rowtext.specs.declared.trouble.Unreadable.{Unreadable}
use Rattle.rowtext.specs.Forms.{measure_of, row_of, cell_of}
use Rattle.rowtext.specs.Lines.{Counted, counted, end_of, end, Next, Last}
use Rattle.rowtext.specs.Steps.{then}
use Rattle.rowtext.specs.Text.{lines}

-- what a text gives: a measure, a row and its cells
pub record Given : Type 0 where
  pub measure : MeasureName
  pub row : Row
  pub cells : List Cell

-- what is read of a line, with its number where it cannot be read
abbrev pub at_line : {A : Type 0} → ℕ → Result A Reason → Result A Unreadable
at_line n (Ok x) = Ok x
at_line n (Err why) = Err (record { line = n; reason = why })

-- what is read of the first of the lines, which is to be there
abbrev pub first_of : {A : Type 0} → Form → (List (List ℕ) → Result A Reason) → ℕ → List Counted
    → Result A Unreadable
first_of form read end [] = Err (record { line = end; reason = Missing form })
first_of form read end (l ∷ ls) = at_line l.number (read l.words)

-- the lines after the first
abbrev pub after_first : List Counted → List Counted
after_first [] = []
after_first (l ∷ ls) = ls

-- the cells of the lines, one to a line
abbrev pub cells_of : List Counted → Result (List Cell) Unreadable
cells_of [] = Ok []
cells_of (l ∷ ls) =
    then (at_line l.number (cell_of l.words)) (λ c. then (cells_of ls) (λ cs. Ok (c ∷ cs)))

-- the measure, the row and the cells of the lines, in this order
abbrev pub given_by : ℕ → List Counted → Result Given Unreadable
given_by end ls =
    then (first_of form.Measure measure_of end ls)
    (λ measure.
    then (first_of form.Row row_of end (after_first ls))
    (λ row.
    then (cells_of (after_first (after_first ls)))
    (λ cells. Ok (record { measure = measure; row = row; cells = cells }))))

-- what a text gives, or the first line that cannot be read and why
abbrev pub reads_as : List ℕ → Result Given Unreadable
reads_as text = given_by (end_of text) (counted 0 (lines text))

-- how many lines of a text count
abbrev pub lines_in : List ℕ → ℕ
lines_in text = length (counted 0 (lines text))

-- a heading and cells as what they give
abbrev pub given : List Cell → Heading → Given
given cells h = record { measure = h.measure; row = h.row; cells = cells }

-- r is what was told; or a buffer was full
abbrev pub Answers : {A B : Type 0} → (B → A) → Type 0 → Result A Unreadable → Result B Trouble
    → Type 0
Answers view full told (Ok x) = told ≡ Ok (view x)
Answers view full told (Err (unreadable why)) = told ≡ Err why
Answers view full told (Err NoMemory) = full
Answers view full told (Err TooLong) = ⊥
Answers view full told (Err NotRead) = ⊥
Answers view full told (Err NotWritten) = ⊥

-- r is the next line that counts, or that the text ends before it, and then all lines are read
abbrev pub Continues : Form → Lines → Lines → Result Entry Unreadable → Type 0
Continues form before after r =
    MatchResult r
    (Next before after)
    (λ why. Last before after × (why ≡ record { line = end before; reason = Missing form }))
