-- The lines of a listing: a job's measure, its records and its fault, as text.
use Rattle.std.specs.Prelude.{ℕ, List, [], ◌∷◌, ◌++◌, Some, None, Ok, Err, codes, decimal, Option, Result}
use Rattle.std.specs.List.{enumerate_from, flat_map}
use Rattle.job.specs.Causes.{fault_text}
use Rattle.job.specs.Format.{NameAt, CellNamed, Content}
use Rattle.job.specs.Format.Content.{row, place, withdraw, try}
use Rattle.job.specs.Opening.{opening}
use Rattle.job.specs.Records.{fault_of, records_of}
use Rattle.job.specs.declared.record.Cause.{Cause}
use Rattle.job.specs.declared.record.Fault.{Fault}
use Rattle.measure.specs.Names.{word}
use Rattle.measure.specs.declared.name.MeasureName.{MeasureName}
use Rattle.row.specs.declared.Row.{Row}

-- parts of a text, one after another
abbrev pub joined : List (List ℕ) → List ℕ
joined parts = flat_map (λ part. part) parts

-- a line's end
abbrev pub end_of_line : List ℕ
end_of_line = codes "\n"

-- the line of a job's measure
abbrev pub measure_line : MeasureName → List ℕ
measure_line measure = codes "measure " ++ (word measure ++ end_of_line)

-- the line of a row
abbrev pub row_line : ℕ → Row → List ℕ
row_line index r =
    joined (decimal index ∷ codes " row line " ∷ decimal r.line ∷ codes " left " ∷ decimal r.left
    ∷ codes " right " ∷ decimal r.right ∷ end_of_line ∷ [])

-- the name of a cell, if it has one
abbrev pub name_text : Option NameAt → List ℕ
name_text None = []
name_text (Some n) = codes " name " ++ n.bytes

-- the line of a cell; the word says whether it is placed or tried
abbrev pub cell_line : ℕ → List ℕ → CellNamed → List ℕ
cell_line index word c =
    let cell = c.cell in
    joined (decimal index ∷ word ∷ decimal cell.number ∷ codes " site " ∷ decimal cell.wanted.site
    ∷ codes " line " ∷ decimal cell.wanted.line ∷ codes " width " ∷ decimal cell.width
    ∷ codes " weight " ∷ decimal cell.weight ∷ name_text c.name ∷ end_of_line ∷ [])

-- the line of a withdrawal
abbrev pub withdrawal_line : ℕ → ℕ → List ℕ
withdrawal_line index number = joined (decimal index ∷ codes " withdraw " ∷ decimal number ∷ end_of_line ∷ [])

-- the line of a record with an index
abbrev pub record_line : ℕ → Content → List ℕ
record_line index (row r) = row_line index r
record_line index (place c) = cell_line index (codes " place ") c
record_line index (withdraw number) = withdrawal_line index number
record_line index (try c) = cell_line index (codes " try ") c

-- the lines of records, the first of which has this index
abbrev pub record_lines : ℕ → List Content → List ℕ
record_lines index records = flat_map (λ (r : ℕ × Content). record_line r.0 r.1) (enumerate_from index records)

-- the line of a fault
abbrev pub fault_line : Fault → List ℕ
fault_line fault = fault_text fault ++ end_of_line

-- the line of the fault that ends a job, if there is one
abbrev pub last_line : Option Fault → List ℕ
last_line None = []
last_line (Some fault) = fault_line fault

-- the line of the measure that is named, if there is one
abbrev pub first_line : Result MeasureName Cause → List ℕ
first_line (Ok measure) = measure_line measure
first_line (Err cause) = []

-- a job's listing: the line of its measure, one for each of its records, and that of its fault
abbrev pub job_lines : List ℕ → List ℕ
job_lines bytes = first_line (opening bytes) ++ (record_lines 0 (records_of bytes) ++ last_line (fault_of bytes))
