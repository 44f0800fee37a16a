-- What the words of one line say: a measure, a row or a cell.
use Rattle.std.specs.Prelude.{ℕ, cond, List, [], ◌∷◌, Ok, Err, codes, Result, slice_index}
use Rattle.std.specs.Str.{bytes_eq}
use Rattle.measure.specs.Names.{word}
use Rattle.measure.specs.declared.name.MeasureName.{MeasureName}
use Rattle.measure.specs.declared.name.MeasureName.TheVariants.{Squared, Plain}
use Rattle.row.specs.declared.Cell.{Cell}
use Rattle.row.specs.declared.Row.{Row}
use Rattle.rowtext.specs.declared.trouble.Form.{Form}
use Rattle.rowtext.specs.declared.trouble.Form.TheVariants as form
use Rattle.rowtext.specs.declared.trouble.Reason.{Reason}
use Rattle.rowtext.specs.declared.trouble.Reason.TheVariants.{Expected, TooFewWords, TooManyWords, NoSuchMeasure}
use Rattle.rowtext.specs.Numbers.{numbers_of}
use Rattle.rowtext.specs.Steps.{then}

-- the first word of a line of this form
abbrev pub name_of : Form → List ℕ
name_of form.Measure = codes "measure"
name_of form.Row = codes "row"
name_of form.Cell = codes "cell"

-- the words behind the first one, which is to be the form's name
abbrev pub behind_name : Form → List (List ℕ) → Result (List (List ℕ)) Reason
behind_name form [] = Err (Expected form)
behind_name form (w ∷ ws) = cond (bytes_eq w (name_of form)) (Ok ws) (Err (Expected form))

-- the measure of this name
abbrev pub measure_named : List ℕ → Result MeasureName Reason
measure_named w =
    cond (bytes_eq w (word Squared)) (Ok Squared)
    (cond (bytes_eq w (word Plain)) (Ok Plain) (Err NoSuchMeasure))

-- the measure that the words name, of which there is to be one
abbrev pub only_measure : List (List ℕ) → Result MeasureName Reason
only_measure [] = Err (TooFewWords form.Measure)
only_measure (w ∷ []) = measure_named w
only_measure (w ∷ v ∷ ws) = then (measure_named w) (λ _. Err (TooManyWords form.Measure))

-- the row of these numbers, in the order of the line
abbrev pub row_from : List ℕ → Row
row_from ns = record { line = slice_index ns 0; left = slice_index ns 1; right = slice_index ns 2 }

-- the cell of these numbers, in the order of the line
abbrev pub cell_from : List ℕ → Cell
cell_from ns = record {
  number = slice_index ns 0;
  wanted = record { line = slice_index ns 2; site = slice_index ns 1 };
  width = slice_index ns 3;
  weight = slice_index ns 4;
}

-- the measure that a line gives, or why it gives none
abbrev pub measure_of : List (List ℕ) → Result MeasureName Reason
measure_of ws = then (behind_name form.Measure ws) only_measure

-- the row that a line gives, or why it gives none
abbrev pub row_of : List (List ℕ) → Result Row Reason
row_of ws =
    then (behind_name form.Row ws)
    (λ rest. then (numbers_of form.Row 3 rest) (λ ns. Ok (row_from ns)))

-- the cell that a line gives, or why it gives none
abbrev pub cell_of : List (List ℕ) → Result Cell Reason
cell_of ws =
    then (behind_name form.Cell ws)
    (λ rest. then (numbers_of form.Cell 5 rest) (λ ns. Ok (cell_from ns)))
