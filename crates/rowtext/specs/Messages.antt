-- What is said of a text that has no answer, byte for byte.
use Rattle.std.specs.Prelude.{ℕ, List, ◌++◌, codes, decimal}
use Rattle.rowtext.specs.declared.trouble.Form.{Form}
use Rattle.rowtext.specs.declared.trouble.Form.TheVariants.{Measure, Row, Cell}
use Rattle.rowtext.specs.declared.trouble.Trouble.{Trouble}
use Rattle.rowtext.specs.declared.trouble.Trouble.TheVariants.{Unreadable as unreadable, TooLong, NoMemory, NotRead, NotWritten}
use Rattle.rowtext.specs.declared.trouble.Reason.{Reason}
use Rattle.rowtext.specs.declared.trouble.Reason.TheVariants.{Missing, Expected, TooFewWords, TooManyWords, NoSuchMeasure, NotNumber, TooLarge}

-- how a line of this form reads
abbrev pub usage : Form → List ℕ
usage Measure = codes "`measure squared` or `measure plain`"
usage Row = codes "`row LINE LEFT RIGHT`"
usage Cell = codes "`cell NUMBER SITE LINE WIDTH WEIGHT`"

-- why a line cannot be read
abbrev pub message : Reason → List ℕ
message (Missing form) = codes "the input ends before " ++ usage form
message (Expected form) = codes "expected " ++ usage form
message (TooFewWords form) = codes "too few words for " ++ usage form
message (TooManyWords form) = codes "too many words for " ++ usage form
message NoSuchMeasure = codes "a measure is `squared` or `plain`"
message NotNumber = codes "a number is written in decimal digits alone"
message TooLarge = codes "a number is at most 4294967295"

-- why a text has no answer
abbrev pub complaint : Trouble → List ℕ
complaint (unreadable why) =
    codes "line " ++ (decimal why.line ++ (codes ": " ++ message why.reason))
complaint TooLong = codes "the input is longer than 1048576 bytes"
complaint NoMemory = codes "no memory for the row"
complaint NotRead = codes "the input cannot be read"
complaint NotWritten = codes "the answer cannot be written"
