-- The lines that are still to come.
use Rattle.std.specs.Prelude.{ℕ, List, ◌++◌}
use Rattle.job.specs.Reading.{Standing}
use Rattle.job.specs.Records.{fault_left, records_left}
use Rattle.listing.specs.Lines.{last_line, record_lines}

-- the lines of the records that are left, and of the fault that ends them
abbrev pub lines_left : Standing → List ℕ
lines_left s = record_lines s.index (records_left s) ++ last_line (fault_left s)
