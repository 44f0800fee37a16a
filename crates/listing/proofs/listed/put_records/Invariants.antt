use Rattle.std.proofs.Common.{◌≡◌, ℕ, List, ◌++◌, Ok, length}
use Rattle.job.specs.Reading.{standing}
use Rattle.job.specs.Records.{records_left}
use Rattle.lines.specs.Appended.{Appends}
use Rattle.std.specs.declared.alloc.AllocError.{AllocError}
use Rattle.listing.specs.Left.{lines_left}
use Rattle.listing.proofs.listed.put_records.Given as goal

-- what is added and what is to come are all the lines
abbrev pub invariant-loop-found : goal.invariant-loop-found
invariant-loop-found l =
    (said : List ℕ) × Appends {X = Unit {0}} {E = AllocError} l.initial.out (Ok tt) said l.out
    × (said ++ lines_left (standing l.reader) ≡ lines_left (standing l.initial.reader))

-- the records that are left
abbrev pub decreases-loop-found : goal.decreases-loop-found
decreases-loop-found l = length (records_left (standing l.reader))
