use Rattle.std.proofs.Common.{◌≡◌, length}
use Rattle.job.specs.Reading.{standing}
use Rattle.job.specs.Records.{fault_of, fault_left, records_left}
use Rattle.job.proofs.whole.read_through.Given as goal

-- the fault that is left is that of the whole job
abbrev pub invariant-loop : goal.invariant-loop
invariant-loop l = fault_left (standing l.reader) ≡ fault_of l.fn.bytes

-- the records that are left
abbrev pub decreases-loop : goal.decreases-loop
decreases-loop l = length (records_left (standing l.reader))
