-- A run that has read nothing of a job.
use Rattle.std.specs.Prelude.{ℕ, List, None}
use Rattle.floor.specs.Tables.{Tables}
use Rattle.job.specs.Records.{records_of, fault_of}
use Rattle.run.specs.State.{State}

-- all records of the job are left, on a floor with these tables
abbrev pub started : List ℕ → Tables → State
started job tables = record {
  index = 0;
  records = records_of job;
  fault = fault_of job;
  told = None;
  tables = tables;
}
