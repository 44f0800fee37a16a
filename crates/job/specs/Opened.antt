-- An open job of the program, by its bytes and the measure that it names.
use Rattle.std.specs.Prelude.{Result}
use Rattle.std.specs.Result.{result_map_both}
use Rattle.job.specs.Opening.{Opened}
use Rattle.job.specs.declared.opening.Job.{Job}
use Rattle.job.specs.declared.record.Fault.{Fault}

-- an open job, by its bytes
abbrev pub as_opened : Job → Opened
as_opened job = record { bytes = job.bytes.now; measure = job.measure }

-- an answer of `open`, with the job so
abbrev pub opened : Result Job Fault → Result Opened Fault
opened r = result_map_both as_opened (λ fault. fault) r
