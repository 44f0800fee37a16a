-- What opening a job answers: the measure that its first byte names, or the fault.
use Rattle.std.specs.Prelude.{ℕ, cond, List, length, Ok, Err, Result, ◌==◌, nat_le, slice_index}
use Rattle.std.specs.Result.{result_map_both}
use Rattle.measure.specs.declared.name.MeasureName.{MeasureName}
use Rattle.measure.specs.declared.name.MeasureName.TheVariants.{Squared, Plain}
use Rattle.job.specs.declared.record.Cause.{Cause}
use Rattle.job.specs.declared.record.Cause.TheVariants.{TooLong, EndsEarly, UnknownMeasure}
use Rattle.job.specs.declared.record.Fault.{Fault}

-- an open job: its bytes, and the measure that it names
pub record Opened : Type 0 where
  pub bytes : List ℕ
  pub measure : MeasureName

-- the measure that a first byte names
abbrev pub measure_named : ℕ → Result MeasureName Cause
measure_named first = cond (first == 0) (Ok Squared) (cond (first == 1) (Ok Plain) (Err UnknownMeasure))

-- the checks in their order: at most 65,535 bytes, at least one, and a first byte that names a measure
abbrev pub opening : List ℕ → Result MeasureName Cause
opening job = cond (nat_le (length job) 65535) (cond (length job == 0) (Err EndsEarly) (measure_named (slice_index job 0))) (Err TooLong)

-- the open job, or a fault that stands at place 0 and counts as the first record's
abbrev pub open_answer : List ℕ → Result Opened Fault
open_answer job = result_map_both (λ measure. record { bytes = job; measure = measure }) (λ cause. record { cause = cause; index = 0; place = 0 }) (opening job)
