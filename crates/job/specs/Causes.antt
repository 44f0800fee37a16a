-- The reader's refusals, by number and in words.
--   number_of        a refusal's number
--   reason           why a job or a record is refused, in words
--   fault_text       a fault: the record's index, the place, the refusal's number and why
use Rattle.std.specs.Prelude.{ℕ, List, ◌++◌, codes, decimal}
use Rattle.job.specs.declared.record.Cause.{Cause}
use Rattle.job.specs.declared.record.Cause.TheVariants.{TooLong, EndsEarly, UnknownKind, WrongMap, BadName, UnknownMeasure}
use Rattle.job.specs.declared.record.Fault.{Fault}

-- the number of each refusal
abbrev pub number_of : Cause → ℕ
number_of TooLong = 12
number_of EndsEarly = 15
number_of UnknownKind = 16
number_of WrongMap = 17
number_of BadName = 18
number_of UnknownMeasure = 19

-- why a job or a record is refused, in words
abbrev pub reason : Cause → List ℕ
reason TooLong = codes "the job is longer than 65535 bytes"
reason EndsEarly = codes "the job ends too early"
reason UnknownKind = codes "the kind is unknown"
reason WrongMap = codes "the bit map lacks a required bit or has one that its kind lacks"
reason BadName = codes "a name of length 0 or with a byte outside 0x21 to 0x7E"
reason UnknownMeasure = codes "the first byte names no measure"

abbrev pub fault_text : Fault → List ℕ
fault_text f =
    decimal f.index ++ (codes " bad byte " ++ (decimal f.place ++ (codes ": refusal " ++ (decimal (number_of f.cause) ++ (codes ", " ++ reason f.cause)))))
