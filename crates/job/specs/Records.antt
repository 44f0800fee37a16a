-- A job's records, up to the first that cannot be read, and the fault that ends them.
use Rattle.std.specs.Prelude.{◌≡◌, ℕ, zero, suc, ◌+◌, List, [], ◌∷◌, length, Some, None, Ok, Err, Option, Result}
use Rattle.job.specs.Format.{Content}
use Rattle.job.specs.Opening.{Opened, open_answer}
use Rattle.job.specs.Reading.{Standing, at_start, next_answer, next_standing}
use Rattle.job.specs.declared.record.Fault.{Fault}

-- records, and the fault that ends them, if there is one
pub record Rest : Type 0 where
  pub records : List Content
  pub fault : Option Fault

-- no records, and a fault or none
abbrev pub ended : Option Fault → Rest
ended fault = record { records = []; fault = fault }

-- the records before an answer, where these are left after it
abbrev pub records_before : Result (Option Content) Fault → List Content → List Content
records_before (Ok None) after = []
records_before (Ok (Some c)) after = c ∷ after
records_before (Err fault) after = []

-- the fault before an answer, where this is left after it
abbrev pub fault_before : Result (Option Content) Fault → Option Fault → Option Fault
fault_before (Ok None) after = None
fault_before (Ok (Some c)) after = after
fault_before (Err fault) after = Some fault

-- an answer, and what is left after it: nothing at the job's end or after a fault
abbrev pub with_answer : Result (Option Content) Fault → Rest → Rest
with_answer answer rest = record { records = records_before answer rest.records; fault = fault_before answer rest.fault }

-- the rest from where a reader stands, by at most so many answers
abbrev pub rest_within : ℕ → Standing → Rest
rest_within zero s = ended None
rest_within (suc most) s = with_answer (next_answer s) (rest_within most (next_standing s))

-- the whole rest: a job gives fewer answers than it has bytes, and one more
unfoldable pub rest_of : Standing → Rest
rest_of s = rest_within (length s.job + 1) s

-- the records that are left
abbrev pub records_left : Standing → List Content
records_left s = (rest_of s).records

-- the fault that ends them, if there is one
abbrev pub fault_left : Standing → Option Fault
fault_left s = (rest_of s).fault

-- all of a job: of one that cannot be opened no record, and its opening's fault
abbrev pub opened_rest : Result Opened Fault → Rest
opened_rest (Ok job) = rest_of (at_start job.bytes)
opened_rest (Err fault) = ended (Some fault)

-- the records of a job up to the first that cannot be read; none where it cannot be opened
unfoldable pub records_of : List ℕ → List Content
records_of bytes = (opened_rest (open_answer bytes)).records

-- the fault that ends a job, of its opening or of a record; none where it is read to its end
unfoldable pub fault_of : List ℕ → Option Fault
fault_of bytes = (opened_rest (open_answer bytes)).fault

-- a reader at its start has all of a job left
pub record AllLeft (bytes : List ℕ) (from : Standing) : Type 0 where
  pub records : records_left from ≡ records_of bytes
  pub fault : fault_left from ≡ fault_of bytes

-- a job that is refused at its opening has no records, and that fault
pub record NoneLeft (bytes : List ℕ) (refused : Fault) : Type 0 where
  pub records : records_of bytes ≡ []
  pub fault : fault_of bytes ≡ Some refused

-- the index after an answer
abbrev pub index_after : Result (Option Content) Fault → ℕ → ℕ
index_after (Ok None) before = before
index_after (Ok (Some c)) before = before + 1
index_after (Err fault) before = before

-- An answer is the first of the records that are left, and the index counts it; or none is left, and
-- it is the fault that is left.
pub record Takes (from : Standing) (answer : Result (Option Content) Fault) (to : Standing) : Type 0 where
  pub records : records_left from ≡ records_before answer (records_left to)
  pub fault : fault_left from ≡ fault_before answer (fault_left to)
  pub index : to.index ≡ index_after answer from.index
