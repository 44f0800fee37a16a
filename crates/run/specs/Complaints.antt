-- What is said on standard error of a job that cannot be read to its end, and the status that tells
-- it from others.
use Rattle.std.specs.Prelude.{ℕ, List, [], ◌++◌, length, codes, decimal, Some, None, Option, ◌==◌, if◌then◌else◌}
use Rattle.job.specs.Causes.{reason}
use Rattle.job.specs.declared.record.Fault.{Fault}
use Rattle.lines.specs.Texts.{newline}
use Rattle.run.specs.declared.complaint.Complaint.{Complaint}
use Rattle.run.specs.declared.complaint.Complaint.TheVariants.{NoJob, Unread}

-- of a fault at the job's first byte, which is that of its opening
abbrev pub opening_text : Fault → List ℕ
opening_text f = codes "legalize: the job cannot be opened: " ++ reason f.cause

-- of a fault in a record
abbrev pub record_text : Fault → List ℕ
record_text f =
    codes "legalize: the job cannot be read on from record "
    ++ (decimal f.index ++ (codes ", byte " ++ (decimal f.place ++ (codes ": " ++ reason f.cause))))

-- the sentence
abbrev pub complaint_text : Complaint → List ℕ
complaint_text NoJob = codes "legalize: standard input is empty. A job in the binary format is expected there, as in: legalize < tile.job"
complaint_text (Unread fault) = if fault.place == 0 then opening_text fault else record_text fault

-- what is said of a job that a fault ends
abbrev pub complaint_about : List ℕ → Fault → Complaint
complaint_about job fault = if length job == 0 then NoJob else Unread fault

-- what is written to standard error: a line where a fault ends the job, else nothing
abbrev pub complaint_line : List ℕ → Option Fault → List ℕ
complaint_line job None = []
complaint_line job (Some fault) = complaint_text (complaint_about job fault) ++ newline

-- the status: 0 for a job that is read to its end, 1 where a fault ends it
abbrev pub status_of : Option Fault → ℕ
status_of None = 0
status_of (Some fault) = 1
