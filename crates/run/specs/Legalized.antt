-- What a job that is legalized leaves behind: on standard error and as a status, and what a failure
-- leaves.
use Rattle.std.specs.Prelude.{ℕ, ◌<◌, List, length, take, IfSome, Option, Vec, vec_capacity, ⊤}
use Rattle.std.specs.Io.KnownBytes.{Appends, Keeps}
use Rattle.std.specs.declared.alloc.Global.{Global}
use Rattle.job.specs.Records.{fault_of}
use Rattle.run.specs.Complaints.{complaint_line, status_of}
use Rattle.run.specs.Texts.{job_text}
use Rattle.run.specs.declared.legalizing.Failure.{Failure}
use Rattle.run.specs.declared.legalizing.Failure.TheVariants.{Unfetched, Unwritten, Untold, NoMemory}

-- what is written to standard error of a job
abbrev pub complaint : List ℕ → List ℕ
complaint job = complaint_line job (fault_of job)

-- the status: 0 for a job that is read to its end, and else 1
abbrev pub status : List ℕ → ℕ
status job = status_of (fault_of job)

-- what a failure has met, and leaves on standard output: of a job that was not fetched, or whose
-- lines memory did not suffice for, nothing; where they could not be written, a first part of the
-- lines; where only the sentence could not be written, all of them
abbrev pub LeavesOut : Type 0 → Type 0 → Option (List ℕ) → Option (List ℕ) → Option (List ℕ) → Failure → Type 0
LeavesOut unread unwritten input old new (Unfetched why) = unread × Keeps old new
LeavesOut unread unwritten input old new (Unwritten why) =
    unwritten × IfSome input (λ job. (n : ℕ) × Appends old new (take n (job_text job)))
LeavesOut unread unwritten input old new (Untold why) =
    IfSome input (λ job. Appends old new (job_text job))
LeavesOut unread unwritten input old new NoMemory = Keeps old new

-- memory fails only where the buffer for the lines had no room for them
abbrev pub LacksRoom : Option (List ℕ) → Vec ℕ Global → Failure → Type 0
LacksRoom input said (Unfetched why) = ⊤
LacksRoom input said (Unwritten why) = ⊤
LacksRoom input said (Untold why) = ⊤
LacksRoom input said NoMemory = IfSome input (λ job. vec_capacity said < length (job_text job))
