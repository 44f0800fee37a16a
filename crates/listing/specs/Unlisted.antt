-- What is left where a job is not listed, and what is said of it.
use Rattle.std.specs.Prelude.{ℕ, ◌<◌, List, length, take, codes, Option, IfSome}
use Rattle.std.specs.Io.KnownBytes.{Appends, Keeps}
use Rattle.listing.specs.Lines.{job_lines}
use Rattle.listing.specs.declared.unlisted.Unlisted.{Unlisted}
use Rattle.listing.specs.declared.unlisted.Unlisted.TheVariants.{NotRead, NotWritten, NoMemory}

-- why it is, in words
abbrev pub words : Unlisted → List ℕ
words NotRead = codes "the job cannot be read"
words NotWritten = codes "the listing cannot be written"
words NoMemory = codes "no memory for the listing"

-- a call that failed so has met this, and this is written: of a job that could not be read, or whose
-- listing the buffer had no room for, nothing, and else a first part of the listing
abbrev pub LeavesOut : Type 0 → Type 0 → ℕ → Option (List ℕ) → Option (List ℕ) → Option (List ℕ) → Unlisted → Type 0
LeavesOut unread unwritten room job before after NotRead = unread × Keeps before after
LeavesOut unread unwritten room job before after NotWritten =
    unwritten × IfSome job (λ job. (n : ℕ) × Appends before after (take n (job_lines job)))
LeavesOut unread unwritten room job before after NoMemory =
    IfSome job (λ job. room < length (job_lines job)) × Keeps before after
