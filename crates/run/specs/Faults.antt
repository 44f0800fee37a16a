-- The faults of a run, by number, as lines and in words.
use Rattle.std.specs.Prelude.{ℕ, List, Option}
use Rattle.floor.specs.Reasons.{reason}
use Rattle.floor.specs.Refusals as refusals
use Rattle.job.specs.Causes as causes
use Rattle.lines.specs.Texts.{refused_text, unreadable_text}
use Rattle.run.specs.declared.fault.Fault.{Fault}
use Rattle.run.specs.declared.fault.Fault.TheVariants.{Unread, Refused}

-- the number of the reader's refusal, or of the floor's
abbrev pub fault_number : Fault → ℕ
fault_number (Unread unread) = causes.number_of unread.cause
fault_number (Refused refusal) = refusals.number_of refusal

-- the line, for a record with this index and a name or none: `K bad N P`, or `K no N` and the name
abbrev pub fault_text : ℕ → Option (List ℕ) → Fault → List ℕ
fault_text index name (Unread unread) =
    unreadable_text unread.index (causes.number_of unread.cause) unread.place
fault_text index name (Refused refusal) = refused_text index (refusals.number_of refusal) name

-- the words: those of the reader's fault, or of the floor's refusal
abbrev pub fault_words : Fault → List ℕ
fault_words (Unread unread) = causes.fault_text unread
fault_words (Refused refusal) = reason refusal
