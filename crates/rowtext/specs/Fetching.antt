-- What is fetched of a text.
use Rattle.std.specs.Prelude.{◌≡◌, ℕ, ◌+◌, ◌<◌, ◌≤◌, List, length, Option, Ok, Err, Result}
use Rattle.std.specs.Io.KnownBytes.{Consumes, IsAtEnd}
use Rattle.rowtext.specs.declared.TheConstants.{MOST_BYTES, CHUNK_BYTES}
use Rattle.rowtext.specs.declared.trouble.Trouble.{Trouble}
use Rattle.rowtext.specs.declared.trouble.Trouble.TheVariants.{Unreadable as unreadable, TooLong, NoMemory, NotRead, NotWritten}

-- how a step of a run ended: well, or in trouble
abbrev pub Ending : Type 0
Ending = Result (Unit {0}) Trouble

-- how a fetch of a text ended, which read these bytes into a buffer of this capacity
abbrev pub FetchEnds : Type 0 → Type 0 → ℕ → List ℕ → List ℕ → Ending → Type 0
FetchEnds at_end failed capacity read text (Ok done) =
    at_end × (length read ≤ MOST_BYTES) × (text ≡ read)
FetchEnds at_end failed capacity read text (Err TooLong) = MOST_BYTES < length read
FetchEnds at_end failed capacity read text (Err NoMemory) = capacity < length read
FetchEnds at_end failed capacity read text (Err NotRead) = failed
FetchEnds at_end failed capacity read text (Err NotWritten) = ⊥
FetchEnds at_end failed capacity read text (Err (unreadable why)) = ⊥

-- a fetch of a text: what it read, no more than it needs, and how it ended
pub record FetchedText (before after : Option (List ℕ)) (failed : Type 0) (capacity : ℕ)
    (text : List ℕ) (r : Ending) : Type 0 where
  pub read : List ℕ
  pub consumed : Consumes before after read
  pub little : length read ≤ MOST_BYTES + CHUNK_BYTES
  pub ends : FetchEnds (IsAtEnd after) failed capacity read text r
