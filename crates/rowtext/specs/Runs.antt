-- What a whole run reads, writes and ends with.
use Rattle.std.specs.Prelude.{◌≡◌, ℕ, ◌+◌, ◌<◌, ◌≤◌, ◌⊎◌, List, [], ◌++◌, length, codes, Option, Ok, Err, Result}
use Rattle.std.specs.Io.{StartsWith}
use Rattle.std.specs.Io.KnownBytes.{Appends, Consumes, IsAtEnd, Keeps}
use Rattle.rowtext.specs.declared.TheConstants.{MOST_BYTES, CHUNK_BYTES}
use Rattle.rowtext.specs.declared.trouble.Trouble.{Trouble}
use Rattle.rowtext.specs.declared.trouble.Trouble.TheVariants.{Unreadable as unreadable, TooLong, NoMemory, NotRead, NotWritten}
use Rattle.rowtext.specs.declared.trouble.Unreadable.{Unreadable}
use Rattle.rowtext.specs.Messages.{complaint}
use Rattle.rowtext.specs.Reading.{lines_in, reads_as}
use Rattle.rowtext.specs.Rooms.{Capacity}
use Rattle.rowtext.specs.Shown.{said}
use Rattle.rowtext.specs.Steps.{then}
use Rattle.rowtext.specs.Fetching.{Ending}
use Rattle.streams.specs.Streams.{Delivered}
use Rattle.streams.specs.declared.sink.NotWritten.{NotWritten as Undelivered}

-- what is said of a text; or which line cannot be read, and why
abbrev pub answer_to : List ℕ → Result (List ℕ) Unreadable
answer_to text = then (reads_as text) (λ given. Ok (said given.measure given.row given.cells))

-- the bytes that are said of a text, if any
abbrev pub bytes_said : Result (List ℕ) Unreadable → List ℕ
bytes_said (Ok bytes) = bytes
bytes_said (Err why) = []

-- a buffer for the cells, the sites or the answer has less room than the text may want
abbrev pub LacksFor : Capacity → List ℕ → Type 0
LacksFor room text =
    (room.cells < lines_in text)
    ⊎ (room.sites < lines_in text)
    ⊎ (room.said < length (bytes_said (answer_to text)))

-- how the answer to a text ended, in these buffers: with these bytes, or why not
abbrev pub Answered : Capacity → List ℕ → List ℕ → Ending → Type 0
Answered room text bytes (Ok done) = answer_to text ≡ Ok bytes
Answered room text bytes (Err (unreadable why)) = answer_to text ≡ Err why
Answered room text bytes (Err NoMemory) = LacksFor room text
Answered room text bytes (Err TooLong) = ⊥
Answered room text bytes (Err NotRead) = ⊥
Answered room text bytes (Err NotWritten) = ⊥

-- all of the input was read, and it is no longer than a text may be
abbrev pub IsWhole : Type 0 → List ℕ → Type 0
IsWhole at_end read = at_end × (length read ≤ MOST_BYTES)

-- the answer to what was read begins with these bytes
abbrev pub Begins : List ℕ → List ℕ → Type 0
Begins read put = (bytes : List ℕ) × (answer_to read ≡ Ok bytes) × StartsWith bytes put

-- how a run ended that read these bytes and put those on its output
abbrev pub RunEnds : Capacity → Type 0 → Type 0 → Type 0 → List ℕ → List ℕ → Ending → Type 0
RunEnds room at_end unread unwritten read put (Ok done) =
    IsWhole at_end read × (answer_to read ≡ Ok put)
RunEnds room at_end unread unwritten read put (Err (unreadable why)) =
    IsWhole at_end read × (answer_to read ≡ Err why) × (put ≡ [])
RunEnds room at_end unread unwritten read put (Err TooLong) =
    (MOST_BYTES < length read) × (put ≡ [])
RunEnds room at_end unread unwritten read put (Err NoMemory) =
    ((room.text < length read) ⊎ (IsWhole at_end read × LacksFor room read)) × (put ≡ [])
RunEnds room at_end unread unwritten read put (Err NotRead) = unread × (put ≡ [])
RunEnds room at_end unread unwritten read put (Err NotWritten) =
    IsWhole at_end read × unwritten × Begins read put

-- a run: what it read, no more than it needs, what it put behind what stood on its output, and how
-- it ended
pub record Ran (room : Capacity) (before after out_before out_after : Option (List ℕ))
    (unread unwritten : Type 0) (r : Ending) : Type 0 where
  pub read : List ℕ
  pub consumed : Consumes before after read
  pub little : length read ≤ MOST_BYTES + CHUNK_BYTES
  pub put : List ℕ
  pub grown : Appends out_before out_after put
  pub ends : RunEnds room (IsAtEnd after) unread unwritten read put r

-- the line on standard error
abbrev pub complaint_line : Trouble → List ℕ
complaint_line why = complaint why ++ codes "\n"

-- what is told of how a run ended: nothing, or the one line, or a first part of it where that
-- cannot be written
abbrev pub Told : Option (List ℕ) → Option (List ℕ) → Type 0 → Ending → Type 0
Told before after failed (Ok done) = Keeps before after
Told before after failed (Err why) =
    (r : Result (Unit {0}) Undelivered) × Delivered before after failed (complaint_line why) r

-- the status that a program ends with
abbrev pub status_of : Ending → ℕ
status_of (Ok done) = 0
status_of (Err why) = 1
