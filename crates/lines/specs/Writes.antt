-- What `write` answers, and what it leaves in the buffer, by the line's text.
use Rattle.std.specs.Prelude.{ℕ, Bool, List, ◌++◌, length, drop, Ok, Err, Result, nat_le, if◌then◌else◌}
use Rattle.lines.specs.declared.short_buffer.ShortBuffer.{ShortBuffer}
use Rattle.lines.specs.declared.TheConstants.{LEAST_BUFFER}

-- the number of the refusal
abbrev pub number_of : ShortBuffer → ℕ
number_of refused = 20

-- the refusal is one value
abbrev pub short_buffer : ShortBuffer
short_buffer = record {}

-- whether a buffer takes every line
abbrev pub takes_lines : List ℕ → Bool
takes_lines buffer = nat_le LEAST_BUFFER (length buffer)

-- the length of the text, or the refusal
abbrev pub write_answer : List ℕ → List ℕ → Result ℕ ShortBuffer
write_answer text buffer = if takes_lines buffer then Ok (length text) else Err short_buffer

-- the buffer with the text at its front, and past it as it was
abbrev pub with_text : List ℕ → List ℕ → List ℕ
with_text text buffer = text ++ drop (length text) buffer

-- the buffer afterwards: where the call refuses, as it was
abbrev pub write_buffer : List ℕ → List ℕ → List ℕ
write_buffer text buffer = if takes_lines buffer then with_text text buffer else buffer
