-- The lines of a text that count, each with its number.
use Rattle.std.specs.Prelude.{◌≡◌, ℕ, ◌+◌, Bool, false, cond, not, List, [], ◌∷◌, length, Option, MatchOption, ◌==◌}
use Rattle.rowtext.specs.declared.lines.Entry.{Entry}
use Rattle.rowtext.specs.declared.lines.Lines.{Lines}
use Rattle.rowtext.specs.Parts.{parts_left}
use Rattle.rowtext.specs.Text.{lines, words}

-- whether a word opens a comment: its first byte is `#`
abbrev pub comment : List ℕ → Bool
comment [] = false
comment (b ∷ bs) = b == 35

-- whether a line of these words counts: it has a word, and the first opens no comment
abbrev pub counts : List (List ℕ) → Bool
counts [] = false
counts (w ∷ ws) = not (comment w)

-- a line that counts: its number, from 1, and its words
pub record Counted : Type 0 where
  pub number : ℕ
  pub words : List (List ℕ)

-- those of the lines that count, where so many lines came before them
abbrev pub counted : ℕ → List (List ℕ) → List Counted
counted before [] = []
counted before (l ∷ ls) =
    cond (counts (words l))
    (record { number = before + 1; words = words l } ∷ counted (before + 1) ls)
    (counted (before + 1) ls)

-- an entry as a line that counts
abbrev pub seen : Entry → Counted
seen e = record { number = e.number; words = words e.line.now }

-- the number of the line after the last
abbrev pub end_of : List ℕ → ℕ
end_of text = length (lines text) + 1

-- those of the lines still to be read that count
abbrev pub left : Lines → List Counted
left ls = counted ls.read (parts_left ls.lines)

-- the number of the line after the last of those still to be read
abbrev pub end : Lines → ℕ
end ls = ls.read + (length (parts_left ls.lines) + 1)

-- the entry and then the lines left after it are the lines that were left before
pub record Next (before after : Lines) (e : Entry) : Type 0 where
  pub first : left before ≡ seen e ∷ left after
  pub same_end : end after ≡ end before

-- none was left before, and now all lines are read
pub record Last (before after : Lines) : Type 0 where
  pub none : left before ≡ []
  pub still_none : left after ≡ []
  pub all_read : after.read + 1 ≡ end before

-- r is the next line that counts, or none is left
abbrev pub Gives : Lines → Option Entry → Lines → Type 0
Gives before r after = MatchOption r (Last before after) (Next before after)
