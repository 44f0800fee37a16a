-- What is printed of an answer, byte for byte.
use Rattle.std.specs.Prelude.{◌≡◌, ℕ, ◌+◌, ◌<◌, ◌≤◌, ◌⊎◌, List, [], ◌∷◌, ◌++◌, length, replicate, Ok, Err, codes, decimal, MatchResult, OnErr, OnOk, Result, Vec, vec_capacity, vec_len}
use Rattle.std.specs.declared.alloc.AllocError.{AllocError}
use Rattle.std.specs.declared.alloc.Global.{Global}
use Rattle.measure.specs.Names.{named_price}
use Rattle.measure.specs.declared.name.MeasureName.{MeasureName}
use Rattle.row.specs.Refusals.{number_of}
use Rattle.row.specs.Task.{set_answer, set_sites}
use Rattle.row.specs.declared.Cell.{Cell}
use Rattle.row.specs.declared.Refusal.{Refusal}
use Rattle.row.specs.declared.Row.{Row}

-- the line of one cell: its number and its site
abbrev pub cell_line : ℕ → ℕ → List ℕ
cell_line number site = decimal number ++ (codes " " ++ (decimal site ++ codes "\n"))

-- a line for each cell
abbrev pub cell_lines : List Cell → List ℕ → List ℕ
cell_lines [] sites = []
cell_lines (c ∷ cells) [] = []
cell_lines (c ∷ cells) (s ∷ sites) = cell_line c.number s ++ cell_lines cells sites

-- a line of a word and a number
abbrev pub number_line : List ℕ → ℕ → List ℕ
number_line word number = word ++ (decimal number ++ codes "\n")

-- a line for each cell and then the cost; or the number of the refusal alone
abbrev pub shown : List Cell → List ℕ → Result ℕ Refusal → List ℕ
shown cells sites (Ok cost) = cell_lines cells sites ++ number_line (codes "cost ") cost
shown cells sites (Err refusal) = number_line (codes "refused ") (number_of refusal)

-- the bytes are put behind those before; or there was no room for all of them
pub record Adds (bytes : List ℕ) (before after : Vec ℕ Global)
    (r : Result (Unit {0}) AllocError) : Type 0 where
  pub added : OnOk r (after.items ≡ before.items ++ bytes)
  pub full : OnErr r (vec_capacity before < vec_len before + length bytes)
  pub room : vec_capacity before ≤ vec_capacity after

-- what is said where `set` is lent this buffer: the row's sites and their cost, or the refusal
abbrev pub said_in : MeasureName → Row → List Cell → List ℕ → List ℕ
said_in measure row cells buffer =
    shown cells
    (set_sites (named_price measure) row cells buffer)
    (set_answer (named_price measure) row cells buffer)

-- what is said of a task: the buffer has a site for each cell
abbrev pub said : MeasureName → Row → List Cell → List ℕ
said measure row cells = said_in measure row cells (replicate (length cells) 0)

-- these bytes are said of a task with these cells; or a buffer, of this capacity, had no room for
-- the sites or for the bytes
abbrev pub Says : List Cell → List ℕ → ℕ → ℕ → List ℕ → Result (Unit {0}) AllocError → Type 0
Says cells bytes sites_room said_room after r =
    MatchResult r
    (λ _. after ≡ bytes)
    (λ _. (sites_room < length cells) ⊎ (said_room < length bytes))
