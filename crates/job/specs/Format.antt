-- The records of a job, over the job's bytes: which parts stand one after another, and what each says.
use Rattle.std.specs.Prelude.{ℕ, zero, suc, ◌/◌, ◌%◌, ◌^◌, Bool, cond, ◌&&◌, List, Some, None, Ok, Err, Option, Result, ◌==◌, nat_lt}
use Rattle.std.specs.List.{between}
use Rattle.row.specs.declared.Cell.{Cell}
use Rattle.row.specs.declared.Row.{Row}
use Rattle.job.specs.Names.{printable}
use Rattle.job.specs.Parts.{Part, taken, flawed, after, made, byte, number}
use Rattle.job.specs.declared.cursor.map.Form.{Form}
use Rattle.job.specs.declared.cursor.map.Form.TheVariants as form
use Rattle.job.specs.declared.kind.Kind.{Kind}
use Rattle.job.specs.declared.kind.Kind.TheVariants as kind
use Rattle.job.specs.declared.record.Cause.{Cause}
use Rattle.job.specs.declared.record.Cause.TheVariants.{UnknownKind, WrongMap, BadName}

-- a name: its bytes, and the place of the first of them
pub record NameAt : Type 0 where
  pub bytes : List ℕ
  pub place : ℕ

-- a cell, and its name if it has one
pub record CellNamed : Type 0 where
  pub cell : Cell
  pub name : Option NameAt

-- what a record says
pub data Content : Type 0 where
  row : Row → Content
  place : CellNamed → Content
  withdraw : ℕ → Content
  try : CellNamed → Content

-- whether a bit stands in a map
abbrev pub stands : ℕ → ℕ → Bool
stands map bit = map / 2 ^ bit % 2 == 1

-- a row has the bits 0 to 2, of which it requires 2; a cell 0 to 5, of which it requires 0 and 3; a withdrawal requires its only bit, 0
abbrev pub allows : Form → ℕ → Bool
allows form.Row map = nat_lt map (2 ^ 3) && stands map 2
allows form.Cell map = nat_lt map (2 ^ 6) && (stands map 0 && stands map 3)
allows form.Withdrawal map = nat_lt map (2 ^ 1) && stands map 0

-- the map at a place
abbrev pub map_byte : Form → List ℕ → ℕ → Part ℕ
map_byte form job at = after (byte job at) (λ map next. cond (allows form map) (taken map next) (flawed WrongMap at))

-- the number of a bit that stands in the map, or what counts where it does not
abbrev pub field : ℕ → ℕ → ℕ → List ℕ → ℕ → Part ℕ
field map bit absent job at = cond (stands map bit) (number job at) (taken absent at)

-- as many bytes of a name from a place on, first to last: the job may end too early, or a byte be bad
abbrev pub good_bytes : ℕ → List ℕ → ℕ → Part (Unit {0})
good_bytes zero job at = taken tt at
good_bytes (suc count) job at = after (byte job at) (λ b next. cond (printable b) (good_bytes count job next) (flawed BadName at))

-- a name of so many bytes from a place on
abbrev pub text : ℕ → List ℕ → ℕ → Part NameAt
text size job at = after (good_bytes size job at) (λ _ next. taken (record { bytes = between at next job; place = at }) next)

-- the name at a place: its length, which is not 0, and its bytes
abbrev pub name : List ℕ → ℕ → Part NameAt
name job at = after (byte job at) (λ size next. cond (size == 0) (flawed BadName at) (text size job next))

-- the name, where its bit stands in the map
abbrev pub name_field : ℕ → ℕ → List ℕ → ℕ → Part (Option NameAt)
name_field map bit job at = cond (stands map bit) (made Some (name job at)) (taken None at)

-- what follows the kind of a row
abbrev pub row_part : List ℕ → ℕ → Part Row
row_part job at =
    after (map_byte form.Row job at) (λ map next.
    after (field map 0 0 job next) (λ line next.
    after (field map 1 0 job next) (λ left next.
    after (field map 2 0 job next) (λ right next.
    taken (record { line = line; left = left; right = right }) next))))

-- what follows the kind of a cell that is placed or tried
abbrev pub cell_part : List ℕ → ℕ → Part CellNamed
cell_part job at =
    after (map_byte form.Cell job at) (λ map next.
    after (field map 0 0 job next) (λ number next.
    after (field map 1 0 job next) (λ site next.
    after (field map 2 0 job next) (λ line next.
    after (field map 3 0 job next) (λ width next.
    after (field map 4 1 job next) (λ weight next.
    after (name_field map 5 job next) (λ name next.
    taken (record { cell = record { number = number; wanted = record { line = line; site = site }; width = width; weight = weight }; name = name }) next)))))))

-- what follows the kind of a withdrawal
abbrev pub withdrawal_part : List ℕ → ℕ → Part ℕ
withdrawal_part job at = after (map_byte form.Withdrawal job at) (λ map next. field map 0 0 job next)

-- the kind that a number names: 1 a row, 2 a cell to place, 3 a withdrawal, 4 a cell to try
abbrev pub kind_named : ℕ → Result Kind Cause
kind_named number =
    cond (number == 1) (Ok kind.Row)
    (cond (number == 2) (Ok kind.Place)
    (cond (number == 3) (Ok kind.Withdraw)
    (cond (number == 4) (Ok kind.Try)
    (Err UnknownKind))))

-- a kind that stands at a place, or the flaw there
abbrev pub kind_part : ℕ → ℕ → Result Kind Cause → Part Kind
kind_part at next (Ok kind) = taken kind next
kind_part at next (Err cause) = flawed cause at

-- the kind at a place
abbrev pub kind_at : List ℕ → ℕ → Part Kind
kind_at job at = after (byte job at) (λ number next. kind_part at next (kind_named number))

-- what follows a record's kind
abbrev pub after_kind : List ℕ → Kind → ℕ → Part Content
after_kind job kind.Row next = made row (row_part job next)
after_kind job kind.Place next = made place (cell_part job next)
after_kind job kind.Withdraw next = made withdraw (withdrawal_part job next)
after_kind job kind.Try next = made try (cell_part job next)

-- the record at a place
abbrev pub read_record : List ℕ → ℕ → Part Content
read_record job at = after (kind_at job at) (after_kind job)
