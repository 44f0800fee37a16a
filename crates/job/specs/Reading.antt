-- What a reader answers, and where it stands then.
use Rattle.std.specs.Prelude.{◌≡◌, ℕ, ◌+◌, ◌≤◌, cond, List, length, IfSome, Some, None, Ok, Err, Option, Result, nat_lt}
use Rattle.std.specs.Option as options
use Rattle.std.specs.Result as results
use Rattle.std.specs.List.{between}
use Rattle.job.specs.Format.{NameAt, Content, read_record}
use Rattle.job.specs.Format.Content.{row, place, withdraw, try}
use Rattle.job.specs.Parts.{Part}
use Rattle.job.specs.Reads.{content}
use Rattle.job.specs.declared.cursor.Flaw.{Flaw}
use Rattle.job.specs.declared.reader.Reader.{Reader}
use Rattle.job.specs.declared.record.Fault.{Fault}
use Rattle.job.specs.declared.record.Record.{Record}

-- where a reader stands: its job, the place of the next record, and the index of that record
pub record Standing : Type 0 where
  pub job : List ℕ
  pub place : ℕ
  pub index : ℕ

abbrev pub standing : Reader → Standing
standing reader = record { job = reader.job.now; place = reader.mark.place; index = reader.mark.index }

-- at the first record, after the byte that names the measure
abbrev pub at_start : List ℕ → Standing
at_start job = record { job = job; place = 1; index = 0 }

-- an answer of `next_record`, with its record by what it says
abbrev pub answered : Result (Option Record) Fault → Result (Option Content) Fault
answered r = results.result_map_both (options.option_map content) (λ fault. fault) r

-- a flaw of the record with this index
abbrev pub fault_at : ℕ → Flaw → Fault
fault_at index flaw = record { cause = flaw.cause; index = index; place = flaw.place }

-- a part as an answer: the record, or the fault of the record with this index
abbrev pub part_answer : ℕ → Part Content → Result (Option Content) Fault
part_answer index part = results.result_map_both (λ t. Some t.value) (fault_at index) part

abbrev pub next_answer : Standing → Result (Option Content) Fault
next_answer s = cond (nat_lt s.place (length s.job)) (part_answer s.index (read_record s.job s.place)) (Ok None)

-- after a part: at the next record, or where the reader was
abbrev pub part_standing : Standing → Part Content → Standing
part_standing s (Ok part) = record { job = s.job; place = part.next; index = s.index + 1 }
part_standing s (Err flaw) = s

abbrev pub next_standing : Standing → Standing
next_standing s = cond (nat_lt s.place (length s.job)) (part_standing s (read_record s.job s.place)) s

-- a name's bytes are those of the job from its place on
abbrev pub InJob : List ℕ → NameAt → Type 0
InJob job n = n.bytes ≡ between n.place (n.place + length n.bytes) job

-- the same of a record's name, if it has one
abbrev pub NameInJob : List ℕ → Content → Type 0
NameInJob job (row r) = Unit {0}
NameInJob job (place c) = IfSome c.name (InJob job)
NameInJob job (withdraw number) = Unit {0}
NameInJob job (try c) = IfSome c.name (InJob job)

-- the reader has moved over a record
pub record Passed (from : Standing) (c : Content) (to : Standing) : Type 0 where
  pub same : to.job ≡ from.job
  pub forward : from.place + 2 ≤ to.place
  pub within : to.place ≤ length from.job
  pub counted : to.index ≡ from.index + 1
  pub names : NameInJob from.job c

-- a record moves the reader, and nothing else does; there is none only where the job has ended
unfoldable pub Advances : Standing → Result (Option Content) Fault → Standing → Type 0
Advances from (Ok (Some c)) to = Passed from c to
Advances from (Ok None) to = (to ≡ from) × (length from.job ≤ from.place)
Advances from (Err fault) to = to ≡ from
