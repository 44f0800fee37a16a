-- The parts of a job: what stands at a place, and the place after it, or why it cannot be read.
--   Part             a value and the place after it, or a flaw
--   taken, flawed    the two sorts of a part
--   after            a part that follows another
--   made             what is made of a part's value
--   byte             the byte at a place
--   number           the number at a place
use Rattle.std.specs.Prelude.{ℕ, ◌+◌, ◌*◌, cond, List, length, Ok, Err, Result, nat_lt, slice_index}
use Rattle.job.specs.declared.cursor.Flaw.{Flaw}
use Rattle.job.specs.declared.record.Cause.{Cause}
use Rattle.job.specs.declared.record.Cause.TheVariants.{EndsEarly}

-- a value that was read, and the place after it
pub record Taken (X : Type 0) : Type 0 where
  pub value : X
  pub next : ℕ

abbrev pub Part : Type 0 → Type 0
Part X = Result (Taken X) Flaw

-- a value that ends before the place `next`
abbrev pub taken : {X : Type 0} → X → ℕ → Part X
taken x next = Ok (record { value = x; next = next })

-- no value, because of the byte at a place
abbrev pub flawed : {X : Type 0} → Cause → ℕ → Part X
flawed cause at = Err (record { cause = cause; place = at })

-- a part that follows another: it is read from the place after that one
abbrev pub after : {X Y : Type 0} → Part X → (X → ℕ → Part Y) → Part Y
after (Ok part) rest = rest part.value part.next
after (Err flaw) rest = Err flaw

-- what is made of a part's value
abbrev pub made : {X Y : Type 0} → (X → Y) → Part X → Part Y
made f part = after part (λ x next. taken (f x) next)

-- the byte at a place: the job may end too early
abbrev pub byte : List ℕ → ℕ → Part ℕ
byte job at = cond (nat_lt at (length job)) (taken (slice_index job at) (at + 1)) (flawed EndsEarly (length job))

-- the number at a place: two bytes, low byte first
abbrev pub number : List ℕ → ℕ → Part ℕ
number job at = after (byte job at) (λ low next. after (byte job next) (λ high end. taken (low + 256 * high) end))
