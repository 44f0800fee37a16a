-- How a run ends, from how its steps end.
use Rattle.std.proofs.Common.{◌≡◌, ℕ, ◌<◌, ◌≤◌, ◌⊎◌, inl, inr, List, [], ◌∷◌, length, take, Ok, Err, Option, Result, sym, ap, subst, ◌∙◌, arith, length-take}
use Rattle.std.proofs.lemmas.List.{take_min}
use Rattle.std.specs.Io.{StartsWith}
use Rattle.std.specs.Io.KnownBytes.{Appends, IsAtEnd}
use Rattle.std.proofs.KnownBytes.{Appends-nil}
use Rattle.measure.specs.declared.name.MeasureName.{MeasureName}
use Rattle.row.specs.declared.Cell.{Cell}
use Rattle.row.specs.declared.Row.{Row}
use Rattle.rowtext.specs.declared.read.Heading.{Heading}
use Rattle.rowtext.specs.declared.trouble.Trouble.{Trouble}
use Rattle.rowtext.specs.declared.trouble.Trouble.TheVariants.{Unreadable as unreadable, TooLong, NoMemory, NotRead, NotWritten}
use Rattle.rowtext.specs.declared.trouble.Unreadable.{Unreadable}
use Rattle.rowtext.specs.declared.TheConstants.{MOST_BYTES}
use Rattle.rowtext.specs.declared.trouble.Form.TheVariants as form
use Rattle.rowtext.specs.Lines.{Counted, counted, end_of}
use Rattle.rowtext.specs.Forms.{cell_of, measure_of, row_of}
use Rattle.rowtext.specs.Reading.{Given, after_first, at_line, cells_of, first_of, given, lines_in, reads_as}
use Rattle.rowtext.specs.Rooms.{Capacity}
use Rattle.rowtext.specs.Runs.{Answered, LacksFor, Ran, RunEnds, answer_to, bytes_said}
use Rattle.rowtext.specs.Shown.{said}
use Rattle.rowtext.specs.Steps.{then}
use Rattle.rowtext.specs.Fetching.{FetchedText}
use Rattle.streams.specs.Streams.{Delivered}
use Rattle.rowtext.specs.Text.{lines}

-- a step that gives a value was preceded by one that did
pub step_before : {A B E : Type 0} (first : Result A E) (next : A → Result B E) (y : B) → then first next ≡ Ok y → (x : A) × (first ≡ Ok x) × (next x ≡ Ok y)
step_before (Ok x) next y e = (x, (λ _. Ok x), e)
step_before (Err why) next y e = cc

-- there is a cell for each line
cells_counted : (lines : List Counted) (cells : List Cell) → cells_of lines ≡ Ok cells → length cells ≡ length lines
cells_counted [] cells e = let same : [] ≡ cells = cc in sym (ap length same)
cells_counted (l ∷ ls) cells e =
    let first = step_before (at_line l.number (cell_of l.words)) (λ c. then (cells_of ls) (λ cs. Ok (c ∷ cs))) cells e in
    let rest = step_before (cells_of ls) (λ cs. Ok (first.0 ∷ cs)) cells first.2 in
    let same : first.0 ∷ rest.0 ≡ cells = cc in
    let count = cells_counted ls rest.0 rest.1 in
    omega (arith, ap length same, count)

-- no more lines are left without the first
fewer : (lines : List Counted) → length (after_first lines) ≤ length lines
fewer [] = omega arith
fewer (l ∷ ls) = omega arith

-- the cells that a text gives are no more than its lines that count
pub cells_few : (text : List ℕ) (g : Given) → reads_as text ≡ Ok g → length g.cells ≤ lines_in text
cells_few text g e =
    let all = counted 0 (lines text) in
    let entries = after_first (after_first all) in
    let ends : MeasureName → Row → List Cell → Result Given Unreadable = λ m r cells. Ok (record { measure = m; row = r; cells = cells }) in
    let measure = step_before (first_of form.Measure measure_of (end_of text) all) (λ m. then (first_of form.Row row_of (end_of text) (after_first all)) (λ r. then (cells_of entries) (ends m r))) g e in
    let row = step_before (first_of form.Row row_of (end_of text) (after_first all)) (λ r. then (cells_of entries) (ends measure.0 r)) g measure.2 in
    let cells = step_before (cells_of entries) (ends measure.0 row.0) g row.2 in
    let same : record { measure = measure.0; row = row.0; cells = cells.0 } ≡ g = cc in
    omega (arith, ap (λ g. length g.cells) same, cells_counted entries cells.0 cells.1, fewer all, fewer (after_first all))

-- a buffer was full in an answer
pub no_room : (room : Capacity) (text bytes : List ℕ) (cells : List Cell) (h : Heading) (r : Result (Unit {0}) Trouble) → reads_as text ≡ Ok (given cells h) → (room.sites < length cells) ⊎ (room.said < length (said h.measure h.row cells)) → r ≡ Err NoMemory → Answered room text bytes r
no_room room text bytes cells h r reads full e =
    let few = cells_few text (given cells h) reads in
    let told : answer_to text ≡ Ok (said h.measure h.row cells) = ap (λ given. then given (λ given. Ok (said given.measure given.row given.cells))) reads in
    let long : length (bytes_said (answer_to text)) ≡ length (said h.measure h.row cells) = ap (λ answer. length (bytes_said answer)) told in
    subst (Answered room text bytes) (sym e) (elim full as (λ _. LacksFor room text) [
      | inl sites ↦ inr (inl (omega (arith, sites, few)))
      | inr said ↦ inr (inr (omega (arith, said, long)))
    ])

-- how a run ends whose text was read whole and got no answer
unanswered_ends : (room : Capacity) (at_end unread unwritten : Type 0) (read bytes : List ℕ) (why : Trouble) → at_end → length read ≤ MOST_BYTES → Answered room read bytes (Err why) → RunEnds room at_end unread unwritten read [] (Err why)
unanswered_ends room at_end unread unwritten read bytes (unreadable why) whole short answered = ((whole, short), answered, (λ _. []))
unanswered_ends room at_end unread unwritten read bytes NoMemory whole short answered = (inr ((whole, short), answered), (λ _. []))
unanswered_ends room at_end unread unwritten read bytes TooLong whole short answered = absurd answered
unanswered_ends room at_end unread unwritten read bytes NotRead whole short answered = absurd answered
unanswered_ends room at_end unread unwritten read bytes NotWritten whole short answered = absurd answered

-- the room for the text does not matter to an answer
same_room : (room after : Capacity) (text bytes : List ℕ) (why : Trouble) → after.cells ≡ room.cells → after.sites ≡ room.sites → after.said ≡ room.said → Answered after text bytes (Err why) → Answered room text bytes (Err why)
same_room room after text bytes (unreadable why) cells sites said answered = answered
same_room room after text bytes TooLong cells sites said answered = absurd answered
same_room room after text bytes NotRead cells sites said answered = absurd answered
same_room room after text bytes NotWritten cells sites said answered = absurd answered
same_room room after text bytes NoMemory cells sites said answered = elim answered as (λ _. LacksFor room text) [
  | inl few ↦ inl (omega (arith, few, cells))
  | inr more ↦ inr (elim more as (λ _. (room.sites < lines_in text) ⊎ (room.said < length (bytes_said (answer_to text)))) [
    | inl few ↦ inl (omega (arith, few, sites))
    | inr few ↦ inr (omega (arith, few, said))
  ])
]

-- a run ends so whose text was read whole and got no answer
pub unanswered : (room after : Capacity) (a b out : Option (List ℕ)) (unread unwritten : Type 0) (text bytes : List ℕ) (why : Trouble) (fetch r : Result (Unit {0}) Trouble)
    → FetchedText a b unread room.text text fetch → fetch ≡ Ok tt → Answered after text bytes (Err why) → after.cells ≡ room.cells → after.sites ≡ room.sites → after.said ≡ room.said → r ≡ Err why → Ran room a b out out unread unwritten r
unanswered room after a b out unread unwritten text bytes why fetch r came whole_came answered cells sites said e =
    let fetched : FetchedText a b unread room.text text (Ok tt) = subst (FetchedText a b unread room.text text) whole_came came in
    let whole = fetched.ends.0 in
    let short = fetched.ends.1 in
    let here : Answered after fetched.read bytes (Err why) = subst (λ t. Answered after t bytes (Err why)) fetched.ends.2 answered in
    let ends = unanswered_ends room (IsAtEnd b) unread unwritten fetched.read bytes why whole short (same_room room after fetched.read bytes why cells sites said here) in
    record {
      read = fetched.read;
      consumed = fetched.consumed;
      little = fetched.little;
      put = [];
      grown = Appends-nil out;
      ends = subst (RunEnds room (IsAtEnd b) unread unwritten fetched.read []) (sym e) ends;
    }

-- the first bytes of some are where these start
starts_with_take : (n : ℕ) (bytes : List ℕ) → StartsWith bytes (take n bytes)
starts_with_take n bytes = ap (λ k. take k bytes) (length-take n bytes) ∙ take_min n bytes

-- a run ends so whose answer could not be delivered
pub undelivered : (room : Capacity) (a b out out_after : Option (List ℕ)) (unread unwritten : Type 0) (text bytes : List ℕ) (n : ℕ) (fetch r : Result (Unit {0}) Trouble)
    → FetchedText a b unread room.text text fetch → fetch ≡ Ok tt → answer_to text ≡ Ok bytes → unwritten → Appends out out_after (take n bytes) → r ≡ Err NotWritten → Ran room a b out out_after unread unwritten r
undelivered room a b out out_after unread unwritten text bytes n fetch r came whole_came answered halted grown e =
    let fetched : FetchedText a b unread room.text text (Ok tt) = subst (FetchedText a b unread room.text text) whole_came came in
    let here : answer_to fetched.read ≡ Ok bytes = subst (λ t. answer_to t ≡ Ok bytes) fetched.ends.2 answered in
    record {
      read = fetched.read;
      consumed = fetched.consumed;
      little = fetched.little;
      put = take n bytes;
      grown = grown;
      ends = subst (RunEnds room (IsAtEnd b) unread unwritten fetched.read (take n bytes)) (sym e) ((fetched.ends.0, fetched.ends.1), halted, (bytes, here, starts_with_take n bytes));
    }

-- a delivery of bytes is one of the bytes that they are
pub delivered_as : {E : Type 0} (before after : Option (List ℕ)) (failed : Type 0) (bytes same : List ℕ) (r : Result (Unit {0}) E) → Delivered before after failed bytes r → bytes ≡ same → Delivered before after failed same r
delivered_as before after failed bytes same r delivered is = subst (λ bs. Delivered before after failed bs r) is delivered
