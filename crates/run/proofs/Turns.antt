-- A step of a run: what its answer says of the turn that it took, and what is left after it.
use Rattle.std.proofs.Common.{◌≡◌, ℕ, ◌+◌, ◌<◌, Bool, true, false, List, [], ◌∷◌, ◌++◌, length, take, reverse, is_some, Some, None, Ok, Err, Option, Result, if◌then◌else◌, refl, sym, ap, subst, ◌∙◌, append_assoc, append-nil, arith}
use Rattle.std.proofs.lemmas.Bool.{le-leb}
use Rattle.std.proofs.lemmas.List.{reverse-append}
use Rattle.std.proofs.Math.Seq.{take-append_seam}
use Rattle.std.specs.Option.{option_map}
use Rattle.measure.specs.Costs.{Price}
use Rattle.floor.specs.Tables.{Tables}
use Rattle.history.specs.Events.{event_of, events_of, tables_then}
use Rattle.history.specs.declared.call.Event.{Event}
use Rattle.job.specs.Format.{Content}
use Rattle.job.specs.declared.record.Fault as unread
use Rattle.lines.specs.Writes.{short_buffer, takes_lines}
use Rattle.lines.specs.declared.short_buffer.ShortBuffer.{ShortBuffer}
use Rattle.run.specs.Parts.{rest_events, rest_fault, rest_lines, rest_tables}
use Rattle.run.specs.State.{State, records_ahead}
use Rattle.run.specs.Steps.{buffer_left, state_left, step_of, step_answer, step_state, step_buffer}
use Rattle.run.specs.Texts.{calls_in, fault_line, record_lines}
use Rattle.run.specs.Turns.{Turn, call_in, event_in, event_said, fault_turn, name_in, record_turn, turn, turn_by, turn_events, unread_said}
use Rattle.run.specs.declared.run.Step.{Step}

-- one for a fault
abbrev pub count : Option unread.Fault → ℕ
count None = 0
count (Some fault) = 1

-- as many steps are left
abbrev pub left : State → ℕ
left s = length s.records + count s.fault

module _ (price : Price) where
  -- a turn takes the first of what is left
  pub record Follows (s : State) (t : Turn) : Type 0 where
    pub lines : rest_lines price s ≡ t.said.line ++ rest_lines price t.after
    pub tables : rest_tables price s ≡ rest_tables price t.after
    pub events : rest_events price s ≡ turn_events price s s.records ++ rest_events price t.after
    pub fault : rest_fault s ≡ rest_fault t.after
    pub fewer : left t.after < left s

  follows_by : (index : ℕ) (records : List Content) (fault told : Option unread.Fault) (tables : Tables) (t : Turn)
      → let s : State = record { index = index; records = records; fault = fault; told = told; tables = tables } in turn_by price s records fault ≡ Some t → Follows s t
  follows_by index (c ∷ records) fault told tables t is =
      let s : State = record { index = index; records = c ∷ records; fault = fault; told = told; tables = tables } in
      let that : record_turn price s c records ≡ t = cc in
      subst (Follows s) that (record { lines = append_assoc (event_said index (name_in c) (event_of price tables (call_in c))).line (record_lines (index + 1) records (events_of price (tables_then price tables (call_in c)) (calls_in records))) (fault_line fault); tables = refl; events = refl; fault = refl; fewer = omega arith })
  follows_by index [] (Some f) told tables t is =
      let s : State = record { index = index; records = []; fault = Some f; told = told; tables = tables } in
      let that : fault_turn price s f ≡ t = cc in
      subst (Follows s) that (record { lines = sym (append-nil (unread_said f).line); tables = refl; events = refl; fault = refl; fewer = omega arith })
  follows_by index [] None told tables t is = absurd (cc)

  pub follows : (s : State) (t : Turn) → turn price s ≡ Some t → Follows s t
  follows s t is = follows_by s.index s.records s.fault s.told s.tables t is

  -- nothing is left
  pub record Finished (s : State) : Type 0 where
    pub lines : rest_lines price s ≡ []
    pub tables : rest_tables price s ≡ s.tables
    pub events : rest_events price s ≡ []
    pub fault : rest_fault s ≡ s.told

  finished_by : (index : ℕ) (records : List Content) (fault told : Option unread.Fault) (tables : Tables)
      → let s : State = record { index = index; records = records; fault = fault; told = told; tables = tables } in turn_by price s records fault ≡ None → Finished s
  finished_by index (c ∷ records) fault told tables is = absurd (cc)
  finished_by index [] (Some f) told tables is = absurd (cc)
  finished_by index [] None told tables is = record { lines = refl; tables = refl; events = refl; fault = refl }

  pub finished : (s : State) → turn price s ≡ None → Finished s
  finished s is = finished_by s.index s.records s.fault s.told s.tables is

  -- where no step is left, nothing comes of one
  none_by_rest : (s : State) (records : List Content) (fault : Option unread.Fault) → turn_by price s records fault ≡ None → turn_events price s records ≡ []
  none_by_rest s (c ∷ records) fault is = absurd (cc)
  none_by_rest s [] fault is = refl

  pub no_events : (s : State) → turn price s ≡ None → turn_events price s s.records ≡ []
  no_events s is = none_by_rest s s.records s.fault is

  -- the events of a step, the latest first, behind those before it
  latest_by : (s : State) (records : List Content) (done history : List Event) → turn_events price s records ++ (reverse done ++ history) ≡ reverse (done ++ turn_events price s records) ++ history
  latest_by s [] done history = ap (λ events. reverse events ++ history) (sym (append-nil done))
  latest_by s (c ∷ records) done history = ap (λ events. events ++ history) (sym (reverse-append done (event_in price s c ∷ [])))

  pub latest : (s : State) (done history : List Event) → turn_events price s s.records ++ (reverse done ++ history) ≡ reverse (done ++ turn_events price s s.records) ++ history
  latest s done history = latest_by s s.records done history

-- what is left, unless a fault has ended the job
pub ahead : (told : Option unread.Fault) (records later : List Content) (c : Content) → is_some told ≡ false → records ≡ c ∷ later → records_ahead told records ≡ c ∷ later
ahead None records later c e is = is
ahead (Some fault) records later c e is = absurd (cc)

-- the answer of a step whose buffer is long enough
abbrev stepped : Option Step → Result (Option Step) ShortBuffer
stepped step = Ok step

module _ (price : Price) (s : State) where
  -- the turn of a step
  pub record Taken (step : Step) (after : State) (buffer : List ℕ) : Type 0 where
    pub turn_is : Turn
    pub is : turn price s ≡ Some turn_is
    pub state_is : after ≡ turn_is.after
    pub line_is : take step.length buffer ≡ turn_is.said.line

  taken_by : (buffer : List ℕ) (step : Step) (b : Bool) (o : Option Turn) → b ≡ true → Ok (Some step) ≡ (if b then stepped (option_map step_of o) else Err short_buffer)
      → (t : Turn) × (o ≡ Some t) × ((if b then state_left s o else s) ≡ t.after) × (take step.length (if b then buffer_left buffer o else buffer) ≡ t.said.line)
  taken_by buffer step true None e answer = absurd (cc)
  taken_by buffer step true (Some t) e answer = let is : step ≡ step_of t = cc in (t, refl, refl, rw is (take-append_seam _ _))
  taken_by buffer step false o e answer = absurd (cc)

  pub step_taken : (buffer wrote : List ℕ) (step : Step) (after : State) → length buffer ≡ 320 → Ok (Some step) ≡ step_answer price s buffer → after ≡ step_state price s buffer → wrote ≡ step_buffer price s buffer → Taken step after wrote
  step_taken buffer wrote step after size answer goes writes =
      let by = taken_by buffer step (takes_lines buffer) (turn price s) (le-leb 320 (length buffer) (omega arith)) answer in
      record { turn_is = by.0; is = by.1; state_is = goes ∙ by.2; line_is = ap (take step.length) writes ∙ by.3 }

  none_by : (b : Bool) (o : Option Turn) → b ≡ true → stepped None ≡ (if b then stepped (option_map step_of o) else Err short_buffer) → (o ≡ None) × ((if b then state_left s o else s) ≡ s)
  none_by true None e answer = (refl, refl)
  none_by true (Some t) e answer = absurd (cc)
  none_by false o e answer = absurd (cc)

  -- no step: nothing is left, and the state stays
  pub no_step : (buffer : List ℕ) (after : State) → length buffer ≡ 320 → Ok None ≡ step_answer price s buffer → after ≡ step_state price s buffer → (turn price s ≡ None) × (after ≡ s)
  no_step buffer after size answer goes =
      let by = none_by (takes_lines buffer) (turn price s) (le-leb 320 (length buffer) (omega arith)) answer in
      (by.0, goes ∙ by.1)
