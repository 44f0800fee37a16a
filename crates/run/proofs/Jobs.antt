-- A whole job: what is printed of it, and the law of the floor that is left.
use Rattle.std.proofs.Common.{◌≡◌, ℕ, List, [], ◌∷◌, ◌++◌, map, reverse, Ok, Result, Vec, refl, sym, ap, subst, ◌∙◌, append_assoc, append-nil}
use Rattle.std.specs.declared.alloc.AllocError.{AllocError}
use Rattle.std.specs.declared.alloc.Global.{Global}
use Rattle.floor.specs.Tables.{Tables, no_tables}
use Rattle.floor.specs.declared.floor.Floor.{Floor}
use Rattle.history.specs.Events.{event_of, events_of, tables_then}
use Rattle.history.specs.Histories.{call_of}
use Rattle.history.specs.Lawful.{Lawful}
use Rattle.history.specs.declared.call.Call.{Call}
use Rattle.history.specs.declared.call.Call.TheVariants.{AddRow, Place, Try, Withdraw}
use Rattle.job.specs.Opening.{opening}
use Rattle.lines.specs.Appended.{Appends}
use Rattle.measure.specs.Costs.{Price}
use Rattle.measure.specs.Names.{named_price}
use Rattle.measure.specs.declared.Measure.{Ghosts}
use Rattle.measure.specs.declared.name.MeasureName.{MeasureName}
use Rattle.run.specs.Jobs.{JobLaw}
use Rattle.run.specs.Parts.{rest_events, rest_lines, rest_tables}
use Rattle.run.specs.Started.{started}
use Rattle.run.specs.State.{State, floor_of, measure_in, price_in, state}
use Rattle.run.specs.Steps.{costs_text}
use Rattle.run.specs.Texts.{calls_in, cell_lines, fault_line, job_text, lines_with, opened_text, record_lines}
use Rattle.run.specs.declared.run.Run.{Run}

-- what a job says, by what is left of it at its start
pub job_says : (bytes : List ℕ) (measure : MeasureName) (s : State) (price : Price) → opening bytes ≡ Ok measure → s ≡ started bytes no_tables → price ≡ named_price measure → job_text bytes ≡ lines_with price bytes (rest_events price s) (rest_tables price s)
job_says bytes measure s price opens starts priced =
    let first = sym starts in
    let named = sym priced in
    ap (opened_text bytes) opens ∙ (λ i. lines_with (named i) bytes (rest_events (named i) (first i)) (rest_tables (named i) (first i)))

-- an event is of its call
call_is : (price : Price) (tables : Tables) (call : Call) → call_of (event_of price tables call) ≡ call
call_is price tables (AddRow row) = refl
call_is price tables (Place cell) = refl
call_is price tables (Try cell) = refl
call_is price tables (Withdraw number) = refl

-- events are of their calls
calls_are : (price : Price) (tables : Tables) (calls : List Call) → map call_of (events_of price tables calls) ≡ calls
calls_are price tables [] = refl
calls_are price tables (call ∷ calls) = (λ i. call_is price tables call i ∷ calls_are price (tables_then price tables call) calls i)

module _ {m : Ghosts MeasureName} (bytes : List ℕ) (from to : Vec ℕ Global) (added : Result (Unit {0}) AllocError) (run last : Run MeasureName m) where
  -- the lines that were put one after another are those of the job
  pub all_put : state run ≡ started bytes no_tables
      → Appends from added ((rest_lines (price_in run) (state run) ++ cell_lines (state last).tables.seats) ++ costs_text (price_in last) (state last).tables) to
      → Appends from added (lines_with (price_in last) bytes (rest_events (price_in run) (state run)) (state last).tables) to
  all_put starts put =
      let events = rest_events (price_in run) (state run) in
      subst (λ text. Appends from added text to)
      (append_assoc (rest_lines (price_in run) (state run)) (cell_lines (state last).tables.seats) (costs_text (price_in last) (state last).tables)
      ∙ ap (λ (u : State). (record_lines u.index u.records events ++ fault_line u.fault) ++ (cell_lines (state last).tables.seats ++ costs_text (price_in last) (state last).tables)) starts)
      put

  -- the law of the floor that is left
  pub job_law : (floor : Floor MeasureName m) → floor ≡ floor_of last → state run ≡ started bytes no_tables → measure_in last ≡ measure_in run → opening bytes ≡ Ok (measure_in run)
      → Appends from added ((rest_lines (price_in run) (state run) ++ cell_lines (state last).tables.seats) ++ costs_text (price_in last) (state last).tables) to
      → Lawful (reverse (rest_events (price_in run) (state run)) ++ []) (floor_of last)
      → JobLaw bytes from added to floor
  job_law floor left starts same opens put lawful =
      let events = rest_events (price_in run) (state run) in
      subst (λ (f : Floor MeasureName m). JobLaw bytes from added to f) (sym left)
      (record {
        events = events;
        printed = all_put starts put;
        calls = calls_are (price_in run) (state run).tables (calls_in (state run).records) ∙ ap (λ (u : State). calls_in u.records) starts;
        lawful = subst (λ es. Lawful es (floor_of last)) (append-nil (reverse events)) lawful;
        measure = opens ∙ ap Ok (sym same);
      })
