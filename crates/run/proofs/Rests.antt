-- The records of a job, carried out one after another: what is put, what comes of them, and what is
-- left.
use Rattle.std.proofs.Common.{◌≡◌, ℕ, List, ◌++◌, reverse, Some, None, Result, Vec, sym, ap, subst, ◌∙◌, append_assoc, append-nil}
use Rattle.std.specs.declared.alloc.Global.{Global}
use Rattle.std.specs.declared.alloc.AllocError.{AllocError}
use Rattle.history.specs.Lawful.{Lawful}
use Rattle.history.specs.declared.call.Event.{Event}
use Rattle.measure.specs.Costs.{Price}
use Rattle.measure.specs.declared.Measure.{Ghosts}
use Rattle.measure.specs.declared.name.MeasureName.{MeasureName}
use Rattle.run.specs.Parts.{rest_events, rest_fault, rest_lines, rest_tables}
use Rattle.lines.specs.Appended.{Appends}
use Rattle.run.specs.State.{State, floor_of, measure_in, price_in, state}
use Rattle.run.specs.Turns.{Turn, turn, turn_events}
use Rattle.run.specs.declared.run.Run.{Run}
use Rattle.run.proofs.Turns.{follows, finished, latest, no_events}

abbrev Buffer : Type 0
Buffer = Vec ℕ Global

abbrev Answer : Type 0
Answer = Result (Unit {0}) AllocError

module _ {m : Ghosts MeasureName} (out : Buffer) (run : Run MeasureName m) where
  -- so far: what was put and what came of the calls, with what is left, is all of it
  pub record SoFar (added : Answer) (to : Buffer) (now : Run MeasureName m) : Type 0 where
    pub said : List ℕ
    pub done : List Event
    pub puts : Appends out added said to
    pub lines : said ++ rest_lines (price_in run) (state now) ≡ rest_lines (price_in run) (state run)
    pub tables : rest_tables (price_in run) (state now) ≡ rest_tables (price_in run) (state run)
    pub fault : rest_fault (state now) ≡ rest_fault (state run)
    pub events : done ++ rest_events (price_in run) (state now) ≡ rest_events (price_in run) (state run)
    pub law : (history : List Event) → Lawful history (floor_of run) → Lawful (reverse done ++ history) (floor_of now)
    pub same : measure_in now ≡ measure_in run

  -- at the end: all of it is put, and has come of the calls
  pub record AtLast (added : Answer) (to : Buffer) (last : Run MeasureName m) : Type 0 where
    pub lines : Appends out added (rest_lines (price_in run) (state run)) to
    pub tables : (state last).tables ≡ rest_tables (price_in run) (state run)
    pub fault : (state last).told ≡ rest_fault (state run)
    pub law : (history : List Event) → Lawful history (floor_of run) → Lawful (reverse (rest_events (price_in run) (state run)) ++ history) (floor_of last)

  -- what a step of a run leaves behind its law
  abbrev pub StepLaw : Price → Run MeasureName m → Run MeasureName m → Type 0
  StepLaw price now then = (history : List Event) → Lawful history (floor_of now) → Lawful (turn_events price (state now) (state now).records ++ history) (floor_of then)

  -- one step more
  pub so_far_more : (added put : Answer) (to grown : Buffer) (now then : Run MeasureName m) (line : List ℕ) (t : Turn) → (so_far : SoFar added to now)
      → turn (price_in now) (state now) ≡ Some t → state then ≡ t.after → line ≡ t.said.line → Appends out put (so_far.said ++ line) grown
      → StepLaw (price_in now) now then → measure_in then ≡ measure_in now → SoFar put grown then
  so_far_more added put to grown now then line t so_far is after line_is puts law same =
      let price = price_in run in
      let s = state now in
      let priced : price_in now ≡ price = ap m.price so_far.same in
      let goes = follows price s t (subst (λ (p : Price). turn p s ≡ Some t) priced is) in
      let events = turn_events price s s.records in
      record {
        said = so_far.said ++ line;
        done = so_far.done ++ events;
        puts = puts;
        lines =
            ap (λ (u : State). (so_far.said ++ line) ++ rest_lines price u) after
            ∙ ap (λ bytes. (so_far.said ++ bytes) ++ rest_lines price t.after) line_is
            ∙ append_assoc so_far.said t.said.line (rest_lines price t.after)
            ∙ ap (λ bytes. so_far.said ++ bytes) (sym goes.lines)
            ∙ so_far.lines;
        tables = ap (rest_tables price) after ∙ sym goes.tables ∙ so_far.tables;
        fault = ap rest_fault after ∙ sym goes.fault ∙ so_far.fault;
        events =
            ap (λ (u : State). (so_far.done ++ events) ++ rest_events price u) after
            ∙ append_assoc so_far.done events (rest_events price t.after)
            ∙ ap (λ es. so_far.done ++ es) (sym goes.events)
            ∙ so_far.events;
        law = λ history lawful.
            subst (λ es. Lawful es (floor_of then)) (latest price s so_far.done history)
            (subst (λ (p : Price). Lawful (turn_events p s s.records ++ (reverse so_far.done ++ history)) (floor_of then)) priced
            (law (reverse so_far.done ++ history) (so_far.law history lawful)));
        same = same ∙ so_far.same;
      }

  -- no step is left
  pub so_far_last : (added : Answer) (to : Buffer) (now last : Run MeasureName m) → (so_far : SoFar added to now)
      → turn (price_in now) (state now) ≡ None → state last ≡ state now → StepLaw (price_in now) now last → AtLast added to last
  so_far_last added to now last so_far is stays law =
      let price = price_in run in
      let s = state now in
      let priced : price_in now ≡ price = ap m.price so_far.same in
      let none = subst (λ (p : Price). turn p s ≡ None) priced is in
      let ends = finished price s none in
      let done : so_far.done ≡ rest_events price (state run) = sym (append-nil so_far.done) ∙ ap (λ es. so_far.done ++ es) (sym ends.events) ∙ so_far.events in
      record {
        lines = subst (λ bytes. Appends out added bytes to) (sym (append-nil so_far.said) ∙ ap (λ bytes. so_far.said ++ bytes) (sym ends.lines) ∙ so_far.lines) so_far.puts;
        tables = ap (λ (u : State). u.tables) stays ∙ sym ends.tables ∙ so_far.tables;
        fault = ap (λ (u : State). u.told) stays ∙ sym ends.fault ∙ so_far.fault;
        law = λ history lawful.
            subst (λ es. Lawful (reverse es ++ history) (floor_of last)) done
            (subst (λ es. Lawful (es ++ (reverse so_far.done ++ history)) (floor_of last)) (no_events price s none)
            (subst (λ (p : Price). Lawful (turn_events p s s.records ++ (reverse so_far.done ++ history)) (floor_of last)) priced
            (law (reverse so_far.done ++ history) (so_far.law history lawful))));
      }
