use Rattle.std.proofs.Common.{◌++◌, List, Ok, Option, sym, ap, subst, ◌∙◌}
use Rattle.std.specs.Option.{option_map}
use Rattle.history.specs.Lawful.{Lawful}
use Rattle.job.specs.Format.{Content}
use Rattle.job.specs.Reading.{standing}
use Rattle.job.specs.Reads.{content}
use Rattle.job.specs.Records.{records_before, records_left}
use Rattle.job.specs.declared.record.Record.{Record}
use Rattle.run.specs.State.{floor_of, price_in, state}
use Rattle.run.specs.Turns.{turn_events}
use Rattle.run.proofs.Turns.{ahead}
use Rattle.run.proofs.run.Run.turn.Goals as goal

-- the record that was read is the first of those that were left
pub returns-in-Ok-Some-clause-law : goal.returns-in-Ok-Some-clause-law
returns-in-Ok-Some-clause-law g c = λ history lawful.
    let run = c.args.self.now in
    let first = ahead run.fault (records_left (standing run.reader)) (records_left (standing c.next_record.new.self)) (content c.in-Ok-Some.found) (sym c.is_some.ensures ∙ c.if-is_some.false) (c.in-Ok-Some.ensures.takes.records ∙ ap (λ (o : Option Record). records_before (Ok (option_map content o)) (records_left (standing c.next_record.new.self))) c.in-Ok-Some.field-0-is) in
    subst (λ (records : List Content). Lawful (turn_events (price_in run) (state run) records ++ history) (floor_of c.carry_out_record.new.self)) (sym first) (c.carry_out_record.ensures.law history lawful)
