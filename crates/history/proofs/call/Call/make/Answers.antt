use Rattle.history.proofs.Lawful.{lawful_step}
use Rattle.history.proofs.call.Call.make.Goals as goal

pub returns-clause-law : goal.returns-clause-law
returns-clause-law g c =
    let floor = c.args.floor.now in
    let made = c.event_on.ensures in
    lawful_step floor c.event_on.new.floor c.args.self c.event_on.result (g.met.M.Measure.fair floor.measure) made.event made.tables made.same
