use Rattle.row.proofs.Parts.{part_ready}
use Rattle.row.proofs.task.Task.part.Goals as goal

pub invariant_of-result : goal.invariant_of-result
invariant_of-result g c = record { ready = part_ready c.args.self.now.row c.args.self.now.cells.now c.args.first c.args.past c.args.self.now.ready }
