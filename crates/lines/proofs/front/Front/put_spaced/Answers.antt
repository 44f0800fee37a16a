use Rattle.lines.proofs.Fronts.{puts_then}
use Rattle.lines.proofs.front.Front.put_spaced.Goals as goal

pub returns : goal.returns
returns g c = puts_then c.put.ensures c.put_number.ensures
