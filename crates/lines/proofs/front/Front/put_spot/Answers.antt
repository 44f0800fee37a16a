use Rattle.lines.proofs.Fronts.{puts_then}
use Rattle.lines.proofs.front.Front.put_spot.Goals as goal

pub returns : goal.returns
returns c = puts_then c.put_spaced.ensures c.put_spaced-2.ensures
