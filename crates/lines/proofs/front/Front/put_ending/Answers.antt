use Rattle.lines.proofs.Fronts.{puts_then}
use Rattle.lines.proofs.front.Front.put_ending.Goals as goal
use Rattle.lines.proofs.front.Front.put_ending.Goals.{in-Some, in_default}

pub returns : goal.returns
returns c =
    elim c.match-name.branch [
      | in-Some w ↦ rw w.in-Some.is (puts_then (puts_then w.put.ensures (rw w.bytes.ensures at w.put-in-Some.ensures)) (rw w.self-is at c.put-2.ensures))
      | in_default w ↦ rw (w.in_default.is, ← w.self-is) c.put-2.ensures
    ]
