use Rattle.lines.proofs.Fronts.{puts_then}
use Rattle.lines.proofs.Line.put.Goals as goal

pub returns-in-Granted : goal.returns-in-Granted
returns-in-Granted c = rw c.in-Granted.is (puts_then c.put_head.ensures c.put_ending.ensures)

pub returns-in-Seated : goal.returns-in-Seated
returns-in-Seated c =
    let spot = puts_then c.put_head-in-Seated.ensures c.put_spot.ensures in
    rw c.in-Seated.is (puts_then (puts_then spot c.put_spaced.ensures) c.put_ending-in-Seated.ensures)

pub returns-in-Refused : goal.returns-in-Refused
returns-in-Refused c =
    rw c.in-Refused.is (puts_then (puts_then c.put_head-in-Refused.ensures c.put_spaced-in-Refused.ensures) c.put_ending-in-Refused.ensures)

pub returns-in-Unreadable : goal.returns-in-Unreadable
returns-in-Unreadable c =
    let number = puts_then c.put_head-in-Unreadable.ensures c.put_spaced-in-Unreadable.ensures in
    rw c.in-Unreadable.is (puts_then (puts_then number c.put_spaced-in-Unreadable-2.ensures) c.put.ensures)

pub returns-in-Cell : goal.returns-in-Cell
returns-in-Cell c =
    rw c.in-Cell.is (puts_then (puts_then c.put_number.ensures c.put_spot-in-Cell.ensures) c.put-in-Cell.ensures)

pub returns-in-Cost : goal.returns-in-Cost
returns-in-Cost c =
    rw c.in-Cost.is (puts_then (puts_then c.put-in-Cost.ensures c.put_spaced-in-Cost.ensures) c.put-in-Cost-2.ensures)
