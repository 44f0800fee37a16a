use Rattle.std.proofs.Common.{◌≡◌, length}
use Rattle.rowtext.specs.Lines.{left, end}
use Rattle.rowtext.specs.Parts.{parts_left}
use Rattle.rowtext.proofs.lines.walk.LinesIterator.next.Given as goal

abbrev pub invariant-loop-line : goal.invariant-loop-line
invariant-loop-line l = (left l.self ≡ left l.initial.self) × (end l.self ≡ end l.initial.self)

abbrev pub decreases-loop-line : goal.decreases-loop-line
decreases-loop-line l = length (parts_left l.self.lines)
