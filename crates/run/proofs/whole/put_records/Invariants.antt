use Rattle.std.proofs.Common.{◌≡◌, length}
use Rattle.run.proofs.Rests.{SoFar}
use Rattle.run.proofs.Turns.{left}
use Rattle.run.specs.State.{state}
use Rattle.run.proofs.whole.put_records.Given as goal

-- what was put and what is left is all that is said
abbrev pub invariant-loop-step : goal.invariant-loop-step
invariant-loop-step l = SoFar l.initial.out l.initial.run l.added l.out l.run × (length l.buffer ≡ 320)

-- the steps that are left
abbrev pub decreases-loop-step : goal.decreases-loop-step
decreases-loop-step l = left (state l.run)
