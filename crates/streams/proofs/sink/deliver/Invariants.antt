use Rattle.std.proofs.Common.{◌-◌, length}
use Rattle.streams.proofs.Copied.{Delivering}
use Rattle.streams.proofs.sink.deliver.Given as goal

abbrev pub invariant-loop-done : goal.invariant-loop-done
invariant-loop-done g l = Delivering (g.W.Sink.contents l.fn.out) (g.W.Sink.contents l.out) l.bytes l.done

abbrev pub decreases-loop-done : goal.decreases-loop-done
decreases-loop-done g l = length l.bytes - l.done
