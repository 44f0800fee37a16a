use Rattle.std.specs.Io.KnownBytes.{Keeps}
use Rattle.streams.proofs.sink.deliver_again.Given as goal

-- nothing is written yet
abbrev pub invariant-loop : goal.invariant-loop
invariant-loop g l = Keeps (g.W.Sink.contents l.fn.out) (g.W.Sink.contents l.out)
