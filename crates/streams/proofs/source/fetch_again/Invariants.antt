use Rattle.std.specs.Io.KnownBytes.{Keeps}
use Rattle.streams.proofs.source.fetch_again.Given as goal

-- nothing is read yet
abbrev pub invariant-loop : goal.invariant-loop
invariant-loop g l = Keeps (g.R.Source.remaining l.fn.input) (g.R.Source.remaining l.input)
