use Rattle.std.proofs.Common.{length, ap, arith}
use Rattle.std.specs.Prelude.{codes}
use Rattle.rowtext.proofs.Parted.{length-parts}
use Rattle.rowtext.proofs.lines.Lines.new.Goals as goal

pub invariant_of-result : goal.invariant_of-result
invariant_of-result c = omega (arith, ap length c.lines.ensures, length-parts (codes "\n") c.args.text.now)
