use Rattle.std.proofs.Common.{arith, refl}
use Rattle.std.proofs.lemmas.Grind.{common_steps}
use Rattle.std.proofs.lemmas.List.Recursion.{is_sum_by}
use Rattle.row.specs.Records.{widths}
use Rattle.row.proofs.check.widths_of.Goals as goal

pub returns : goal.returns
returns c = grind (arith, common_steps, is_sum_by widths (λ cell. cell.width) refl (λ _ _. refl))
