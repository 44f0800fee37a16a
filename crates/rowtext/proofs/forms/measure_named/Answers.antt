use Rattle.std.proofs.Common.{◌≡◌, codes, sym, ap, arith}
use Rattle.std.proofs.lemmas.Grind.{same_number_lists}
use Rattle.rowtext.specs.Forms.{measure_named}
use Rattle.rowtext.proofs.forms.measure_named.Goals as goal

pub returns-in-squared : goal.returns-in-squared
returns-in-squared c =
    let spelled : c.args.word.now ≡ codes "squared" = same_number_lists _ _ (omega arith) (λ k l. grind arith) in
    sym (ap measure_named spelled)
