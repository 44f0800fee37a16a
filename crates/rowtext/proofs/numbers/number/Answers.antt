use Rattle.std.proofs.Common.{rules, tests, sym, ◌∙◌, subst}
use Rattle.std.specs.Str.Parse.{ParsesUnsigned}
use Rattle.rowtext.proofs.Digits.{no_text, number_parsed}
use Rattle.rowtext.proofs.numbers.number.Goals as goal

pub returns-in-Ok : goal.returns-in-Ok
returns-in-Ok c =
    let text = c.in-Ok.ensures.cases.0 in
    let parses = subst (λ bs. ParsesUnsigned 32 10 bs c.parse.result) text c.parse.ensures.value.0 in
    number_parsed c.args.word.now c.parse.result c.map_err.result (sym c.is_decimal.ensures ∙ c.if-is_decimal.true) c.requires parses (search (rules, tests))

pub returns-in_default-2 : goal.returns-in_default-2
returns-in_default-2 c = no_text c.args.word.now (search rules)
