use Rattle.std.proofs.Common.{Err, ap, ◌∙◌, arith}
use Rattle.std.proofs.lemmas.Result.{err_from_is_err_and}
use Rattle.rowtext.specs.declared.trouble.Reason.TheVariants.{TooFewWords}
use Rattle.rowtext.specs.Parts.{parts_left}
use Rattle.rowtext.proofs.Numbered.{some_bytes, too_few, unread, one_more}
use Rattle.rowtext.proofs.fields.Fields.numbers.Goals as goal

pub returns-in_err-word : goal.returns-in_err-word
returns-in_err-word g c =
    let p = err_from_is_err_and c.from_residual.result c.from_residual.ensures.1 in
    let none = c.in_err-word.ensures.word in
    p.1 ∙ ap Err (p.2 ∙ none.2 ∙ ap (λ form. TooFewWords form) c.loop-value.invariant.same_form)
    ∙ too_few c.loop-value.invariant.sofar (omega arith) none.0

pub returns-in_err-value : goal.returns-in_err-value
returns-in_err-value g c =
    let p = err_from_is_err_and c.from_residual-in_err-value.result c.from_residual-in_err-value.ensures.1 in
    p.1 ∙ ap Err p.2 ∙ unread c.loop-value.invariant.sofar (omega arith) _ _ _ c.in_ok-word.ensures.word c.in_err-value.ensures

pub loop-value-preserved : goal.loop-value-preserved
loop-value-preserved g c = record {
  same_form = c.in_ok-word.ensures.form ∙ c.loop-value.invariant.same_form;
  sofar = one_more c.loop-value.invariant.sofar (omega arith) _ _ _ c.in_ok-word.ensures.word c.in_ok-value.ensures;
}

pub number-requires : goal.number-requires
number-requires g c = some_bytes (parts_left c.loop-value.self.words.0) _ _ c.in_ok-word.ensures.word
