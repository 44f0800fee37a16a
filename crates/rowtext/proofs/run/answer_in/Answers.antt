use Rattle.std.proofs.Common.{◌≡◌, Ok, Err, sym, ap, subst, ◌∙◌}
use Rattle.std.proofs.lemmas.Result.{err_from_is_err_and}
use Rattle.rowtext.specs.Reading.{given, reads_as}
use Rattle.rowtext.specs.Rooms.{room_of}
use Rattle.rowtext.proofs.Ended.{no_room}
use Rattle.rowtext.proofs.run.answer_in.Goals as goal

pub returns-in_err-answer : goal.returns-in_err-answer
returns-in_err-answer c =
    let p = err_from_is_err_and c.from_residual-in_err-answer.result c.from_residual-in_err-answer.ensures.1 in
    let h = c.in_ok-heading.heading in
    let reads : reads_as c.args.room.now.text.items ≡ Ok (given c.as_slice-2.result.now h) =
    subst (λ cells. reads_as c.args.room.now.text.items ≡ Ok (given cells h)) (sym c.as_slice-2.ensures.value)
    (subst (λ text. reads_as text ≡ Ok (given c.read.new.cells.items h)) c.as_slice.ensures.value c.in_ok-heading.ensures) in
    no_room (room_of c.args.room.now) c.args.room.now.text.items c.answer.new.said.items c.as_slice-2.result.now h _ reads c.in_err-answer.ensures (p.1 ∙ ap Err p.2)
