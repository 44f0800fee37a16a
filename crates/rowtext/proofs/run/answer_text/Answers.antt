use Rattle.std.proofs.Common.{Ok, Err, refl, sym, ap, ◌∙◌}
use Rattle.std.proofs.lemmas.Result.{err_from_is_err_and}
use Rattle.rowtext.specs.Rooms.{room_of}
use Rattle.rowtext.proofs.Ended.{unanswered, undelivered}
use Rattle.rowtext.proofs.run.answer_text.Goals as goal

pub returns-in_err-answer_in : goal.returns-in_err-answer_in
returns-in_err-answer_in g c =
    let p = err_from_is_err_and c.from_residual-in_err-answer_in.result c.from_residual-in_err-answer_in.ensures.1 in
    let room = c.args.room.now in
    unanswered (room_of room) (room_of (record room { text = c.fetch_text.new.text })) _ _ _ _ _ _ c.answer_in.new.room.said.items _ _ _ c.fetch_text.ensures c.in_ok-fetch_text.was c.in_err-answer_in.ensures refl refl refl (p.1 ∙ ap Err p.2)

pub returns-in_err-deliver : goal.returns-in_err-deliver
returns-in_err-deliver g c =
    let p = err_from_is_err_and c.from_residual-in_err-deliver.result c.from_residual-in_err-deliver.ensures.1 in
    let halted = c.in_err-deliver.ensures.part in
    undelivered (room_of c.args.room.now) _ _ _ _ _ _ _ c.as_slice.result.now halted.1.0 _ _ c.fetch_text.ensures c.in_ok-fetch_text.was
    (c.in_ok-answer_in.ensures ∙ ap Ok (sym c.as_slice.ensures.value)) halted.0 halted.1.1 (p.1 ∙ ap Err p.2)
