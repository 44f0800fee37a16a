use Rattle.std.proofs.Common.{rules, Err, ap, ◌∙◌}
use Rattle.std.proofs.lemmas.Result.{err_from_is_err_and}
use Rattle.rowtext.proofs.Fetching.{fetch_full, fetch_unread}
use Rattle.rowtext.proofs.fetch.fetch_text.Goals as goal

pub returns-in_err-count : goal.returns-in_err-count
returns-in_err-count g c =
    let p = err_from_is_err_and c.from_residual.result c.from_residual.ensures.1 in
    let halted = c.in_err-count.ensures.bytes.part in
    fetch_unread _ _ _ _ _ _ _ _ _ halted.1.0 _ c.loop-count.invariant halted.0 halted.1.1 halted.1.2 (search rules) (p.1 ∙ ap Err p.2)

pub returns-in_err-extend_from_slice : goal.returns-in_err-extend_from_slice
returns-in_err-extend_from_slice g c =
    let p = err_from_is_err_and c.from_residual-in_err-extend_from_slice.result c.from_residual-in_err-extend_from_slice.ensures.1 in
    fetch_full _ _ _ _ _ _ _ _ _ _ c.loop-count.invariant c.in_ok-count.ensures.bytes.front.0 (search rules) (search rules) (p.1 ∙ ap Err p.2)
