use Rattle.std.proofs.Common.{◌≡◌, ℕ, ◌+◌, ◌<◌, List, length, get_or, drop, Some, Option, sym, ap, ◌∙◌}
use Rattle.std.proofs.lemmas.List.{at_drop_more, at_drop_all}
use Rattle.std.proofs.lemmas.Result.{err_from_is_err_and}
use Rattle.row.specs.Checked.{checked}
use Rattle.row.specs.Records.{then}
use Rattle.row.specs.Refusals.{next_refusal, cells_refusal}
use Rattle.row.specs.declared.Cell.{Cell}
use Rattle.row.specs.declared.Refusal.{Refusal}
use Rattle.row.proofs.Defaults.{no_cell}
use Rattle.row.proofs.check.check_cells.Goals as goal

-- one turn: what the cell's own checks say goes before what is left to check
one_more : (last : Option Cell) (cells : List Cell) (i : ℕ) (found : Option Refusal) → i < length cells → found ≡ next_refusal last (get_or cells i no_cell) → then found (cells_refusal (Some (get_or cells i no_cell)) (drop (i + 1) cells)) ≡ cells_refusal last (drop i cells)
one_more last cells i found within is =
    ap (λ o. then o (cells_refusal (Some (get_or cells i no_cell)) (drop (i + 1) cells))) is ∙ sym (at_drop_more (cells_refusal last) cells i no_cell within)

pub returns-in_err-check_next : goal.returns-in_err-check_next
returns-in_err-check_next c =
    let stop = err_from_is_err_and c.from_residual.result c.from_residual.ensures.1 in
    let turn = one_more c.loop-cell.last c.args.cells.now c.loop-cell.cell-index _ c.loop-cell-test.true c.in_err-check_next.ensures in
    ap checked stop.1 ∙ ap Some stop.2 ∙ turn ∙ c.loop-cell.invariant

pub loop-cell-preserved : goal.loop-cell-preserved
loop-cell-preserved c =
    one_more c.loop-cell.last c.args.cells.now c.loop-cell.cell-index _ c.loop-cell-test.true c.in_ok-check_next.ensures ∙ c.loop-cell.invariant

pub returns : goal.returns
returns c = sym (at_drop_all (cells_refusal c.loop-cell.last) c.args.cells.now c.loop-cell.cell-index c.loop-cell-test.false) ∙ c.loop-cell.invariant
