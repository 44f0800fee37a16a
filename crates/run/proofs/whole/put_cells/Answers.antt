use Rattle.std.proofs.Common.{◌≡◌, ◌++◌, take, append-nil, sym, ap, subst, ◌∙◌, take_all, arith}
use Rattle.std.proofs.lemmas.Option.{slice_get_within}
use Rattle.lines.specs.Appended.{Appends}
use Rattle.run.specs.State.{state}
use Rattle.run.specs.Steps.{seat_text}
use Rattle.run.specs.Texts.{cell_lines}
use Rattle.run.proofs.Cells.{cells_more, cell_taken, no_cell}
use Rattle.run.proofs.whole.put_cells.Goals as goal

pub loop-k-init : goal.loop-k-init
loop-k-init c = (λ from said puts. subst (λ bytes. Appends from c.args.added bytes c.args.out.now) (sym (append-nil said)) puts, omega arith)

pub loop-k-preserved : goal.loop-k-preserved
loop-k-preserved c =
    let tables = (state c.args.run.now).tables in
    let k = c.loop-k.k in
    let cell = cell_taken tables k c.in-Ok.length c.loop-k.buffer c.loop-k-test.array_long c.in-Ok.ensures.answer in
    let line : take c.in-Ok.length c.cell_line.new.buffer ≡ seat_text cell.0 = ap (take c.in-Ok.length) c.cell_line.ensures.after ∙ cell.2 in
    let within = slice_get_within tables.seats k cell.0 cell.1 in (
      λ from said puts.
          subst (λ bytes. Appends from c.put-added.result bytes c.put-added.new.out)
          (ap (λ bytes. (said ++ cell_lines (take k tables.seats)) ++ bytes) line ∙ cells_more said tables.seats k cell.0 cell.1)
          (c.put-added.ensures from (said ++ cell_lines (take k tables.seats)) (c.loop-k.invariant.0 from said puts)),
      omega arith,
    )

pub returns-in-Err : goal.returns-in-Err
returns-in-Err c = λ from said puts.
    let tables = (state c.args.run.now).tables in
    let past = no_cell tables c.loop-k.k c.in-Err.field-0 c.loop-k.buffer c.loop-k-test.array_long c.in-Err.ensures.answer in
    subst (λ seats. Appends from c.loop-k.added (said ++ cell_lines seats) c.loop-k.out) (take_all c.loop-k.k tables.seats past) (c.loop-k.invariant.0 from said puts)
