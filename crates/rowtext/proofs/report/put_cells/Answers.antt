use Rattle.std.proofs.Common.{rules, ◌≡◌, ◌+◌, ◌<◌, ◌++◌, length, vec_capacity, vec_len, OnErr, refl, sym, ap, subst, ◌∙◌, arith, length-append}
use Rattle.std.proofs.lemmas.Result.{err_from_is_err_and}
use Rattle.std.proofs.lemmas.Slice.Zip.{either_empty_from_Zip}
use Rattle.std.specs.Iterator.Adapters.{zip_first, zip_second}
use Rattle.std.specs.Slice.Iter.{iter_rest}
use Rattle.rowtext.specs.Shown.{cell_lines}
use Rattle.rowtext.proofs.Printed.{lines_done}
use Rattle.rowtext.proofs.report.put_cells.Goals as goal

pub returns : goal.returns
returns c =
    let none = either_empty_from_Zip c.loop-cell.cell-iterator c.next.new.self _ refl c.in-None.ensures.steps in
    record {
      added = lines_done _ _ _ none ∙ c.loop-cell.invariant.put;
      full = tt;
      room = c.loop-cell.invariant.room;
    }

pub returns-in_err-extend_from_slice : goal.returns-in_err-extend_from_slice
returns-in_err-extend_from_slice c =
    let p = err_from_is_err_and c.from_residual.result c.from_residual.ensures.1 in
    let said = c.loop-cell.said.items in
    let line = c.as_bytes.result.now in
    let rest = cell_lines (iter_rest (zip_first c.next.new.self)) (iter_rest (zip_second c.next.new.self)) in
    let put : said ++ (line ++ rest) ≡ c.args.said.now.items ++ cell_lines c.args.cells.now c.args.sites.now = search rules in
    let full : vec_capacity c.args.said.now < vec_len c.args.said.now + length (cell_lines c.args.cells.now c.args.sites.now)
    = omega (arith, ap length put, length-append said (line ++ rest), length-append line rest, length-append c.args.said.now.items (cell_lines c.args.cells.now c.args.sites.now), c.loop-cell.invariant.room, c.in_err-extend_from_slice.ensures.full, c.loop-cell.said.ok.0, c.args.said.now.ok.0) in
    record { added = search rules; full = subst (λ r. OnErr r (vec_capacity c.args.said.now < vec_len c.args.said.now + length (cell_lines c.args.cells.now c.args.sites.now))) (sym p.1) full; room = search rules }
