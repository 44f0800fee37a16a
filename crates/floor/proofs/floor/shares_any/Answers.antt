use Rattle.std.proofs.Common.{rules, tests}
use Rattle.std.proofs.lemmas.Iterator.{YieldsList-from_slice}
use Rattle.std.proofs.lemmas.Iterator.Search.{any_from_yields_List}
use Rattle.floor.specs.Rows.{share}
use Rattle.floor.proofs.floor.shares_any.Goals as goal

pub returns : goal.returns
returns c =
    let rows = c.args.rows.now in
    let test = share c.args.row.now in
    any_from_yields_List test _ _ c.any.result c.any.ensures.ran (YieldsList-from_slice rows cc) (λ x b q k. search (rules, tests))
