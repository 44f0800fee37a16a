use Rattle.std.proofs.Common.{eqb, ◌∙◌, rules, tests}
use Rattle.std.proofs.lemmas.Iterator.{YieldsList-from_slice}
use Rattle.std.proofs.lemmas.Iterator.Search.{find_from_yields_List}
use Rattle.floor.specs.declared.Seat.{Seat}
use Rattle.floor.proofs.seats.Seats.find.Goals as goal

pub returns : goal.returns
returns c =
    let seats = c.args.self.now.items.items in
    let test = λ (s : Seat). eqb s.cell.number c.args.number in
    c.copied.ensures ∙ find_from_yields_List test _ _ c.find.result c.find.ensures.ran (YieldsList-from_slice seats cc) (λ x b q k. search (rules, tests))
