use Rattle.std.proofs.Common.{eqb, ◌∙◌, rules, tests}
use Rattle.std.proofs.lemmas.Iterator.{YieldsList-from_slice}
use Rattle.std.proofs.lemmas.Iterator.Adapters.{position_from-zero}
use Rattle.std.proofs.lemmas.Iterator.Search.{position_from_yields_List}
use Rattle.floor.specs.declared.Seat.{Seat}
use Rattle.floor.proofs.seats.Seats.position.Goals as goal

pub returns : goal.returns
returns c =
    let seats = c.args.self.now.items.items in
    let test = λ (s : Seat). eqb s.cell.number c.args.number in
    position_from_yields_List test _ _ c.position.result c.position.ensures.ran (YieldsList-from_slice seats cc) (λ x b q k. search (rules, tests)) ∙ position_from-zero test seats
