use Rattle.std.proofs.Common.{◌≡◌, map, ap, ◌∙◌, rules, arith}
use Rattle.std.proofs.lemmas.Iterator.{YieldsList-from_slice, YieldsList-from_map}
use Rattle.std.proofs.lemmas.Iterator.Consumers.{sum_by_from_yields_List, fits_by_from_yields_list}
use Rattle.row.specs.Records.{widths}
use Rattle.floor.specs.Seats.{cell_of}
use Rattle.floor.specs.declared.Seat.{Seat}
use Rattle.floor.proofs.Stretch.{on_sited}
use Rattle.floor.proofs.Widths.{widths_is, widths_bound}
use Rattle.floor.proofs.offered.OfferedRow.covered.Goals as goal

pub sum-requires-clause-fits : goal.sum-requires-clause-fits
sum-requires-clause-fits g c =
    let self = c.args.self.now in
    let table = self.offer.now.seats.now in
    let seats = self.seats.now in
    let sum = widths_is seats in
    let bound = widths_bound seats (on_sited self.row table.items.items seats self.own table.sited) in
    let few = self.few in
    fits_by_from_yields_list (λ (s : Seat). s.cell.width) seats c.map.result _ (YieldsList-from_map _ (λ (s : Seat). s.cell.width) (YieldsList-from_slice seats cc) c.map.ensures.closure (λ x r q k. search rules)) (omega arith)

pub returns : goal.returns
returns g c =
    let self = c.args.self.now in
    let table = self.offer.now.seats.now in
    let seats = self.seats.now in
    let sum : c.sum.result ≡ widths (map cell_of seats) =
    sum_by_from_yields_List (λ (s : Seat). s.cell.width) seats c.map.result c.sum.result c.sum.ensures.ran (YieldsList-from_map _ (λ (s : Seat). s.cell.width) (YieldsList-from_slice seats cc) c.map.ensures.closure (λ x r q k. search rules)) ∙ widths_is seats in
    let bound = widths_bound seats (on_sited self.row table.items.items seats self.own table.sited) in
    let few = self.few in
    record { value = sum ∙ ap (λ l. widths (map cell_of l)) self.own; bound = omega arith }
