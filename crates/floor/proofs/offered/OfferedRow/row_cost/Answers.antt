use Rattle.std.proofs.Common.{map, sym, subst, ap, ◌∙◌, rules, arith}
use Rattle.std.proofs.ByRecursion.{All-get_or}
use Rattle.std.proofs.lemmas.Iterator.{YieldsList-from_slice, YieldsList-from_map}
use Rattle.std.proofs.lemmas.Iterator.Adapters.{serves_from_places}
use Rattle.std.proofs.lemmas.Iterator.Consumers.{sum_by_from_yields_List, fits_by_from_yields_list}
use Rattle.floor.specs.Seats.{Sited, seat_cost, cell_of, site_of}
use Rattle.row.specs.Costs.{sites_cost}
use Rattle.floor.proofs.Costs.{sites_bound, sites_sum}
use Rattle.floor.proofs.Stretch.{on_sited}
use Rattle.floor.proofs.offered.OfferedRow.row_cost.Goals as goal

pub sum-requires-clause-can : goal.sum-requires-clause-can
sum-requires-clause-can g c =
    let self = c.args.self.now in
    let seats = self.seats.now in
    let table = self.offer.now.seats.now in
    let sited = on_sited self.row table.items.items seats self.own table.sited in
    (tt, serves_from_places (YieldsList-from_slice seats cc) (λ x q k. search rules) (λ s k within is _ _ _ _ _ _. subst Sited (sym is) (All-get_or Sited seats k s.now within sited)))

pub sum-requires-clause-fits : goal.sum-requires-clause-fits
sum-requires-clause-fits g c =
    let self = c.args.self.now in
    let f = g.M.Measure.price self.offer.now.measure.now in
    let table = self.offer.now.seats.now in
    let seats = self.seats.now in
    let bound = sites_bound (g.met.M.Measure.fair self.offer.now.measure.now) seats (on_sited self.row table.items.items seats self.own table.sited) in
    let few = self.few in
    fits_by_from_yields_list (seat_cost f) seats c.map.result _ (YieldsList-from_map _ (seat_cost f) (YieldsList-from_slice seats cc) c.map.ensures.closure (λ x r q k. search rules)) (omega arith)

pub returns : goal.returns
returns g c =
    let self = c.args.self.now in
    let f = g.M.Measure.price self.offer.now.measure.now in
    let table = self.offer.now.seats.now in
    let seats = self.seats.now in
    let sum = sum_by_from_yields_List (seat_cost f) seats c.map.result c.sum.result c.sum.ensures.ran (YieldsList-from_map _ (seat_cost f) (YieldsList-from_slice seats cc) c.map.ensures.closure (λ x r q k. search rules)) in
    let bound = sites_bound (g.met.M.Measure.fair self.offer.now.measure.now) seats (on_sited self.row table.items.items seats self.own table.sited) in
    let few = self.few in
    record { value = sum ∙ sites_sum f seats ∙ ap (λ l. sites_cost f (map cell_of l) (map site_of l)) self.own; bound = omega arith }
