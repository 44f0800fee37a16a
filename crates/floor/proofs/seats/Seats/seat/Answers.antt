use Rattle.std.proofs.Common.{◌≡◌, length, sym, ap, ◌∙◌, subst, arith}
use Rattle.std.specs.List.{insert, AllByRecursion}
use Rattle.table.specs.Order.{Ordered, rank_of}
use Rattle.floor.specs.Seats.{Sited, seat_ahead, cells_on, joined, resited}
use Rattle.floor.proofs.Joining.{joined_ordered, joined_sited, joined_length}
use Rattle.floor.proofs.seats.Seats.seat.Goals as goal

pub invariant_of-self : goal.invariant_of-self
invariant_of-self c =
    let self = c.args.self.now in
    let seats = self.items.items in
    let row = c.args.row in
    let cell = c.args.cell in
    let few = c.requires.few in
    let at = c.place-at.ensures.finds ∙ ap (rank_of seat_ahead seats) c.new-seat.ensures in
    let is : c.insert.new.self.items ≡ joined row cell seats =
    c.insert.ensures.items ∙ (λ i. insert seats (at i) (c.new-seat.ensures i)) in
    let more = ap length is ∙ joined_length row cell seats in
    record {
      ordered = subst (Ordered seat_ahead) (sym is) (joined_ordered row cell seats self.ordered c.requires.fresh);
      sited = subst (AllByRecursion Sited) (sym is) (joined_sited row cell seats self.sited c.requires.passes);
      few = omega arith;
    }

pub resite-requires-clause-each : goal.resite-requires-clause-each
resite-requires-clause-each c =
    let seats = c.args.self.now.items.items in
    let at = c.place-at.ensures.finds ∙ ap (rank_of seat_ahead seats) c.new-seat.ensures in
    let is : c.insert.new.self.items ≡ joined c.args.row c.args.cell seats =
    c.insert.ensures.items ∙ (λ i. insert seats (at i) (c.new-seat.ensures i)) in
    c.requires.each ∙ ap (λ l. length (cells_on c.args.row l)) (sym is)

pub returns : goal.returns
returns c =
    let seats = c.args.self.now.items.items in
    let at = c.place-at.ensures.finds ∙ ap (rank_of seat_ahead seats) c.new-seat.ensures in
    let is : c.insert.new.self.items ≡ joined c.args.row c.args.cell seats =
    c.insert.ensures.items ∙ (λ i. insert seats (at i) (c.new-seat.ensures i)) in
    c.resite.ensures ∙ ap (resited c.args.row c.args.sites.now) is
