use Rattle.std.proofs.Common.{◌≡◌, Some, slice_get, length, remove, refl, sym, ap, subst, arith}
use Rattle.std.proofs.lemmas.Option.{slice_get_read}
use Rattle.std.proofs.lemmas.List.Edits.{length-remove}
use Rattle.std.specs.List.{AllByRecursion}
use Rattle.row.specs.Stack.{Ready}
use Rattle.table.specs.Order.{Ordered}
use Rattle.floor.specs.Seats.{Sited, seat_ahead, cells_on}
use Rattle.floor.proofs.Removed.{removed_all, removed_ordered}
use Rattle.floor.proofs.seats.Seats.unseat.Goals as goal

pub invariant_of-self : goal.invariant_of-self
invariant_of-self g c =
    let self = c.args.self.now in
    let seats = self.items.items in
    let at = c.args.at in
    let is : c.remove-seat.new.self.items ≡ remove seats at = c.remove-seat.ensures.items in
    let less = ap length is in
    let one = length-remove seats at c.requires.within in
    let few = self.few in
    record {
      ordered = subst (Ordered seat_ahead) (sym is) (removed_ordered seat_ahead seats at self.ordered);
      sited = subst (AllByRecursion Sited) (sym is) (removed_all Sited seats at self.sited);
      few = omega arith;
    }

pub settle-requires : goal.settle-requires
settle-requires g c =
    let seats = c.args.self.now.items.items in
    let seat = c.remove-seat.result in
    let taken : slice_get seats c.args.at ≡ Some seat = slice_get_read seats (length seats) c.args.at seat refl c.requires.within c.remove-seat.ensures.value in
    subst (λ l. Ready seat.row (cells_on seat.row l)) (sym c.remove-seat.ensures.items) (c.requires.ready seat taken)

pub returns-clause-taken : goal.returns-clause-taken
returns-clause-taken g c =
    let seats = c.args.self.now.items.items in
    slice_get_read seats (length seats) c.args.at c.remove-seat.result refl c.requires.within c.remove-seat.ensures.value
