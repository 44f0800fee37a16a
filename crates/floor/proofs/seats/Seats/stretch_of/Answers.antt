use Rattle.std.proofs.Common.{length, drop, refl, ap, ◌∙◌, arith}
use Rattle.std.proofs.lemmas.List.{length-drop}
use Rattle.table.specs.Order.{rank_of}
use Rattle.floor.specs.Seats.{seat_ahead}
use Rattle.floor.proofs.Stretch.{spanned}
use Rattle.floor.proofs.seats.Seats.stretch_of.Goals as goal

pub overflow_add-result : goal.overflow_add-result
overflow_add-result c =
    let self = c.args.self.now in
    let start = c.place-start.ensures.bound in
    let count = c.count_on.ensures.bound in
    let rest = ap length (c.split_at.ensures.back ∙ ap (drop c.place-start.result) c.deref.ensures.0) in
    let left = length-drop c.place-start.result self.items.items in
    let few = self.few in
    omega arith

pub returns : goal.returns
returns c =
    let self = c.args.self.now in
    let seats = self.items.items in
    let start = c.place-start.ensures.finds ∙ ap (rank_of seat_ahead seats) c.key.ensures in
    spanned c.args.row seats _ self.ordered start (c.split_at.ensures.back ∙ ap (drop c.place-start.result) c.deref.ensures.0) c.count_on.ensures.value refl
