use Rattle.std.proofs.Common.{refl}
use Rattle.floor.proofs.Settling.{move_row}
use Rattle.floor.proofs.seats.Seats.resite.Goals as goal

-- the two goals stand at two places of the body, whose facts have two types: so `move_row` is given them at each
pub invariant_of-self : goal.invariant_of-self
invariant_of-self c =
    let self = c.args.self.now in
    let set = move_row c.args.row c.args.sites.now self.items.items c.stretch_of-own.result self.ordered self.sited self.few c.stretch_of-own.ensures
    c.requires.each c.requires.places c.deref_mut.ensures.value c.move_to.ensures refl in
    record { ordered = set.ordered; sited = set.sited; few = set.few }

pub returns : goal.returns
returns c =
    let self = c.args.self.now in
    let set = move_row c.args.row c.args.sites.now self.items.items c.stretch_of-own.result self.ordered self.sited self.few c.stretch_of-own.ensures
    c.requires.each c.requires.places c.deref_mut.ensures.value c.move_to.ensures refl in
    set.is
