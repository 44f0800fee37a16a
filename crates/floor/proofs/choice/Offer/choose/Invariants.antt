use Rattle.std.proofs.Common.{drop}
use Rattle.floor.specs.Offers.{price_in, seats_in}
use Rattle.floor.proofs.Chosen.{SoFar}
use Rattle.floor.proofs.Walked.{InStep}
use Rattle.floor.proofs.choice.Offer.choose.Given as goal

-- the seats ahead are those of the rows that are left, and the best so far is that of the others
abbrev pub invariant-loop-row : goal.invariant-loop-row
invariant-loop-row g l = record {
  in_step : InStep (seats_in l.self) (drop l.row-index l.self.rows.now) l.ahead;
  so_far : SoFar (price_in l.self) (seats_in l.self) l.self.cell l.self.rows.now (drop l.row-index l.self.rows.now) l.best l.kept.items;
}
