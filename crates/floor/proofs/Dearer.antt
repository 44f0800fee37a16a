-- A granted placing's rise is what the floor costs more, where the floor's rows were set.
use Rattle.std.proofs.Common.{◌≡◌, ◌+◌, true, Some, None, Ok, Option, refl, ap, ◌∙◌, arith}
use Rattle.measure.specs.Costs.{Fair, Price}
use Rattle.row.specs.declared.Cell.{Cell}
use Rattle.row.specs.declared.Row.{Row}
use Rattle.floor.specs.Calls.{outcome_unless, chosen, rise, seated, placing_on, outcome_on, place}
use Rattle.floor.specs.Formed.{formed}
use Rattle.floor.specs.Refusals.{cell_refusal}
use Rattle.floor.specs.Seats.{floor_cost}
use Rattle.floor.specs.Settled.{Settled, CostsMore}
use Rattle.floor.specs.Tables.{Tables}
use Rattle.floor.specs.declared.Placing.{Placing}
use Rattle.floor.specs.declared.Refusal.{Refusal}
use Rattle.floor.specs.declared.Refusal.TheVariants.{NoRoom}
use Rattle.floor.proofs.Best.{same_ok, not_ok}
use Rattle.floor.proofs.Joining.{placeable, row_ready}
use Rattle.floor.proofs.Keeping.{IsSet}
use Rattle.floor.proofs.Listed.{standing_all}
use Rattle.floor.proofs.Placed.{chosen_good}
use Rattle.floor.proofs.Ready.{ready_standing}
use Rattle.floor.proofs.Risen.{rise_is}

module _ (f : Price) (fair : Fair f) (t : Tables) (well : formed t.rows t.seats ≡ true) (set : Settled f t.rows t.seats) (cell : Cell) where
  row_dearer : cell_refusal t.seats cell ≡ None → (row : Row) → chosen f t.seats cell t.rows ≡ Some row → floor_cost f (seated f t.seats cell row) ≡ floor_cost f t.seats + rise f t.seats cell row
  row_dearer none row is =
      let good = chosen_good f t.rows t.seats cell row is in
      let can = placeable t.seats cell none in
      let few = can.few in
      rise_is f row cell t.seats fair can.passes (row_ready t.rows t.seats row well good.stands (omega arith)) (ready_standing t.rows t.seats well cell can row good.stands good.fits) (standing_all (IsSet f t.seats) t.rows row set good.stands)

  on_dearer : (placing : Placing) → cell_refusal t.seats cell ≡ None → (o : Option Row) → chosen f t.seats cell t.rows ≡ o → (outcome_on f t cell o).answer ≡ Ok placing → CostsMore f t (outcome_on f t cell o).tables placing
  on_dearer placing none None is e = absurd (not_ok NoRoom placing e)
  on_dearer placing none (Some row) is e =
      row_dearer none row is ∙ ap (λ (p : Placing). floor_cost f t.seats + p.rise) (same_ok (placing_on f t.seats cell row) placing e)

  or_dearer : (placing : Placing) (o : Option Refusal) → cell_refusal t.seats cell ≡ o → (outcome_unless o t (outcome_on f t cell (chosen f t.seats cell t.rows))).answer ≡ Ok placing → CostsMore f t (outcome_unless o t (outcome_on f t cell (chosen f t.seats cell t.rows))).tables placing
  or_dearer placing None is e = on_dearer placing is (chosen f t.seats cell t.rows) refl e
  or_dearer placing (Some refusal) is e = absurd (not_ok refusal placing e)

  -- the floor costs the rise more
  pub place_dearer : (placing : Placing) → (place f t cell).answer ≡ Ok placing → CostsMore f t (place f t cell).tables placing
  place_dearer placing e = or_dearer placing (cell_refusal t.seats cell) refl e
