-- A floor whose rows are set stays so: with a row more, and with a cell placed.
use Rattle.std.proofs.Common.{◌≡◌, true, false, List, [], get_or, map, Some, None, Ok, Option, sym, refl, ap, ◌∙◌, subst, ⊎_elim}
use Rattle.std.proofs.ByRecursion.{All-get_or, All-from_get_or, All-weaker}
use Rattle.std.proofs.lemmas.Bool.{cases_Bool}
use Rattle.std.specs.List.{AllByRecursion}
use Rattle.measure.specs.Costs.{Fair, Price}
use Rattle.row.specs.Records.{row_ahead}
use Rattle.row.specs.Sites.{row_sites}
use Rattle.row.specs.declared.Cell.{Cell}
use Rattle.row.specs.declared.Row.{Row}
use Rattle.row.proofs.Accepted.{Fitting, ready_fitting}
use Rattle.row.proofs.Ranges.{RangedRow, ranged_row}
use Rattle.table.proofs.Inserted.{put_all, inserted_is}
use Rattle.floor.specs.Calls.{outcome_unless, with_row, add_row, seated, chosen, outcome_on, place}
use Rattle.floor.specs.Formed.{rows_formed, formed}
use Rattle.floor.specs.Refusals.{has_sites, add_refusal, cell_refusal}
use Rattle.floor.specs.Rows.{same_row, share}
use Rattle.floor.specs.Seats.{on_row, seats_on, cells_on, sites_on, joined, settled}
use Rattle.floor.specs.Settled.{Settled}
use Rattle.floor.specs.Tables.{Tables}
use Rattle.floor.specs.declared.Refusal.{Refusal}
use Rattle.floor.specs.declared.Seat.{Seat}
use Rattle.floor.proofs.Defaults.{no_row}
use Rattle.floor.proofs.Joining.{joined_others, placeable}
use Rattle.floor.proofs.Kept.{kept_none}
use Rattle.floor.proofs.Listed.{Standing, formed_listed, standing_at, standing_all, standing_one, standing_passes}
use Rattle.floor.proofs.Placed.{chosen_good}
use Rattle.floor.proofs.Ready.{ready_standing}
use Rattle.floor.proofs.Resited.{resited_cells_on, resited_sites_on, resited_others}
use Rattle.floor.proofs.Rowed.{apart_new, ranged_new, shared_same}
use Rattle.floor.proofs.Settling.{sites_long}

-- a row is set: its sites are those that `set` gives its cells
abbrev pub IsSet : Price → List Seat → Row → Type 0
IsSet f seats row = sites_on row seats ≡ row_sites f row (cells_on row seats)

-- what holds of standing rows, and so of all
pub all_standing : (P Q : Row → Type 0) (rows : List Row) → ((row : Row) → Standing rows row → P row → Q row) → AllByRecursion P rows → AllByRecursion Q rows
all_standing P Q rows give all =
    All-from_get_or Q rows no_row (λ i within. give (get_or rows i no_row) (standing_at rows i no_row within) (All-get_or P rows i no_row within all))

-- a row with the seats that it had is set as it was
set_same : (f : Price) (row : Row) (before after : List Seat) → seats_on row after ≡ seats_on row before → IsSet f before row → IsSet f after row
set_same f row before after same is =
    ap (map (λ s. s.site)) same ∙ (is ∙ sym (ap (λ l. row_sites f row (map (λ s. s.cell) l)) same))

-- a standing row is set, and the other rows have the seats that they had: a floor that was set is set then
module _ (f : Price) (fair : Fair f) (rows : List Row) (before after : List Seat) (row : Row) (fits : Fitting row (cells_on row after)) (others : (r : Row) → same_row r row ≡ false → seats_on r after ≡ seats_on r before) where
  -- the row is set
  own_set : IsSet f (settled f row after) row
  own_set =
      let xs = row_sites f row (cells_on row after) in
      resited_sites_on row xs after (sites_long f fair row after fits) ∙ sym (ap (row_sites f row) (resited_cells_on row xs after))

  -- another is as it was
  other_set : (r : Row) → same_row r row ≡ false → IsSet f before r → IsSet f (settled f row after) r
  other_set r other is = set_same f r before (settled f row after) (resited_others row r other (row_sites f row (cells_on row after)) after ∙ others r other) is

  pub row_settled : rows_formed rows ≡ true → Standing rows row → Settled f rows before → Settled f rows (settled f row after)
  row_settled well stands set =
      all_standing (IsSet f before) (IsSet f (settled f row after)) rows
      (λ r there is.
      ⊎_elim
      (λ same. subst (IsSet f (settled f row after)) (sym (standing_one rows well r row there stands same)) own_set)
      (λ other. other_set r other is)
      (cases_Bool (same_row r row)))
      set

module _ (f : Price) (fair : Fair f) (t : Tables) (well : formed t.rows t.seats ≡ true) (set : Settled f t.rows t.seats) where
  pub seated_settled : (cell : Cell) → cell_refusal t.seats cell ≡ None → (row : Row) → Standing t.rows row → has_sites t.seats cell row ≡ true → Settled f t.rows (seated f t.seats cell row)
  seated_settled cell none row stands fits =
      let can = placeable t.seats cell none in
      let own = ready_fitting row (cells_on row (joined row cell t.seats)) (ready_standing t.rows t.seats well cell can row stands fits) in
      row_settled f fair t.rows t.seats (joined row cell t.seats) row own (joined_others row cell t.seats) (formed_listed t.rows t.seats well).well stands set

  on_settled : (cell : Cell) → cell_refusal t.seats cell ≡ None → (o : Option Row) → chosen f t.seats cell t.rows ≡ o → let after = (outcome_on f t cell o).tables in Settled f after.rows after.seats
  on_settled cell none None is = set
  on_settled cell none (Some row) is = let good = chosen_good f t.rows t.seats cell row is in seated_settled cell none row good.stands good.fits

  after_settled : (cell : Cell) (o : Option Refusal) → cell_refusal t.seats cell ≡ o → let after = (outcome_unless o t (outcome_on f t cell (chosen f t.seats cell t.rows))).tables in Settled f after.rows after.seats
  after_settled cell None is = on_settled cell is (chosen f t.seats cell t.rows) refl
  after_settled cell (Some refusal) is = set

  -- a floor that is set stays set when a cell is placed
  pub place_settled : (cell : Cell) → let after = (place f t cell).tables in Settled f after.rows after.seats
  place_settled cell = after_settled cell (cell_refusal t.seats cell) refl

module _ (f : Price) (t : Tables) (well : formed t.rows t.seats ≡ true) (set : Settled f t.rows t.seats) (row : Row) where
  -- no seat is on a new row
  none_on : add_refusal t.rows row ≡ None → seats_on row t.seats ≡ []
  none_on none =
      let listed = formed_listed t.rows t.seats well in
      let ranged : (r : Row) → Standing t.rows r → RangedRow r = λ r there. ranged_row r (standing_passes t.rows listed.well r there) in
      kept_none (on_row row) t.seats
      (All-weaker (λ s. Standing t.rows s.row) (λ s. on_row row s ≡ false)
      (λ s there. shared_same row s.row (ranged_new t.rows row none) (ranged s.row there) (standing_all (λ r. share row r ≡ false) t.rows s.row (apart_new t.rows row none) there))
      t.seats listed.stand)

  new_set : add_refusal t.rows row ≡ None → IsSet f t.seats row
  new_set none =
      let empty = none_on none in
      ap (map (λ s. s.site)) empty ∙ sym (ap (λ l. row_sites f row (map (λ s. s.cell) l)) empty)

  -- and when a row is added
  pub with_settled : add_refusal t.rows row ≡ None → Settled f (with_row t.rows row) t.seats
  with_settled none = subst (λ rs. Settled f rs t.seats) (sym (inserted_is row_ahead row t.rows)) (put_all row_ahead row (IsSet f t.seats) t.rows (new_set none) set)

  or_settled : (o : Option Refusal) → add_refusal t.rows row ≡ o → let after = (outcome_unless {X = Unit {0}} o t (record { answer = Ok tt; tables = record { rows = with_row t.rows row; seats = t.seats } })).tables in Settled f after.rows after.seats
  or_settled None is = with_settled is
  or_settled (Some refusal) is = set

  pub add_settled : let after = (add_row t row).tables in Settled f after.rows after.seats
  add_settled = or_settled (add_refusal t.rows row) refl
