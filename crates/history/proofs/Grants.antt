-- A granted placing on a floor's tables is as the law says, for what stands in whatever order.
use Rattle.std.proofs.Common.{◌≡◌, ℕ, ◌+◌, ◌-◌, ◌<◌, ◌≤◌, Bool, true, false, cond, not, ◌&&◌, eqb, leb, ltb, List, [], ◌∷◌, ◌++◌, map, length, take, drop, Some, None, Ok, Option, IsSome, sym, refl, ap, ◌∙◌, subst, ⊎_elim, arith}
use Rattle.std.proofs.ByRecursion.{All-from_get_or, All-weaker}
use Rattle.std.proofs.lemmas.Bool.{and_parts, and_from, or_cases, both_ways, le-leb, lt-ltb, eq-eqb}
use Rattle.std.proofs.lemmas.List.{take-append-drop, map-append}
use Rattle.std.specs.List.{AllByRecursion, list_any}
use Rattle.std.specs.Option.{option_map, unwrap_or, ok_or}
use mathlib.Core.List.{Permᴰ}
use mathlib.Core.List.Permᴰ as perm
use Rattle.measure.specs.Costs.{Fair, Price}
use Rattle.row.proofs.Fits.{setting_fits}
use Rattle.row.proofs.Ranges.{ranged}
use Rattle.row.specs.Records.{row_ahead, widths}
use Rattle.row.specs.Sites.{row_sites}
use Rattle.row.specs.declared.Cell.{Cell}
use Rattle.row.specs.declared.Row.{Row}
use Rattle.row.specs.declared.Spot.{Spot}
use Rattle.floor.proofs.Best.{best_of, same_ok, not_ok}
use Rattle.floor.proofs.Dearer.{place_dearer}
use Rattle.floor.proofs.Defaults.{no_row}
use Rattle.floor.proofs.Joining.{Placeable, placeable, place as joins_at, joined_length, joined_widths, joined_listed, seated_formed, row_ready}
use Rattle.floor.proofs.Keeping.{IsSet, seated_settled}
use Rattle.floor.proofs.Known.{SeatKnown, all_known}
use Rattle.floor.proofs.Listed.{is_row, Standing as Among, row_is, standing_at, standing_all, apart_one, row_parts, formed_listed}
use Rattle.floor.proofs.Placed.{chosen_good, seated_found, found_has, seated_row}
use Rattle.floor.proofs.Ready.{ready_standing}
use Rattle.floor.proofs.Resited.{resited_map, resited_length}
use Rattle.floor.proofs.Risen.{rise_is}
use Rattle.floor.proofs.Rowed.{ordered_rows}
use Rattle.floor.proofs.Settling.{cells_pass, cells_in_order}
use Rattle.floor.proofs.Tests.{pairs_all}
use Rattle.floor.specs.Calls.{chosen, rise, seat_of, spot, where_is, seated, site_then, placing_on, outcome_unless, outcome_on, place}
use Rattle.floor.specs.Formed.{every_pair, rows_formed, formed}
use Rattle.floor.specs.Refusals.{has_sites, cell_refusal}
use Rattle.floor.specs.Rows.{share}
use Rattle.floor.specs.Seats.{site_of, seats_on, cells_on, new_seat, joined, floor_cost}
use Rattle.floor.specs.Tables.{Tables}
use Rattle.floor.specs.declared.Placing.{Placing}
use Rattle.floor.specs.declared.Refusal.{Refusal}
use Rattle.floor.specs.declared.Refusal.TheVariants.{NoRoom, NotStanding}
use Rattle.floor.specs.declared.Seat.{Seat}
use Rattle.history.specs.Histories.{Standing, has_spot, row_at, with_cell, with_placed}
use Rattle.history.specs.Law.{Granted}
use Rattle.history.specs.Settings.{site_in, Setting, cost}
use Rattle.history.proofs.Held.{standing_of, Known}
use Rattle.history.proofs.Perms.{all_perm, any_perm, setting_perm, cost_perm}
use Rattle.history.proofs.Seated.{sites_are, listed_setting}
use Rattle.history.proofs.Tables.{tables_hold}

-- each of some rows stands among them
pub all_among : (all : List Row) → AllByRecursion (Among all) all
all_among all = All-from_get_or (Among all) all no_row (λ i within. standing_at all i no_row within)

-- a row that stands among rows stands among them in whatever order
pub among_perm : (rows all : List Row) → Permᴰ rows all → (row : Row) → Among all row → Among rows row
among_perm rows all order row among = any_perm (is_row row) order ∙ among

-- rows that lie at one spot share a site
share_spot : (a b : Row) (at : Spot) → has_spot at a ≡ true → has_spot at b ≡ true → share a b ≡ true
share_spot a b at p q = grind arith

module _ (all : List Row) (well : rows_formed all ≡ true) (row : Row) (among : Among all row) (at : Spot) (has : has_spot at row ≡ true) where
  -- a row that lies there is this one
  same_spot : (r : Row) → Among all r → has_spot at r ≡ true → r ≡ row
  same_spot r there own =
      let apart = and_parts (every_pair row_ahead all) (every_pair (λ a b. not (share a b)) all) (row_parts all well).1 in
      apart_one all r row (pairs_all (λ a b. not (share a b)) all apart.1) (share_spot r row at own has) there among

  -- so the first that is found is
  first_at : (rows : List Row) → AllByRecursion (Among all) rows → Among rows row → row_at rows at ≡ row
  first_at [] each there = absurd (both_ways false refl there)
  first_at (r ∷ rows) each there = by_test (has_spot at r) refl (first_at rows each.1)
    where
      by_test : (t : Bool) → has_spot at r ≡ t → (Among rows row → row_at rows at ≡ row) → cond t r (row_at rows at) ≡ row
      by_test true is rest = same_spot r each.0 is
      by_test false is rest =
          rest
          (⊎_elim
          (λ here. absurd (both_ways (has_spot at r) is (subst (λ x. has_spot at x ≡ true) (sym (row_is row r here)) has)))
          (λ later. later)
          (or_cases (is_row row r) (list_any (is_row row) rows) there))

-- the row at a spot of a standing row is that row, in whatever order the rows are told
pub row_at_is : (rows all : List Row) → rows_formed all ≡ true → Permᴰ rows all → (row : Row) → Among all row → (at : Spot) → has_spot at row ≡ true → row_at rows at ≡ row
row_at_is rows all well order row among at has =
    first_at all well row among at has rows (all_perm (Among all) order (all_among all)) (among_perm rows all order row among)

-- what is found is a seat
some_seat : (o : Option Seat) → IsSome o → (s : Seat) × (o ≡ Some s)
some_seat None e = let never : ◌≡◌ {A = ℕ} 0 1 = cc in absurd (omega arith)
some_seat (Some s) e = (s, refl)

-- the tables with a cell on a row, and that row set
abbrev pub with_seated : Price → Tables → Cell → Row → Tables
with_seated f t cell row = record { rows = t.rows; seats = seated f t.seats cell row }

-- where a new cell stands on a row that took it: the site that is answered, which is one of the row
record Took (f : Price) (t : Tables) (cell : Cell) (row : Row) : Type 0 where
  site : ℕ
  site_is : site_then cell.number (seated f t.seats cell row) ≡ site
  answered : where_is (with_seated f t cell row) cell.number ≡ Ok (record { line = row.line; site = site })
  inside : has_spot (record { line = row.line; site = site }) row ≡ true

-- a site from left on and before right is one of the row
inside_row : (row : Row) (site : ℕ) → row.left ≤ site → site < row.right → has_spot (record { line = row.line; site = site }) row ≡ true
inside_row row site from to =
    and_from (eqb row.line row.line) (leb row.left site && ltb site row.right) (eq-eqb row.line row.line refl)
    (and_from (leb row.left site) (ltb site row.right) (le-leb row.left site from) (lt-ltb site row.right to))

module _ (f : Price) (fair : Fair f) (t : Tables) (well : formed t.rows t.seats ≡ true) (cell : Cell) (can : Placeable t.seats cell) where
  -- a standing row that has sites for a cell takes it so
  took : (row : Row) → Among t.rows row → has_sites t.seats cell row ≡ true → Took f t cell row
  took row among fits =
      let after : List Seat = seated f t.seats cell row in
      let it = some_seat (seat_of cell.number after) (seated_found f t.seats cell row) in
      let s : Seat = it.0 in
      let own : s.row ≡ row = seated_row f t.seats cell row s can.fresh it.1 in
      let known : SeatKnown s =
      found_has SeatKnown cell.number after s
      (All-weaker SeatKnown (λ t. eqb t.cell.number cell.number ≡ true → SeatKnown t) (λ t k _. k) after (all_known t.rows after (seated_formed f fair t.rows t.seats cell row well can among fits))) it.1 in
      let wide = (ranged s.cell known.passes).some_width in
      let from = known.left in
      let to = known.right in
      record {
        site = s.site;
        site_is = ap (λ o. unwrap_or (option_map site_of o) 0) it.1;
        answered = ap (λ o. ok_or (option_map spot o) NotStanding) it.1 ∙ ap (λ r. Ok (record { line = r.line; site = s.site })) own;
        inside = subst (λ r. has_spot (record { line = r.line; site = s.site }) r ≡ true) own (inside_row s.row s.site from (omega arith));
      }

-- a cell that joins the seats joins what stands
joined_cells : (row : Row) (cell : Cell) (seats : List Seat) (ks : List Standing) → Permᴰ ks (map standing_of seats) → Permᴰ (with_cell cell row ks) (map standing_of (joined row cell seats))
joined_cells row cell seats ks order =
    let k : Standing = record { cell = cell; row = row } in
    let n = joins_at row cell seats in
    let front : List Standing = map standing_of (take n seats) in
    let back : List Standing = map standing_of (drop n seats) in
    let old : map standing_of seats ≡ front ++ back = ap (map standing_of) (sym (take-append-drop n seats)) ∙ map-append standing_of (take n seats) (drop n seats) in
    let new : map standing_of (joined row cell seats) ≡ front ++ (k ∷ back) = map-append standing_of (take n seats) (new_seat row cell ∷ drop n seats) in
    subst (Permᴰ (k ∷ ks)) (sym new) (perm.trans (perm.cons refl (subst (Permᴰ ks) old order)) (perm.symm (perm.middle k front back)))

-- setting the row changes neither cells nor rows, so it is the same once the row has taken the cell
seated_cells : (f : Price) (row : Row) (cell : Cell) (seats : List Seat) (ks : List Standing) → Permᴰ ks (map standing_of seats) → Permᴰ (with_cell cell row ks) (map standing_of (seated f seats cell row))
seated_cells f row cell seats ks order =
    subst (Permᴰ (with_cell cell row ks)) (sym (resited_map row standing_of (λ s x. refl) (row_sites f row (cells_on row (joined row cell seats))) (joined row cell seats))) (joined_cells row cell seats ks order)

-- cells at the sites of their seats cost what the floor does
seats_cost : (f : Price) (at : ℕ → ℕ) (seats : List Seat) → AllByRecursion (λ s. at s.cell.number ≡ s.site) seats → cost f (map standing_of seats) at ≡ floor_cost f seats
seats_cost f at [] same = refl
seats_cost f at (s ∷ seats) same =
    let rest = seats_cost f at seats same.1 in
    let own : f s.cell.wanted.site s.cell.weight (at s.cell.number) ≡ f s.cell.wanted.site s.cell.weight s.site = ap (f s.cell.wanted.site s.cell.weight) same.0 in
    omega arith

-- so they do at the sites that where_is answers, in whatever order they are told
pub answered_cost : (f : Price) (t : Tables) → formed t.rows t.seats ≡ true → (ks : List Standing) → Permᴰ ks (map standing_of t.seats) → cost f ks (site_in (where_is t)) ≡ floor_cost f t.seats
answered_cost f t well ks order = cost_perm f order (site_in (where_is t)) ∙ seats_cost f (site_in (where_is t)) t.seats (sites_are t well)

-- what is known of a granted placing: the row that is chosen is the one at the spot that is answered, it took the cell, and the cell stands there
pub record PlacedRow (f : Price) (t : Tables) (rows : List Row) (cell : Cell) (placing : Placing) : Type 0 where
  pub row : Row
  pub is : chosen f t.seats cell t.rows ≡ Some row
  pub row_is : row_at rows placing.spot ≡ row
  pub rises : placing.rise ≡ rise f t.seats cell row
  pub after : (place f t cell).tables ≡ with_seated f t cell row
  pub free : cell_refusal t.seats cell ≡ None
  pub stands : where_is (with_seated f t cell row) cell.number ≡ Ok placing.spot

module _ (f : Price) (fair : Fair f) (t : Tables) (known : Known f t) (rows : List Row) (order : Permᴰ rows t.rows) (cell : Cell) (placing : Placing) where
  -- where a row is chosen
  on_row : cell_refusal t.seats cell ≡ None → (o : Option Row) → chosen f t.seats cell t.rows ≡ o → (outcome_on f t cell o).answer ≡ Ok placing → PlacedRow f t rows cell placing
  on_row none None is e = absurd (not_ok NoRoom placing e)
  on_row none (Some row) is e =
      let good = chosen_good f t.rows t.seats cell row is in
      let new = took f fair t known.well cell (placeable t.seats cell none) row good.stands good.fits in
      let same : placing ≡ placing_on f t.seats cell row = sym (same_ok (placing_on f t.seats cell row) placing e) in
      let at : placing.spot ≡ record { line = row.line; site = new.site } = ap (λ p. p.spot) same ∙ ap (λ x. record { line = row.line; site = x }) new.site_is in
      record {
        row = row;
        is = is;
        row_is = row_at_is rows t.rows (formed_listed t.rows t.seats known.well).well order row good.stands placing.spot (subst (λ p. has_spot p row ≡ true) (sym at) new.inside);
        rises = ap (λ p. p.rise) same;
        after = ap (λ o. (outcome_unless o t (outcome_on f t cell (chosen f t.seats cell t.rows))).tables) none ∙ ap (λ o. (outcome_on f t cell o).tables) is;
        free = none;
        stands = new.answered ∙ ap Ok (sym at);
      }

  -- where a check may refuse
  or_refused : (o : Option Refusal) → cell_refusal t.seats cell ≡ o → (outcome_unless o t (outcome_on f t cell (chosen f t.seats cell t.rows))).answer ≡ Ok placing → PlacedRow f t rows cell placing
  or_refused None none e = on_row none (chosen f t.seats cell t.rows) refl e
  or_refused (Some refusal) none e = absurd (not_ok refusal placing e)

  -- a granted placing, by the row that is chosen
  pub placed_row : (place f t cell).answer ≡ Ok placing → PlacedRow f t rows cell placing
  placed_row e = or_refused (cell_refusal t.seats cell) refl e

  -- what stands then is what the seats hold then
  pub placed_cells : (place f t cell).answer ≡ Ok placing → (ks : List Standing) → Permᴰ ks (map standing_of t.seats) → Permᴰ (with_placed rows ks cell placing) (map standing_of (place f t cell).tables.seats)
  placed_cells e ks cells =
      let p = placed_row e in
      subst (λ r. Permᴰ (with_cell cell r ks) (map standing_of (place f t cell).tables.seats)) (sym p.row_is)
      (subst (λ (u : Tables). Permᴰ (with_cell cell p.row ks) (map standing_of u.seats)) (sym p.after) (seated_cells f p.row cell t.seats ks cells))

-- a floor that has a cell on a standing row with sites for it, and the row set, is a floor as well
seated_known : (f : Price) → Fair f → (t : Tables) → Known f t → (cell : Cell) → cell_refusal t.seats cell ≡ None → (row : Row) → Among t.rows row → has_sites t.seats cell row ≡ true
    → Known f (with_seated f t cell row)
seated_known f fair t known cell free row among fits =
    let can = placeable t.seats cell free in
    let less = can.few in
    let long : length (seated f t.seats cell row) ≡ length t.seats + 1 =
    resited_length row (row_sites f row (cells_on row (joined row cell t.seats))) (joined row cell t.seats) ∙ joined_length row cell t.seats in
    record {
      well = seated_formed f fair t.rows t.seats cell row known.well can among fits;
      few = omega arith;
      set = seated_settled f fair t known.well known.set cell free row among fits;
    }

-- and so is one once a cell is placed: on a row that is chosen or none ..
on_known : (f : Price) → Fair f → (t : Tables) → Known f t → (cell : Cell) → cell_refusal t.seats cell ≡ None → (o : Option Row) → chosen f t.seats cell t.rows ≡ o → Known f (outcome_on f t cell o).tables
on_known f fair t known cell free None is = known
on_known f fair t known cell free (Some row) is =
    let good = chosen_good f t.rows t.seats cell row is in
    seated_known f fair t known cell free row good.stands good.fits

-- .. and whatever the checks say
or_known : (f : Price) → Fair f → (t : Tables) → Known f t → (cell : Cell) (o : Option Refusal) → cell_refusal t.seats cell ≡ o
    → Known f (outcome_unless o t (outcome_on f t cell (chosen f t.seats cell t.rows))).tables
or_known f fair t known cell None is = on_known f fair t known cell is (chosen f t.seats cell t.rows) refl
or_known f fair t known cell (Some refusal) is = known

pub place_known : (f : Price) → Fair f → (t : Tables) → Known f t → (cell : Cell) → Known f (place f t cell).tables
place_known f fair t known cell = or_known f fair t known cell (cell_refusal t.seats cell) refl

-- what is known of a row on which a setting has the cell: it has sites for it, and the setting costs at least the row's rise more than the floor
record Rival (f : Price) (t : Tables) (cell : Cell) (row : Row) (total : ℕ) : Type 0 where
  fits : has_sites t.seats cell row ≡ true
  dearer : floor_cost f t.seats + rise f t.seats cell row ≤ total

module _ (f : Price) (fair : Fair f) (t : Tables) (known : Known f t) where
  module _ (ks : List Standing) (cells : Permᴰ ks (map standing_of t.seats)) (cell : Cell) (free : cell_refusal t.seats cell ≡ None) (row : Row) (among : Among t.rows row) (other : ℕ → ℕ) (setting : Setting (with_cell cell row ks) other) where
    -- the cell can be placed
    can : Placeable t.seats cell
    can = placeable t.seats cell free

    -- the row has sites for it: its cells with the new one are in wanted order, and they have a setting
    rival_fits : has_sites t.seats cell row ≡ true
    rival_fits =
        let joins : List Seat = joined row cell t.seats in
        let listed = joined_listed row cell t.seats t.rows (formed_listed t.rows t.seats known.well) among can in
        let own = listed_setting t.rows joins listed other (setting_perm (perm.symm (joined_cells row cell t.seats ks cells)) other setting) row among in
        let room = setting_fits row (cells_on row joins) (map (λ s. other s.cell.number) (seats_on row joins)) own (cells_pass t.rows row joins listed) (cells_in_order t.rows row joins listed) in
        let wide = joined_widths row cell t.seats in
        le-leb (widths (cells_on row t.seats) + cell.width) (row.right - row.left) (omega arith)

    -- and once it has taken the cell, the tables hold the cheapest setting, which costs its rise more than before
    rival : Rival f t cell row (cost f (with_cell cell row ks) other)
    rival =
        let then : Tables = with_seated f t cell row in
        let known_then = seated_known f fair t known cell free row among rival_fits in
        let hold = tables_hold f fair then known_then in
        let same : Permᴰ (with_cell cell row ks) (map standing_of then.seats) = seated_cells f row cell t.seats ks cells in
        let least = hold.cheapest other (setting_perm (perm.symm same) other setting) in
        let told = cost_perm f same other in
        let answered = answered_cost f then known_then.well (map standing_of then.seats) (perm.refl (map standing_of then.seats)) in
        let more = rise_is f row cell t.seats fair can.passes (row_ready t.rows t.seats row known.well among known.few) (ready_standing t.rows t.seats known.well cell can row among rival_fits) (standing_all (IsSet f t.seats) t.rows row known.set among) in
        record { fits = rival_fits; dearer = omega arith }

  module _ (rows : List Row) (order : Permᴰ rows t.rows) (ks : List Standing) (cells : Permᴰ ks (map standing_of t.seats)) (cell : Cell) (placing : Placing) where
    -- what stands costs the rise more once the cell is placed
    placed_cost : (place f t cell).answer ≡ Ok placing → cost f (with_placed rows ks cell placing) (site_in (where_is (place f t cell).tables)) ≡ floor_cost f t.seats + placing.rise
    placed_cost e =
        answered_cost f (place f t cell).tables (place_known f fair t known cell).well (with_placed rows ks cell placing) (placed_cells f fair t known rows order cell placing e ks cells)
        ∙ place_dearer f fair t known.well known.set cell placing e

    -- a granted placing is as the law says
    pub tables_granted : (place f t cell).answer ≡ Ok placing → Granted f rows ks (where_is t) cell placing (where_is (place f t cell).tables)
    tables_granted e =
        let p = placed_row f fair t known rows order cell placing e in
        let best = best_of f t.seats cell t.rows (ordered_rows t.rows t.seats known.well) p.row p.is in
        let each = all_perm (Among t.rows) order (all_among t.rows) in
        let now = answered_cost f t known.well ks cells in
        let then = placed_cost e in
        let rises = p.rises in
        record {
          stands = subst (λ u. where_is u cell.number ≡ Ok placing.spot) (sym p.after) p.stands;
          rise = omega arith;
          chosen = All-weaker (Among t.rows) _
              (λ r among other setting.
              let it = rival ks cells cell p.free r among other setting in
              let least = standing_all (λ r. has_sites t.seats cell r ≡ true → rise f t.seats cell p.row ≤ rise f t.seats cell r) t.rows r best.least among it.fits in
              omega (arith, it.dearer))
              rows each;
          first = All-weaker (Among t.rows) _
              (λ r among ahead other setting.
              let it = rival ks cells cell p.free r among other setting in
              let less = standing_all (λ r. has_sites t.seats cell r ≡ true → row_ahead r p.row ≡ true → rise f t.seats cell p.row < rise f t.seats cell r) t.rows r best.first among it.fits (subst (λ x. row_ahead r x ≡ true) p.row_is ahead) in
              omega (arith, it.dearer))
              rows each;
        }
