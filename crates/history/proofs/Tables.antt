-- A floor's tables, well formed and with every row set, are as the law says of the answers of where_is.
use Rattle.std.proofs.Common.{◌≡◌, ℕ, ◌+◌, ◌≤◌, true, false, List, [], ◌∷◌, length, map, sym, refl, ap, ◌∙◌, subst, ⊎_elim, arith}
use Rattle.std.proofs.ByRecursion.{All-weaker, All-map}
use Rattle.std.proofs.lemmas.Bool.{both_ways, or_cases}
use Rattle.std.proofs.lemmas.List.Sums.{sum_by-cons}
use Rattle.std.specs.List.{AllZip, AllByRecursion, sum_by, count_by, list_any}
use Rattle.measure.specs.Costs.{Fair, Price}
use Rattle.row.specs.Records.{row_ahead}
use Rattle.row.specs.Settings.{EveryPair, Cheapest}
use Rattle.row.specs.Costs.{sites_cost}
use Rattle.row.specs.declared.Row.{Row}
use Rattle.row.proofs.Subject.{row_cheapest}
use Rattle.floor.specs.Calls.{where_is}
use Rattle.floor.specs.Formed.{formed}
use Rattle.floor.specs.Rows.{same_row}
use Rattle.floor.specs.Seats.{on_row, seats_on, cell_of, site_of, cells_on, sites_on}
use Rattle.floor.specs.Tables.{Tables}
use Rattle.floor.specs.declared.Seat.{Seat}
use Rattle.floor.proofs.Keeping.{IsSet, all_standing}
use Rattle.floor.proofs.Kept.{all_with}
use Rattle.floor.proofs.Listed.{is_row, Standing, row_is, standing_all, formed_listed}
use Rattle.floor.proofs.Orders.{same_refl}
use Rattle.history.specs.Law.{Holds}
use Rattle.history.specs.Settings.{site_in, Setting, cost}
use Rattle.history.proofs.ByRows.{OnOne, count_yes, count_no, count_none, sums_le, sums_tight, sum_by_rows, each_by_rows}
use Rattle.history.proofs.Held.{standing_of, Known}
use Rattle.history.proofs.Seated.{rows_in_order, tables_found, sites_are, tables_absent, tables_setting, row_setting, row_accepted}

-- a row and another that it is ahead of are not one row, either way
ahead_apart : (a b : Row) → row_ahead a b ≡ true → (same_row a b ≡ false) × (same_row b a ≡ false)
ahead_apart a b ahead = (grind arith, grind arith)

-- of rows in row order, exactly one has the line and the left of one that stands
once : (rows : List Row) (row : Row) → EveryPair (λ a b. row_ahead a b ≡ true) rows → Standing rows row → count_by (same_row row) rows ≡ 1
once [] row ordered stands = absurd (both_ways false refl stands)
once (r ∷ rows) row ordered stands =
    ⊎_elim
    (λ here.
    let is = row_is row r here in
    let own = count_yes (same_row row) r rows (subst (λ q. same_row row q ≡ true) (sym is) (same_refl row)) in
    let others = count_none (same_row row) rows
    (All-weaker (λ q. row_ahead r q ≡ true) (λ q. same_row row q ≡ false) (λ q after. (ahead_apart row q (subst (λ x. row_ahead x q ≡ true) is after)).0) rows ordered.0) in
    omega arith)
    (λ there.
    count_no (same_row row) r rows (ahead_apart r row (standing_all (λ q. row_ahead r q ≡ true) rows row ordered.0 there)).1
    ∙ once rows row ordered.1 there)
    (or_cases (is_row row r) (list_any (is_row row) rows) stands)

-- every seat is on exactly one row
on_one : (t : Tables) → formed t.rows t.seats ≡ true → AllByRecursion (OnOne on_row t.rows) t.seats
on_one t well =
    let listed = formed_listed t.rows t.seats well in
    All-weaker (λ s. Standing t.rows s.row) (OnOne on_row t.rows) (λ s. once t.rows s.row (rows_in_order t well)) t.seats listed.stand

module _ (f : Price) where
  -- what a seat's cell costs at a site
  abbrev across : (Seat → ℕ) → Seat → ℕ
  across site s = f s.cell.wanted.site s.cell.weight (site s)

  -- and what its row's line costs it
  abbrev up : Seat → ℕ
  up s = f s.cell.wanted.line s.cell.weight s.row.line

  -- the sites of seats, added up
  sites_sum : (site : Seat → ℕ) (seats : List Seat) → sites_cost f (map cell_of seats) (map site seats) ≡ sum_by (across site) seats
  sites_sum site [] = refl
  sites_sum site (s ∷ seats) =
      let more = sum_by-cons (across site) s seats in
      let rest = sites_sum site seats in
      omega arith

  -- a setting's cost is that of its sites and of the lines
  cost_sum : (at : ℕ → ℕ) (site : Seat → ℕ) (seats : List Seat) → AllByRecursion (λ s. at s.cell.number ≡ site s) seats → cost f (map standing_of seats) at ≡ sum_by (across site) seats + sum_by up seats
  cost_sum at site [] same = refl
  cost_sum at site (s ∷ seats) same =
      let more = sum_by-cons (across site) s seats in
      let line = sum_by-cons up s seats in
      let own = ap (f s.cell.wanted.site s.cell.weight) same.0 in
      let rest = cost_sum at site seats same.1 in
      omega arith

-- sites one by one
zip_each : (own other : Seat → ℕ) (seats : List Seat) → AllZip ◌≤◌ (map own seats) (map other seats) → AllByRecursion (λ s. own s ≤ other s) seats
zip_each own other [] h = tt
zip_each own other (s ∷ seats) h = (h.0, zip_each own other seats h.1)

module _ (f : Price) (fair : Fair f) (t : Tables) (known : Known f t) where
  -- the sites that where_is answers
  abbrev here : ℕ → ℕ
  here = site_in (where_is t)

  -- a standing row has the cheapest setting, and of the cheapest the leftmost
  abbrev Best : Row → Type 0
  Best row = Standing t.rows row × Cheapest f row (cells_on row t.seats) (sites_on row t.seats)

  -- a standing row that is set is so ..
  row_best : (row : Row) → Standing t.rows row → IsSet f t.seats row → Best row
  row_best row stands is = (
    stands,
    subst (Cheapest f row (cells_on row t.seats)) (sym is)
        (row_cheapest f row fair (cells_on row t.seats) (length (cells_on row t.seats)) (row_accepted t known.well known.few row stands)),
  )

  -- .. and so is each row
  rows_best : AllByRecursion Best t.rows
  rows_best = all_standing (IsSet f t.seats) Best t.rows row_best known.set

  module _ (other : ℕ → ℕ) (legal : Setting (map standing_of t.seats) other) where
    -- the other site of a seat
    abbrev other_site : Seat → ℕ
    other_site s = other s.cell.number

    -- what the sites of a row cost as they are ..
    abbrev own_cost : Row → ℕ
    own_cost row = sum_by (across f site_of) (seats_on row t.seats)

    -- .. and in the other setting
    abbrev other_cost : Row → ℕ
    other_cost row = sum_by (across f other_site) (seats_on row t.seats)

    -- on each row the other setting costs no less ..
    rows_cheapest : AllByRecursion (λ row. own_cost row ≤ other_cost row) t.rows
    rows_cheapest =
        All-weaker Best (λ row. own_cost row ≤ other_cost row)
        (λ row best.
        let least = best.1.cheapest (map other_site (seats_on row t.seats)) (row_setting t known.well other legal row best.0) in
        let own = sites_sum f site_of (seats_on row t.seats) in
        let others = sites_sum f other_site (seats_on row t.seats) in
        omega arith)
        t.rows rows_best

    -- .. and where it costs the same, it has no seat further left
    row_leftmost : (row : Row) → Best row → other_cost row ≡ own_cost row → AllByRecursion (λ s. s.site ≤ other_site s) (seats_on row t.seats)
    row_leftmost row best same =
        let own = sites_sum f site_of (seats_on row t.seats) in
        let others = sites_sum f other_site (seats_on row t.seats) in
        zip_each site_of other_site (seats_on row t.seats) (best.1.leftmost (map other_site (seats_on row t.seats)) (row_setting t known.well other legal row best.0) (omega arith))

    -- what all sites cost as they are is the sum over the rows ..
    own_sum : sum_by (across f site_of) t.seats ≡ sum_by own_cost t.rows
    own_sum = sum_by_rows on_row t.rows (across f site_of) t.seats (on_one t known.well)

    -- .. and so it is in the other setting
    other_sum : sum_by (across f other_site) t.seats ≡ sum_by other_cost t.rows
    other_sum = sum_by_rows on_row t.rows (across f other_site) t.seats (on_one t known.well)

    -- what the floor costs as it is: its sites and its lines ..
    own_whole : cost f (map standing_of t.seats) here ≡ sum_by (across f site_of) t.seats + sum_by (up f) t.seats
    own_whole = cost_sum f here site_of t.seats (sites_are t known.well)

    -- .. and in the other setting: the same lines
    other_whole : cost f (map standing_of t.seats) other ≡ sum_by (across f other_site) t.seats + sum_by (up f) t.seats
    other_whole =
        cost_sum f other other_site t.seats
        (All-weaker (λ s. here s.cell.number ≡ s.site) (λ s. other_site s ≡ other_site s) (λ s _. refl) t.seats (sites_are t known.well))

    -- the other setting costs no less
    all_cheapest : cost f (map standing_of t.seats) here ≤ cost f (map standing_of t.seats) other
    all_cheapest =
        let rows_least = sums_le own_cost other_cost t.rows rows_cheapest in
        omega (arith, own_sum, other_sum, own_whole, other_whole)

    -- and where it costs the same, it has no seat further left
    all_leftmost : cost f (map standing_of t.seats) other ≡ cost f (map standing_of t.seats) here → AllByRecursion (λ k. here k.cell.number ≤ other k.cell.number) (map standing_of t.seats)
    all_leftmost same =
        let Left : Row → Type 0 = λ row. AllByRecursion (λ s. s.site ≤ other_site s) (seats_on row t.seats) in
        let up_to : sum_by other_cost t.rows ≤ sum_by own_cost t.rows = omega (arith, own_sum, other_sum, own_whole, other_whole) in
        let lefts = all_with Best (λ row. other_cost row ≡ own_cost row) Left row_leftmost t.rows rows_best (sums_tight own_cost other_cost t.rows rows_cheapest up_to) in
        let each = each_by_rows on_row t.rows (λ s. s.site ≤ other_site s) t.seats (on_one t known.well) lefts in
        All-map (λ k. here k.cell.number ≤ other k.cell.number) standing_of t.seats
        (all_with (λ s. here s.cell.number ≡ s.site) (λ s. s.site ≤ other_site s) (λ s. here s.cell.number ≤ other s.cell.number) (λ s is left. omega arith) t.seats (sites_are t known.well) each)

-- the tables are as the law says of the answers of where_is
pub tables_hold : (f : Price) → Fair f → (t : Tables) → Known f t → Holds f (map standing_of t.seats) (where_is t)
tables_hold f fair t known = record {
  found = tables_found t known.well;
  absent = tables_absent t;
  setting = tables_setting t known.well;
  cheapest = all_cheapest f fair t known;
  leftmost = all_leftmost f fair t known;
}
