-- What is chosen is the row of least rise, and of equal ones the first.
use Rattle.std.proofs.Common.{◌≡◌, ℕ, suc, ◌<◌, ◌≤◌, Bool, true, false, cond, leb, List, [], ◌∷◌, Some, None, Ok, Err, Option, Result, refl, subst, ⊎_elim, arith}
use Rattle.std.proofs.ByRecursion.{All-weaker}
use Rattle.std.proofs.lemmas.Bool.{leb-true, leb-false, both_ways, or_cases}
use Rattle.std.proofs.lemmas.Option.{same_Some}
use Rattle.std.specs.List.{ContainsAt as Has, AllByRecursion, list_any}
use Rattle.measure.specs.Costs.{Price}
use Rattle.row.specs.Records.{row_ahead}
use Rattle.row.specs.declared.Cell.{Cell}
use Rattle.row.specs.declared.Row.{Row}
use Rattle.table.specs.Order.{Ordered}
use Rattle.floor.specs.Calls.{outcome_unless, better, chosen, rise, placing_on, outcome_on, place}
use Rattle.floor.specs.Formed.{formed}
use Rattle.floor.specs.Refusals.{has_sites, cell_refusal}
use Rattle.floor.specs.Settled.{Least}
use Rattle.floor.specs.Tables.{Tables}
use Rattle.floor.specs.declared.Placing.{Placing}
use Rattle.floor.specs.declared.Refusal.{Refusal}
use Rattle.floor.specs.declared.Refusal.TheVariants.{NoRoom}
use Rattle.floor.specs.declared.Seat.{Seat}
use Rattle.floor.proofs.Listed.{is_row, Standing, row_is}
use Rattle.floor.proofs.Orders.{row_once}
use Rattle.floor.proofs.Placed.{chosen_good}
use Rattle.floor.proofs.Rowed.{ordered_rows}

module _ (f : Price) (seats : List Seat) (cell : Cell) where
  abbrev rises : Row → ℕ
  rises = rise f seats cell

  -- no row with sites rises less
  abbrev pub NoneLess : Row → List Row → Type 0
  NoneLess row rows = AllByRecursion (λ other. has_sites seats cell other ≡ true → rises row ≤ rises other) rows

  -- and one that is ahead rises more
  abbrev pub FirstOf : Row → List Row → Type 0
  FirstOf row rows = AllByRecursion (λ other. has_sites seats cell other ≡ true → row_ahead other row ≡ true → rises row < rises other) rows

  pub record Best (row : Row) (rows : List Row) : Type 0 where
    pub least : NoneLess row rows
    pub first : FirstOf row rows

  -- something is chosen of a row that has sites and what is chosen of others
  not_none : (r : Row) (o : Option Row) → better rises r o ≡ None → ⊥
  not_none r None h = let never : ◌≡◌ {A = ℕ} 0 1 = cc in absurd (omega arith)
  not_none r (Some other) h = by_test (leb (rises r) (rises other)) h
    where
      by_test : (t : Bool) → cond t (Some r) (Some other) ≡ None → ⊥
      by_test true e = let never : ◌≡◌ {A = ℕ} 0 1 = cc in absurd (omega arith)
      by_test false e = let never : ◌≡◌ {A = ℕ} 0 1 = cc in absurd (omega arith)

  no_sites : (r : Row) (rows : List Row) (t : Bool) → has_sites seats cell r ≡ t → (chosen f seats cell rows ≡ None → AllByRecursion (λ other. has_sites seats cell other ≡ false) rows) → cond t (better rises r (chosen f seats cell rows)) (chosen f seats cell rows) ≡ None → AllByRecursion (λ other. has_sites seats cell other ≡ false) (r ∷ rows)
  no_sites r rows true is rest h = absurd (not_none r (chosen f seats cell rows) h)
  no_sites r rows false is rest h = (is, rest h)

  -- where no row is chosen, none has sites
  pub none_fits : (rows : List Row) → chosen f seats cell rows ≡ None → AllByRecursion (λ other. has_sites seats cell other ≡ false) rows
  none_fits [] e = tt
  none_fits (r ∷ rows) e = no_sites r rows (has_sites seats cell r) refl (none_fits rows) e

  -- the first row, where no later one is better
  first_best : (r : Row) (rows : List Row) → AllByRecursion (λ y. row_ahead r y ≡ true) rows → NoneLess r rows → Best r (r ∷ rows)
  first_best r rows after less = record {
    least = (λ fits. omega arith, less);
    first = (
      λ fits ahead. absurd (row_once r r ahead ahead),
      All-weaker (λ y. row_ahead r y ≡ true) (λ y. has_sites seats cell y ≡ true → row_ahead y r ≡ true → rises r < rises y) (λ y h fits ahead. absurd (row_once r y h ahead)) rows after,
    );
  }

  -- a row passed over
  later_best : (r row : Row) (rows : List Row) → (has_sites seats cell r ≡ true → rises row < rises r) → Best row rows → Best row (r ∷ rows)
  later_best r row rows less best = record {
    least = (λ fits. let h = less fits in omega arith, best.least);
    first = (λ fits ahead. less fits, best.first);
  }

  -- one row more: the row itself or the best of those after it, as the test says
  of_two : (r other row : Row) (rows : List Row) (t : Bool) → AllByRecursion (λ y. row_ahead r y ≡ true) rows → Best other rows → leb (rises r) (rises other) ≡ t → cond t (Some r) (Some other) ≡ Some row → Best row (r ∷ rows)
  of_two r other row rows true after best test h =
      let up = leb-true (rises r) (rises other) test in
      subst (λ x. Best x (r ∷ rows)) (same_Some r row h)
      (first_best r rows after (All-weaker (λ y. has_sites seats cell y ≡ true → rises other ≤ rises y) (λ y. has_sites seats cell y ≡ true → rises r ≤ rises y) (λ y h fits. let more = h fits in omega arith) rows best.least))
  of_two r other row rows false after best test h =
      let down = leb-false (rises r) (rises other) test in
      subst (λ x. Best x (r ∷ rows)) (same_Some other row h) (later_best r other rows (λ _. omega arith) best)

  of_better : (r row : Row) (rows : List Row) (o : Option Row) → AllByRecursion (λ y. row_ahead r y ≡ true) rows → chosen f seats cell rows ≡ o → ((x : Row) → chosen f seats cell rows ≡ Some x → Best x rows) → better rises r o ≡ Some row → Best row (r ∷ rows)
  of_better r row rows None after is rest h =
      subst (λ x. Best x (r ∷ rows)) (same_Some r row h)
      (first_best r rows after (All-weaker (λ y. has_sites seats cell y ≡ false) (λ y. has_sites seats cell y ≡ true → rises r ≤ rises y) (λ y no yes. absurd (both_ways (has_sites seats cell y) no yes)) rows (none_fits rows is)))
  of_better r row rows (Some other) after is rest h = of_two r other row rows (leb (rises r) (rises other)) after (rest other is) refl h

  of_row : (r row : Row) (rows : List Row) (t : Bool) → has_sites seats cell r ≡ t → AllByRecursion (λ y. row_ahead r y ≡ true) rows → ((x : Row) → chosen f seats cell rows ≡ Some x → Best x rows) → cond t (better rises r (chosen f seats cell rows)) (chosen f seats cell rows) ≡ Some row → Best row (r ∷ rows)
  of_row r row rows true is after rest h = of_better r row rows (chosen f seats cell rows) after refl rest h
  of_row r row rows false is after rest h = later_best r row rows (λ yes. absurd (both_ways (has_sites seats cell r) is yes)) (rest row h)

  -- what is chosen is the best
  pub best_of : (rows : List Row) → Ordered row_ahead rows → (row : Row) → chosen f seats cell rows ≡ Some row → Best row rows
  best_of [] ordered row e = let never : ◌≡◌ {A = ℕ} 0 1 = cc in absurd (omega arith)
  best_of (r ∷ rows) ordered row e = of_row r row rows (has_sites seats cell r) refl ordered.0 (best_of rows ordered.1) e

-- a row that stands is in the table
standing_has : (rows : List Row) (row : Row) → Standing rows row → Has rows row
standing_has [] row e = absurd (both_ways false refl e)
standing_has (r ∷ rows) row e =
    ⊎_elim (λ here. (0, omega arith, λ d. row_is row r here))
    (λ there. let rest = standing_has rows row there in (suc rest.0, let within = rest.1 in omega arith, rest.2))
    (or_cases (is_row row r) (list_any (is_row row) rows) e)

-- what a granted placing answers is one placing
pub same_ok : (p q : Placing) → ◌≡◌ {A = Result Placing Refusal} (Ok p) (Ok q) → p ≡ q
same_ok p q e = cc

-- a refusal is no placing
pub not_ok : (r : Refusal) (q : Placing) → ◌≡◌ {A = Result Placing Refusal} (Err r) (Ok q) → ⊥
not_ok r q e = let never : ◌≡◌ {A = ℕ} 0 1 = cc in absurd (omega arith)

module _ (f : Price) (t : Tables) (well : formed t.rows t.seats ≡ true) (cell : Cell) where
  least_row : (row : Row) → chosen f t.seats cell t.rows ≡ Some row → Least f t cell (placing_on f t.seats cell row)
  least_row row is =
      let good = chosen_good f t.rows t.seats cell row is in
      let best = best_of f t.seats cell t.rows (ordered_rows t.rows t.seats well) row is in
      record {
        row = row;
        standing = standing_has t.rows row good.stands;
        fits = good.fits;
        line = refl;
        rises = refl;
        least = best.least;
        first = best.first;
      }

  on_least : (placing : Placing) (o : Option Row) → chosen f t.seats cell t.rows ≡ o → (outcome_on f t cell o).answer ≡ Ok placing → Least f t cell placing
  on_least placing None is e = absurd (not_ok NoRoom placing e)
  on_least placing (Some row) is e = subst (Least f t cell) (same_ok (placing_on f t.seats cell row) placing e) (least_row row is)

  or_least : (placing : Placing) (o : Option Refusal) → (outcome_unless o t (outcome_on f t cell (chosen f t.seats cell t.rows))).answer ≡ Ok placing → Least f t cell placing
  or_least placing None e = on_least placing (chosen f t.seats cell t.rows) refl e
  or_least placing (Some refusal) e = absurd (not_ok refusal placing e)

  -- a granted placing went to the row of least rise, and of equal ones to the first
  pub place_least : (placing : Placing) → (place f t cell).answer ≡ Ok placing → Least f t cell placing
  place_least placing e = or_least placing (cell_refusal t.seats cell) e
