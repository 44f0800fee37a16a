-- The law leaves no slack: it defines one floor only.
--   one_setting      two answers of where_is of which the law holds while the same cells stand agree at every number
--   one_where        so for one history there is one answer of where_is
--   rows_apart       the rows that a history says stand are within their ranges, and no two share a site
--   one_placing      of one cell, among the same rows and cells, there is one granted placing
--   one_answer       so after one history there is one answer to each call
--   no_slack         all of it, whatever the measure
use Rattle.std.proofs.Common.{◌≡◌, ℕ, ◌<◌, ◌≤◌, Bool, true, false, not, ◌⊎◌, eqb, List, [], ◌∷◌, None, Ok, Err, Result, sym, refl, ap, ◌∙◌, subst, inl, inr, ⊎_elim, arith}
use mathlib.Core.Path.{fun_ext}
use Rattle.std.proofs.ByRecursion.{All-weaker}
use Rattle.std.proofs.lemmas.Bool.{cases_Bool, both_ways, or_cases, or_left, or_right, cond_both, eqb-true, not_from_false, false_from_ne_true, true_from_ne_false}
use Rattle.std.proofs.lemmas.Result.{IfOk-at_ok}
use Rattle.std.specs.List.{AllByRecursion, list_any}
use Rattle.measure.specs.Costs.{Price}
use Rattle.row.specs.Checked.{checked}
use Rattle.row.specs.Records.{row_fault, row_ahead}
use Rattle.row.specs.Settings.{EveryPair, Within}
use Rattle.row.specs.declared.Cell.{Cell}
use Rattle.row.specs.declared.Row.{Row}
use Rattle.row.specs.declared.Spot.{Spot}
use Rattle.row.proofs.Accepted.{both, unmapped}
use Rattle.row.proofs.Ranges.{passed, ranged, ranged_row}
use Rattle.floor.specs.Refusals.{place_refusal_by, stands_by}
use Rattle.floor.specs.Rows.{same_row, share}
use Rattle.floor.specs.declared.Placing.{Placing}
use Rattle.floor.specs.declared.Refusal.{Refusal}
use Rattle.floor.proofs.Kept.{all_with}
use Rattle.floor.proofs.Listed.{is_row, Standing as Among, is_itself, standing_all, same_share, apart_one}
use Rattle.floor.proofs.Orders.{row_total}
use Rattle.floor.proofs.Tests.{none_any}
use Rattle.history.specs.Histories.{Standing, cell_of, row_of, has_spot, row_at, with_cell, with_placed, call_of, refused, rows_after, standing_after, rows_in, standing_in, decide}
use Rattle.history.specs.Settings.{Where, site_in, placed, Setting, cost}
use Rattle.history.specs.Law.{Holds, Granted, Step, Law}
use Rattle.history.specs.Slack.{OneWhere, OneAnswer, NoSlack}
use Rattle.history.specs.declared.call.Event.{Event}
use Rattle.history.specs.declared.call.Event.TheVariants as event

-- where one of a list passes a test, what follows of each that passes
any_gives : {X : Type 0} (test : X → Bool) (C : Type 0) (xs : List X) → AllByRecursion (λ x. test x ≡ true → C) xs → list_any test xs ≡ true → C
any_gives test C [] each e = absurd (both_ways false refl e)
any_gives test C (x ∷ xs) each e = ⊎_elim each.0 (any_gives test C xs each.1) (or_cases (test x) (list_any test xs) e)

-- where_is answers for a standing cell its row's line and a site
abbrev Found : Where → Standing → Type 0
Found w k = w k.cell.number ≡ Ok (record { line = k.row.line; site = site_in w k.cell.number })

-- one answer of where_is has a standing cell no further right than another
abbrev NotRight : Where → Where → Standing → Type 0
NotRight w v k = site_in w k.cell.number ≤ site_in v k.cell.number

module _ (price : Price) (standing : List Standing) (w v : Where) (one : Holds price standing w) (two : Holds price standing v) where
  -- both settings cost the same
  same_cost : cost price standing (site_in v) ≡ cost price standing (site_in w)
  same_cost =
      let a = one.cheapest (site_in v) two.setting in
      let b = two.cheapest (site_in w) one.setting in
      omega arith

  -- of a standing cell both answer the same
  same_found : (k : Standing) → Found w k → NotRight w v k → Found v k → NotRight v w k → w k.cell.number ≡ v k.cell.number
  same_found k of_w left of_v right =
      let same : site_in w k.cell.number ≡ site_in v k.cell.number = omega arith in
      of_w ∙ ap (λ x. Ok (record { line = k.row.line; site = x })) same ∙ sym of_v

  -- and so of all standing cells
  same_each : AllByRecursion (λ k. w k.cell.number ≡ v k.cell.number) standing
  same_each =
      all_with (λ k. Found w k × NotRight w v k) (λ k. Found v k × NotRight v w k) (λ k. w k.cell.number ≡ v k.cell.number) (λ k a b. same_found k a.0 a.1 b.0 b.1) standing
      (all_with (Found w) (NotRight w v) (λ k. Found w k × NotRight w v k) (λ k a b. (a, b)) standing one.found (one.leftmost (site_in v) two.setting same_cost))
      (all_with (Found v) (NotRight v w) (λ k. Found v k × NotRight v w k) (λ k a b. (a, b)) standing two.found (two.leftmost (site_in w) one.setting (sym same_cost)))

  -- so both answer the same of every number, whether it stands or not
  pub one_setting : (number : ℕ) → w number ≡ v number
  one_setting number =
      ⊎_elim
      (any_gives (λ k. eqb k.cell.number number) (w number ≡ v number) standing
      (All-weaker (λ k. w k.cell.number ≡ v k.cell.number) (λ k. eqb k.cell.number number ≡ true → w number ≡ v number)
      (λ k same is. subst (λ n. w n ≡ v n) (eqb-true k.cell.number number is) same) standing same_each))
      (λ absent. one.absent number absent ∙ sym (two.absent number absent))
      (cases_Bool (stands_by cell_of row_of number standing))

-- what the law says of where_is after a history
law_holds : (price : Price) (history : List Event) (w : Where) → Law price history w → Holds price (standing_in history) w
law_holds price [] w law = law
law_holds price (e ∷ earlier) w law = law.2.holds

-- after one history where_is has one answer for each number
pub one_where : (price : Price) → OneWhere price
one_where price history w v of_w of_v = one_setting price (standing_in history) w v (law_holds price history w of_w) (law_holds price history v of_v)

-- rows within their ranges, no two with a site in common
pub record Apart (rows : List Row) : Type 0 where
  pub pass : AllByRecursion (λ r. row_fault r ≡ None) rows
  pub apart : EveryPair (λ a b. not (share a b) ≡ true) rows

-- they stay so with each event that the checks decided
apart_after : (rows : List Row) (standing : List Standing) (e : Event) → Apart rows → refused e ≡ decide rows standing (call_of e) → Apart (rows_after e rows)
apart_after rows standing (event.Added row (Ok granted)) known decided =
    let checks = both _ _ (sym decided) in
    let full = passed _ _ _ checks.1 in
    let shares = passed _ _ _ full.1 in
    let off = none_any (share row) rows shares.0 in
    record {
      pass = (unmapped _ _ checks.0, known.pass);
      apart = (All-weaker (λ r. share row r ≡ false) (λ r. not (share row r) ≡ true) (λ r no. not_from_false (share row r) no) rows off, known.apart);
    }
apart_after rows standing (event.Added row (Err refusal)) known decided = known
apart_after rows standing (event.Placed cell answer) known decided = known
apart_after rows standing (event.Tried cell answer) known decided = known
apart_after rows standing (event.Withdrawn number answer) known decided = known

-- so the rows that a history says stand are apart
pub rows_apart : (price : Price) (history : List Event) (w : Where) → Law price history w → Apart (rows_in history)
rows_apart price [] w law = record { pass = tt; apart = tt }
rows_apart price (e ∷ earlier) w law = apart_after (rows_in earlier) (standing_in earlier) e (rows_apart price earlier law.0 law.1) law.2.decided

-- what lies at a spot is one of the rows, or the row that has no sites
row_at_among : (rows : List Row) (spot : Spot) → Among rows (row_at rows spot) ⊎ (row_at rows spot ≡ record { line = 0; left = 0; right = 0 })
row_at_among [] spot = inr refl
row_at_among (row ∷ rows) spot =
    cond_both (has_spot spot row) row (row_at rows spot) (λ r. Among (row ∷ rows) r ⊎ (r ≡ record { line = 0; left = 0; right = 0 }))
    (λ here. inl (or_left (is_row row row) (list_any (is_row row) rows) (is_itself row)))
    (λ there. ⊎_elim (λ among. inl (or_right (is_row (row_at rows spot) row) (list_any (is_row (row_at rows spot)) rows) among)) (λ none. inr none) (row_at_among rows spot))

-- so it is one of the rows, where a cell with a site lies within it
within_among : (rows : List Row) (spot : Spot) (k : Standing) (at : ℕ → ℕ) → 1 ≤ k.cell.width → Within (row_at rows spot) (placed at k) → Among rows (row_at rows spot)
within_among rows spot k at wide within =
    ⊎_elim (λ among. among) (λ none. let inside = subst (λ r. Within r (placed at k)) none within in absurd (omega arith)) (row_at_among rows spot)

-- a placing of a cell that the law grants, with some answers of where_is after it
abbrev pub Grants : Price → List Row → List Standing → Where → Cell → Placing → Type 0
Grants price rows earlier before cell placing =
    (after : Where) × Granted price rows earlier before cell placing after × Holds price (with_placed rows earlier cell placing) after

module _ (price : Price) (rows : List Row) (earlier : List Standing) (before : Where) (cell : Cell) (known : Apart rows) (wide : 1 ≤ cell.width) where
  -- the same of this cell
  abbrev Grant : Placing → Type 0
  Grant p = Grants price rows earlier before cell p

  -- the row that a placing went to
  abbrev on : Placing → Row
  on p = row_at rows p.spot

  -- what the floor costs then
  abbrev costs : (p : Placing) → Grant p → ℕ
  costs p g = cost price (with_placed rows earlier cell p) (site_in g.0)

  -- the row is one of the rows
  granted_among : (p : Placing) → Grant p → Among rows (on p)
  granted_among p g = within_among rows p.spot (record { cell = cell; row = on p }) (site_in g.0) wide g.2.setting.legal.within.0

  -- of two granted placings neither costs more
  no_more : (p q : Placing) (g : Grant p) (h : Grant q) → costs q h ≤ costs p g
  no_more p q g h =
      standing_all (λ row. (other : ℕ → ℕ) → Setting (with_cell cell row earlier) other → costs q h ≤ cost price (with_cell cell row earlier) other) rows (on p) h.1.chosen (granted_among p g) (site_in g.0) g.2.setting

  -- and neither went to a row that is ahead of the other's
  not_ahead : (p q : Placing) → Grant p → Grant q → row_ahead (on p) (on q) ≡ true → ⊥
  not_ahead p q g h ahead =
      let more : costs q h < costs p g =
      standing_all (λ row. row_ahead row (on q) ≡ true → (other : ℕ → ℕ) → Setting (with_cell cell row earlier) other → costs q h < cost price (with_cell cell row earlier) other) rows (on p) h.1.first (granted_among p g) ahead (site_in g.0) g.2.setting in
      let less = no_more q p h g in
      absurd (omega arith)

  -- so both went to one row
  one_row : (p q : Placing) → Grant p → Grant q → on p ≡ on q
  one_row p q g h =
      let same : same_row (on p) (on q) ≡ true =
      true_from_ne_false (same_row (on p) (on q)) (λ off. not_ahead q p h g (row_total (on p) (on q) (false_from_ne_true (row_ahead (on p) (on q)) (not_ahead p q g h)) off)) in
      let pass : (r : Placing) → Grant r → row_fault (on r) ≡ None = λ r i. standing_all (λ row. row_fault row ≡ None) rows (on r) known.pass (granted_among r i) in
      apart_one rows (on p) (on q) known.apart (same_share (on p) (on q) (ranged_row (on p) (pass p g)) (ranged_row (on q) (pass q h)) same) (granted_among p g) (granted_among q h)

  -- and both placings are one
  pub one_placing : (p q : Placing) → Grant p → Grant q → p ≡ q
  one_placing p q g h =
      let w = g.0 in
      let v = h.0 in
      let stand : with_placed rows earlier cell p ≡ with_placed rows earlier cell q = ap (λ row. with_cell cell row earlier) (one_row p q g h) in
      let same : w ≡ v = fun_ext (one_setting price (with_placed rows earlier cell q) w v (subst (λ l. Holds price l w) stand g.2) h.2) in
      let answers : ◌≡◌ {A = Result Spot Refusal} (Ok p.spot) (Ok q.spot) = sym g.1.stands ∙ ap (λ x. x cell.number) same ∙ h.1.stands in
      let spot : p.spot ≡ q.spot = cc in
      let cost_p : costs p g ≡ costs q h = ap (λ l. cost price l (site_in w)) stand ∙ ap (λ x. cost price (with_placed rows earlier cell q) (site_in x)) same in
      let rise_p = g.1.rise in
      let rise_q = h.1.rise in
      let rise : p.rise ≡ q.rise = omega arith in
      λ i. record { spot = spot i; rise = rise i }

-- answers with one refusal or none, and one value where both are granted, are one
one_result : {X E : Type 0} (r s : Result X E) → checked r ≡ checked s → ((x y : X) → r ≡ Ok x → s ≡ Ok y → x ≡ y) → r ≡ s
one_result (Ok x) (Ok y) same granted = ap Ok (granted x y refl refl)
one_result (Ok x) (Err f) same granted = cc
one_result (Err e) (Ok y) same granted = cc
one_result (Err e) (Err f) same granted = cc

module _ (price : Price) (earlier : List Event) (before : Where) (known : Apart (rows_in earlier)) where
  -- the rows before a call
  abbrev rows : List Row
  rows = rows_in earlier

  -- the cells that stand before it
  abbrev standing : List Standing
  standing = standing_in earlier

  -- a cell whose placing no check refuses is wide
  wide : (cell : Cell) → place_refusal_by cell_of row_of rows standing cell ≡ None → 1 ≤ cell.width
  wide cell none =
      let all = both _ _ none in
      let own = both _ _ all.0 in
      (ranged cell (unmapped _ _ own.0)).some_width

  -- of a placing, or of a try, there is one answer
  one_placed : (cell : Cell) (r s : Result Placing Refusal) → checked r ≡ place_refusal_by cell_of row_of rows standing cell → checked s ≡ place_refusal_by cell_of row_of rows standing cell →
      ((p : Placing) → r ≡ Ok p → Grants price rows standing before cell p) → ((q : Placing) → s ≡ Ok q → Grants price rows standing before cell q) → r ≡ s
  one_placed cell r s of_r of_s grant_r grant_s =
      one_result r s (of_r ∙ sym of_s)
      (λ p q is_p is_q. one_placing price rows standing before cell known (wide cell (sym of_r ∙ ap checked is_p)) p q (grant_r p is_p) (grant_s q is_q))

  -- the law grants what a placing was granted
  placed_grants : (cell : Cell) (answer : Result Placing Refusal) (after : Where) → Step price earlier before (event.Placed cell answer) after → (p : Placing) → answer ≡ Ok p → Grants price rows standing before cell p
  placed_grants cell answer after step p is =
      (after, IfOk-at_ok (λ placing. Granted price rows standing before cell placing after) is step.answers.1, subst (λ r. Holds price (standing_after (event.Placed cell r) rows standing) after) is step.holds)

  -- and what a try was
  tried_grants : (cell : Cell) (answer : Result Placing Refusal) (after : Where) → Step price earlier before (event.Tried cell answer) after → (p : Placing) → answer ≡ Ok p → Grants price rows standing before cell p
  tried_grants cell answer after step p is = IfOk-at_ok (Grants price rows standing before cell) is step.answers.1

  -- so of each call there is one answer, with one answer of where_is before it
  one_step : (d e : Event) (w v : Where) → call_of d ≡ call_of e → Step price earlier before d w → Step price earlier before e v → d ≡ e
  one_step (event.Added row r) (event.Added other s) w v same of_d of_e =
      let is : other ≡ row = cc in
      let step = subst (λ x. Step price earlier before (event.Added x s) v) is of_e in
      ap (event.Added row) (one_result r s (of_d.decided ∙ sym step.decided) (λ x y _ _. refl)) ∙ ap (λ x. event.Added x s) (sym is)
  one_step (event.Placed cell r) (event.Placed other s) w v same of_d of_e =
      let is : other ≡ cell = cc in
      let step = subst (λ x. Step price earlier before (event.Placed x s) v) is of_e in
      ap (event.Placed cell) (one_placed cell r s of_d.decided step.decided (placed_grants cell r w of_d) (placed_grants cell s v step)) ∙ ap (λ x. event.Placed x s) (sym is)
  one_step (event.Tried cell r) (event.Tried other s) w v same of_d of_e =
      let is : other ≡ cell = cc in
      let step = subst (λ x. Step price earlier before (event.Tried x s) v) is of_e in
      ap (event.Tried cell) (one_placed cell r s of_d.decided step.decided (tried_grants cell r w of_d) (tried_grants cell s v step)) ∙ ap (λ x. event.Tried x s) (sym is)
  one_step (event.Withdrawn number r) (event.Withdrawn other s) w v same of_d of_e =
      let is : other ≡ number = cc in
      let step = subst (λ x. Step price earlier before (event.Withdrawn x s) v) is of_e in
      ap (event.Withdrawn number) (of_d.answers ∙ sym step.answers) ∙ ap (λ x. event.Withdrawn x s) (sym is)
  one_step d e w v same of_d of_e = cc

-- and with any, as there is only one
pub one_answer : (price : Price) → OneAnswer price
one_answer price history d e w v same of_d of_e =
    one_step price history of_d.0 (rows_apart price history of_d.0 of_d.1) d e w v same of_d.2
    (subst (λ b. Step price history b e v) (fun_ext (one_where price history of_e.0 of_d.0 of_e.1 of_d.1)) of_e.2)

-- the law leaves no slack, whatever the measure
pub no_slack : NoSlack
no_slack = record { one_setting = one_setting; one_where = one_where; one_answer = one_answer }
