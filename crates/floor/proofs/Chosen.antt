-- The row of least rise, as it is found by going over the rows with the best so far.
use Rattle.std.proofs.Common.{◌≡◌, ℕ, Bool, true, false, cond, leb, List, [], ◌∷◌, Some, None, Option, IfSome, sym, refl, ap, ◌∙◌, arith}
use Rattle.std.proofs.lemmas.Bool.{leb-true, leb-false, le-leb, lt-leb}
use Rattle.std.specs.Option.{option_map}
use Rattle.measure.specs.Costs.{Price}
use Rattle.row.specs.declared.Cell.{Cell}
use Rattle.row.specs.declared.Row.{Row}
use Rattle.floor.specs.Calls.{rise, better, chosen}
use Rattle.floor.specs.Choices.{sites_with, choice_of, choice_on, better_choice, best_choice}
use Rattle.floor.specs.Refusals.{has_sites}
use Rattle.floor.specs.declared.Seat.{Seat}
use Rattle.floor.specs.declared.choice.Choice.{Choice}

module _ (rises : Row → ℕ) where
  -- three rows: the better of the first and the better of the other two, by what each test says
  three : (a b c : Row) (ab bc : Bool) → leb (rises a) (rises b) ≡ ab → leb (rises b) (rises c) ≡ bc → better rises a (cond bc (Some b) (Some c)) ≡ better rises (cond ab a b) (Some c)
  three a b c true true p q =
      let ac : leb (rises a) (rises c) ≡ true = le-leb (rises a) (rises c) (omega (arith, leb-true _ _ p, leb-true _ _ q)) in
      ap (λ t. cond t (Some a) (Some b)) p ∙ sym (ap (λ t. cond t (Some a) (Some c)) ac)
  three a b c true false p q = refl
  three a b c false true p q = ap (λ t. cond t (Some a) (Some b)) p ∙ sym (ap (λ t. cond t (Some b) (Some c)) q)
  three a b c false false p q =
      let ac : leb (rises a) (rises c) ≡ false = lt-leb (rises a) (rises c) (omega (arith, leb-false _ _ p, leb-false _ _ q)) in
      ap (λ t. cond t (Some a) (Some c)) ac ∙ sym (ap (λ t. cond t (Some b) (Some c)) q)

  two : (ab : Bool) (a b : Row) → cond ab (Some a) (Some b) ≡ Some (cond ab a b)
  two true a b = refl
  two false a b = refl

  -- the better of a row and of what is chosen of a row and later ones
  better_more : (b row : Row) (later : Option Row) → better rises b (better rises row later) ≡ better rises (cond (leb (rises b) (rises row)) b row) later
  better_more b row None = two (leb (rises b) (rises row)) b row
  better_more b row (Some c) = three b row c (leb (rises b) (rises row)) (leb (rises row) (rises c)) refl refl

  -- the better of the best row so far and of what is chosen of later ones
  abbrev pub merged : Option Row → Option Row → Option Row
  merged None later = later
  merged (Some b) later = better rises b later

  -- the best row so far and one more, where that has sites
  abbrev pub best_row : Option Row → Row → Bool → Option Row
  best_row best row false = best
  best_row None row true = Some row
  best_row (Some b) row true = Some (cond (leb (rises b) (rises row)) b row)

  merged_more : (best : Option Row) (row : Row) (t : Bool) (later : Option Row) → merged (best_row best row t) later ≡ merged best (cond t (better rises row later) later)
  merged_more best row false later = refl
  merged_more None row true later = refl
  merged_more (Some b) row true later = sym (better_more b row later)

  merged_none : (best : Option Row) → merged best None ≡ best
  merged_none None = refl
  merged_none (Some b) = refl

-- how far the choice has come when some rows are left: the best row so far, as a choice, and its sites
pub record SoFar (f : Price) (seats : List Seat) (cell : Cell) (rows left : List Row) (best : Option Choice) (kept : List ℕ) : Type 0 where
  pub row : Option Row
  pub is : best ≡ option_map (choice_of f seats cell) row
  pub rest : merged (rise f seats cell) row (chosen f seats cell left) ≡ chosen f seats cell rows
  pub sites : IfSome best (λ c. kept ≡ sites_with f seats cell c.row)

module _ (f : Price) (seats : List Seat) (cell : Cell) where
  abbrev rises : Row → ℕ
  rises = rise f seats cell

  abbrev choice : Row → Choice
  choice = choice_of f seats cell

  choice_with : (t : Bool) (b row : Row) → cond t (Some (choice b)) (Some (choice row)) ≡ Some (choice (cond t b row))
  choice_with true b row = refl
  choice_with false b row = refl

  better_is : (best : Option Row) (row : Row) (t : Bool) → better_choice (option_map choice best) (cond t (Some (choice row)) None) ≡ option_map choice (best_row rises best row t)
  better_is None row false = refl
  better_is (Some b) row false = refl
  better_is None row true = refl
  better_is (Some b) row true = choice_with (leb (rises b) (rises row)) b row

  -- before the first row
  pub so_first : (rows : List Row) (kept : List ℕ) → SoFar f seats cell rows rows None kept
  so_first rows kept = record { row = None; is = refl; rest = refl; sites = tt }

  -- one row more
  pub so_more : (rows : List Row) (row : Row) (left : List Row) (best result : Option Choice) (kept now : List ℕ) → SoFar f seats cell rows (row ∷ left) best kept
      → result ≡ better_choice best (choice_on f seats cell row) → IfSome result (λ c. now ≡ sites_with f seats cell c.row) → SoFar f seats cell rows left result now
  so_more rows row left best result kept now so is sites = record {
    row = best_row rises so.row row (has_sites seats cell row);
    is = is ∙ ap (λ b. better_choice b (choice_on f seats cell row)) so.is ∙ better_is so.row row (has_sites seats cell row);
    rest = merged_more rises so.row row (has_sites seats cell row) (chosen f seats cell left) ∙ so.rest;
    sites = sites;
  }

  -- behind the last row the best is the row that is chosen
  pub so_last : (rows : List Row) (best : Option Choice) (kept : List ℕ) → SoFar f seats cell rows [] best kept → best ≡ best_choice f (record { rows = rows; seats = seats }) cell
  so_last rows best kept so = so.is ∙ ap (option_map choice) (sym (merged_none rises so.row) ∙ so.rest)
