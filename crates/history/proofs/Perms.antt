-- What a list tells in whatever order: what holds of all, of any two, of a test, a sum; and so a setting, its cost, the law and the checks.
use Rattle.std.proofs.Common.{◌≡◌, ℕ, suc, ◌+◌, ◌-◌, ◌≤◌, Bool, true, false, cond, not, ◌||◌, ltb, leb, List, ◌∷◌, length, map, filter, None, Result, sym, refl, ap, ◌∙◌, subst, arith}
use Rattle.std.proofs.lemmas.Bool.{both_ways}
use Rattle.std.specs.List.{AllByRecursion, list_any}
use Rattle.std.specs.Option.{option_map}
use mathlib.Core.List.{Permᴰ}
use mathlib.Core.List.Permᴰ as perm
use mathlib.Core.Path.{fun_ext}
use Rattle.measure.specs.Costs.{Price}
use Rattle.row.specs.Records.{check, then, cell_fault, row_fault, widths}
use Rattle.row.specs.Settings.{EveryPair, Within, Clear, Rising}
use Rattle.row.specs.declared.Cell.{Cell}
use Rattle.row.specs.declared.Row.{Row}
use Rattle.floor.specs.Refusals.{stands_by, has_sites_by, cell_refusal_by, add_refusal, place_refusal_by}
use Rattle.floor.specs.Rows.{same_row, share}
use Rattle.floor.specs.Seats.{cell_cost}
use Rattle.floor.specs.declared.Placing.{Placing}
use Rattle.floor.specs.declared.Refusal.{Refusal}
use Rattle.floor.specs.declared.Refusal.TheVariants.{OutOfRange, NumberStands, CellsFull, NoRoom, NotStanding, RowsFull, RowShares}
use Rattle.floor.proofs.Orders.{same_sym}
use Rattle.history.specs.Histories.{Standing, cell_of, row_of, decide}
use Rattle.history.specs.Law.{Holds, FullExactly}
use Rattle.history.specs.Settings.{Where, site_in, placed, OnOneRow, Setting, cost}
use Rattle.history.specs.declared.call.Call.{Call}
use Rattle.history.specs.declared.call.Call.TheVariants.{AddRow, Place, Try, Withdraw}

-- what holds of all of a list
pub all_perm : {X : Type 0} (P : X → Type 0) {xs ys : List X} → Permᴰ xs ys → AllByRecursion P ys → AllByRecursion P xs
all_perm P Permᴰ.nil h = h
all_perm P (Permᴰ.cons e d) h = (subst P (sym e) h.0, all_perm P d h.1)
all_perm P (Permᴰ.swap e f) h = (subst P (sym e) h.1.0, (subst P (sym f) h.0, h.1.1))
all_perm P (Permᴰ.trans d e) h = all_perm P d (all_perm P e h)

-- two that change places
swapped : {X : Type 0} {a b x y : X} (l : List X) → a ≡ y → b ≡ x → ◌≡◌ {A = List X} (b ∷ a ∷ l) (x ∷ y ∷ l)
swapped l e f = λ i. f i ∷ e i ∷ l

-- what holds between any two of a list, both ways
pub pairs_perm : {X : Type 0} (R : X → X → Type 0) → ((x y : X) → R x y → R y x) → {xs ys : List X} → Permᴰ xs ys → EveryPair R ys → EveryPair R xs
pairs_perm R turn Permᴰ.nil h = h
pairs_perm R turn (Permᴰ.cons {b = b} {l₁ = xs} e d) h = (subst (λ x. AllByRecursion (R x) xs) (sym e) (all_perm (R b) d h.0), pairs_perm R turn d h.1)
pairs_perm R turn (Permᴰ.swap {a = a} {b = b} {l = l} e f) h =
    let turned = subst (EveryPair R) (sym (swapped l e f)) h in
    ((turn b a turned.0.0, turned.1.0), (turned.0.1, turned.1.1))
pairs_perm R turn (Permᴰ.trans d e) h = pairs_perm R turn d (pairs_perm R turn e h)

-- two tests that change places
or_swap : (x y z : Bool) → x || (y || z) ≡ y || (x || z)
or_swap true true z = refl
or_swap true false z = refl
or_swap false true z = refl
or_swap false false z = refl

-- whether one of a list passes a test
pub any_perm : {X : Type 0} (test : X → Bool) {xs ys : List X} → Permᴰ xs ys → list_any test xs ≡ list_any test ys
any_perm test Permᴰ.nil = refl
any_perm test (Permᴰ.cons e d) = λ i. test (e i) || any_perm test d i
any_perm test (Permᴰ.swap {a = a} {b = b} {l = l} e f) = or_swap (test a) (test b) (list_any test l) ∙ ap (list_any test) (swapped l e f)
any_perm test (Permᴰ.trans d e) = any_perm test d ∙ any_perm test e

-- how many there are
pub length_perm : {X : Type 0} {xs ys : List X} → Permᴰ xs ys → length xs ≡ length ys
length_perm Permᴰ.nil = refl
length_perm (Permᴰ.cons e d) = ap suc (length_perm d)
length_perm (Permᴰ.swap e f) = refl
length_perm (Permᴰ.trans d e) = length_perm d ∙ length_perm e

-- one more, where the test says so
kept_one : {X : Type 0} {a b : X} {xs ys : List X} (s t : Bool) → s ≡ t → a ≡ b → Permᴰ xs ys → Permᴰ (cond s (a ∷ xs) xs) (cond t (b ∷ ys) ys)
kept_one true true same e d = Permᴰ.cons e d
kept_one true false same e d = absurd (both_ways true same refl)
kept_one false true same e d = absurd (both_ways false refl same)
kept_one false false same e d = d

-- two more, where the tests say so
kept_two : {X : Type 0} (a b : X) (l : List X) (s t : Bool) → Permᴰ (cond s (a ∷ cond t (b ∷ l) l) (cond t (b ∷ l) l)) (cond t (b ∷ cond s (a ∷ l) l) (cond s (a ∷ l) l))
kept_two a b l true true = Permᴰ.swap refl refl
kept_two a b l true false = perm.refl (a ∷ l)
kept_two a b l false true = perm.refl (b ∷ l)
kept_two a b l false false = perm.refl l

-- those that pass a test
pub filter_perm : {X : Type 0} (test : X → Bool) {xs ys : List X} → Permᴰ xs ys → Permᴰ (filter test xs) (filter test ys)
filter_perm test Permᴰ.nil = Permᴰ.nil
filter_perm test (Permᴰ.cons {a = a} {b = b} e d) = kept_one (test a) (test b) (ap test e) e (filter_perm test d)
filter_perm test (Permᴰ.swap {a = a} {b = b} {l = l} e f) =
    subst (λ ys. Permᴰ (filter test (a ∷ b ∷ l)) (filter test ys)) (swapped l e f) (kept_two a b (filter test l) (test a) (test b))
filter_perm test (Permᴰ.trans d e) = Permᴰ.trans (filter_perm test d) (filter_perm test e)

-- what each of a list is mapped to
pub map_perm : {X Y : Type 0} (f : X → Y) {xs ys : List X} → Permᴰ xs ys → Permᴰ (map f xs) (map f ys)
map_perm f d = perm.map f d

-- the sites that cells cover together
pub widths_perm : {cs ds : List Cell} → Permᴰ cs ds → widths cs ≡ widths ds
widths_perm Permᴰ.nil = refl
widths_perm (Permᴰ.cons e d) = λ i. (e i).width + widths_perm d i
widths_perm (Permᴰ.swap e f) =
    let first = ap (λ c. c.width) e in
    let second = ap (λ c. c.width) f in
    omega arith
widths_perm (Permᴰ.trans d e) = widths_perm d ∙ widths_perm e

-- two that are on one row are so both ways
row_turn : (k l : Standing) → OnOneRow k l → OnOneRow l k
row_turn k l on = same_sym k.row l.row on

-- two that share no site, where they are on one row, do so both ways
clear_turn : (at : ℕ → ℕ) (k l : Standing) → (OnOneRow k l → Clear (placed at k) (placed at l)) → OnOneRow l k → Clear (placed at l) (placed at k)
clear_turn at k l clear on = λ s p q. clear (row_turn l k on) s q p

-- and so do two in wanted order
rising_turn : (at : ℕ → ℕ) (k l : Standing) → (OnOneRow k l → Rising (placed at k) (placed at l)) → OnOneRow l k → Rising (placed at l) (placed at k)
rising_turn at k l rising on = let both = rising (row_turn l k on) in (both.1, both.0)

-- a setting
pub setting_perm : {ks ls : List Standing} → Permᴰ ks ls → (at : ℕ → ℕ) → Setting ls at → Setting ks at
setting_perm d at s = record {
  legal = record {
    within = all_perm (λ k. Within k.row (placed at k)) d s.legal.within;
    clear = pairs_perm (λ k l. OnOneRow k l → Clear (placed at k) (placed at l)) (clear_turn at) d s.legal.clear;
  };
  in_order = pairs_perm (λ k l. OnOneRow k l → Rising (placed at k) (placed at l)) (rising_turn at) d s.in_order;
}

-- its cost
pub cost_perm : (f : Price) {ks ls : List Standing} → Permᴰ ks ls → (at : ℕ → ℕ) → cost f ks at ≡ cost f ls at
cost_perm f Permᴰ.nil at = refl
cost_perm f (Permᴰ.cons e d) at = λ i. cell_cost f (e i).cell (e i).row (at (e i).cell.number) + cost_perm f d at i
cost_perm f (Permᴰ.swap e g) at =
    let one : Standing → ℕ = λ k. cell_cost f k.cell k.row (at k.cell.number) in
    let first = ap one e in
    let second = ap one g in
    omega arith
cost_perm f (Permᴰ.trans d e) at = cost_perm f d at ∙ cost_perm f e at

-- what holds of the answers of where_is
pub holds_perm : (f : Price) {ks ls : List Standing} (w : Where) → Permᴰ ks ls → Holds f ls w → Holds f ks w
holds_perm f {ks} {ls} w d h =
    let same = cost_perm f d in
    let back : (other : ℕ → ℕ) → Setting ks other → Setting ls other = setting_perm (perm.symm d) in
    record {
      found = all_perm (λ k. w k.cell.number ≡ _) d h.found;
      absent = λ number none. h.absent number (sym (any_perm _ d) ∙ none);
      setting = setting_perm d (site_in w) h.setting;
      cheapest = λ other s. let least = h.cheapest other (back other s) in let this = same (site_in w) in let that = same other in omega arith;
      leftmost = λ other s e. all_perm (λ k. site_in w k.cell.number ≤ other k.cell.number) d (h.leftmost other (back other s) (sym (same other) ∙ e ∙ same (site_in w)));
    }

-- the checks of adding a row
add_perm : {rows all : List Row} → Permᴰ rows all → (row : Row) → add_refusal rows row ≡ add_refusal all row
add_perm d row = λ i. then (option_map OutOfRange (row_fault row)) (check (ltb (length_perm d i) 64) RowsFull (check (not (any_perm (share row) d i)) RowShares None))

module _ {ks ls : List Standing} (d : Permᴰ ks ls) where
  -- whether a number stands
  stands_perm : (number : ℕ) → stands_by cell_of row_of number ks ≡ stands_by cell_of row_of number ls
  stands_perm number = any_perm _ d

  -- whether a row has sites
  pub has_sites_perm : (cell : Cell) (row : Row) → has_sites_by cell_of row_of ks cell row ≡ has_sites_by cell_of row_of ls cell row
  has_sites_perm cell row =
      ap (λ w. leb (w + cell.width) (row.right - row.left)) (widths_perm (map_perm cell_of (filter_perm (λ k. same_row k.row row) d)))

  -- the checks of placing that do not look at the rows
  pub cell_perm : (cell : Cell) → cell_refusal_by cell_of row_of ks cell ≡ cell_refusal_by cell_of row_of ls cell
  cell_perm cell =
      λ i. then (option_map OutOfRange (cell_fault cell)) (check (not (stands_perm cell.number i)) NumberStands (check (ltb (length_perm d i) 1024) CellsFull None))

  -- the checks of placing
  place_perm : {rows all : List Row} → Permᴰ rows all → (cell : Cell) → place_refusal_by cell_of row_of rows ks cell ≡ place_refusal_by cell_of row_of all ls cell
  place_perm {rows} r cell =
      let sites = ap (λ test. list_any test rows) (fun_ext (has_sites_perm cell)) ∙ any_perm (has_sites_by cell_of row_of ls cell) r in
      λ i. then (cell_perm cell i) (check (sites i) NoRoom None)

-- what the checks decide
pub decide_perm : {rows all : List Row} {ks ls : List Standing} → Permᴰ rows all → Permᴰ ks ls → (call : Call) → decide rows ks call ≡ decide all ls call
decide_perm r d (AddRow row) = add_perm r row
decide_perm r d (Place cell) = place_perm d r cell
decide_perm r d (Try cell) = place_perm d r cell
decide_perm r d (Withdraw number) = λ i. check (stands_perm d number i) NotStanding None

-- no row has sites
pub none_perm : {rows all : List Row} {ks ls : List Standing} → Permᴰ rows all → Permᴰ ks ls → (cell : Cell)
    → AllByRecursion (λ row. has_sites_by cell_of row_of ls cell row ≡ false) all → AllByRecursion (λ row. has_sites_by cell_of row_of ks cell row ≡ false) rows
none_perm {rows} {all} {ks} {ls} r d cell h =
    all_perm (λ row. has_sites_by cell_of row_of ks cell row ≡ false) r (subst (λ test. AllByRecursion (λ row. test row ≡ false) all) (sym (fun_ext (has_sites_perm d cell))) h)

-- so a placing is refused for want of sites exactly where it was
pub full_perm : {rows all : List Row} {ks ls : List Standing} → Permᴰ rows all → Permᴰ ks ls → (cell : Cell) (answer : Result Placing Refusal) → FullExactly all ls cell answer → FullExactly rows ks cell answer
full_perm r d cell answer full = (
  λ e. let both = full.0 e in (cell_perm d cell ∙ both.0, none_perm r d cell both.1),
  λ both. full.1 (sym (cell_perm d cell) ∙ both.0, none_perm (perm.symm r) (perm.symm d) cell both.1),
)
