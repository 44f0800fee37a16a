-- The tables of a well-formed floor in the words of standing cells: what where_is answers, that its answers are a setting, and what the cells of one row are.
use Rattle.std.proofs.Common.{◌≡◌, ℕ, ◌+◌, ◌≤◌, true, false, not, ◌&&◌, eqb, List, [], ◌∷◌, map, length, Some, None, Ok, Err, sym, refl, ap, ◌∙◌, subst, ⊎_elim, arith}
use Rattle.std.proofs.ByRecursion.{All-weaker, All-map, all_kept_by, kept_by_passes}
use Rattle.std.proofs.lemmas.Bool.{cond-true, cond-false, eq-eqb, and_parts, or_cases}
use Rattle.std.proofs.lemmas.List.{length-map}
use Rattle.std.specs.List.{AllByRecursion}
use Rattle.std.specs.Option.{option_map, ok_or}
use Rattle.row.specs.Records.{before, row_ahead}
use Rattle.row.specs.Settings as row_settings
use Rattle.row.specs.Settings.{EveryPair, Within, Rising}
use Rattle.row.specs.Stack.{Passes}
use Rattle.row.specs.declared.Cell.{Cell}
use Rattle.row.specs.declared.Row.{Row}
use Rattle.row.proofs.Accepted.{Accepted, ready_known}
use Rattle.row.proofs.Subject.{wide, clear_after, rising_after}
use Rattle.floor.specs.Calls.{seat_of, spot, where_is}
use Rattle.floor.specs.Formed.{formed}
use Rattle.floor.specs.Refusals.{stands_by}
use Rattle.floor.specs.Seats.{on_row, seat_ahead, seats_on, cells_on}
use Rattle.floor.specs.Tables.{Tables}
use Rattle.floor.specs.declared.Refusal.TheVariants.{NotStanding}
use Rattle.floor.specs.declared.Seat.{Seat}
use Rattle.floor.proofs.Joining.{row_ready}
use Rattle.floor.proofs.Kept.{all_with, pairs_with, pairs_both, pairs_kept, kept_passing}
use Rattle.floor.proofs.Listed.{Standing, Differ, Listed, Inside, Sited as SitedOn, Clear, formed_listed, formed_sited, each_own, pairs_own}
use Rattle.floor.proofs.Orders.{ahead_not_same, same_trans, same_sym}
use Rattle.floor.proofs.Resited.{own_row}
use Rattle.floor.proofs.Rowed.{ordered_rows}
use Rattle.floor.proofs.Tests.{none_any, ordered_pairs}
use Rattle.history.specs.Histories.{cell_of, row_of}
use Rattle.history.specs.Settings.{site_in, site_answered, placed, OnOneRow, Setting}
use Rattle.history.proofs.Held.{standing_of}

-- what holds of all of a mapped list holds of all of the list
pub all_unmapped : {X Y : Type 0} (P : Y → Type 0) (f : X → Y) (xs : List X) → AllByRecursion P (map f xs) → AllByRecursion (λ x. P (f x)) xs
all_unmapped P f [] h = tt
all_unmapped P f (x ∷ xs) h = (h.0, all_unmapped P f xs h.1)

-- what holds of any two of a list, once mapped, holds of any two of the mapped list ..
pub pairs_mapped : {X Y : Type 0} (R : Y → Y → Type 0) (f : X → Y) (xs : List X) → EveryPair (λ x y. R (f x) (f y)) xs → EveryPair R (map f xs)
pairs_mapped R f [] h = tt
pairs_mapped R f (x ∷ xs) h = (All-map (R (f x)) f xs h.0, pairs_mapped R f xs h.1)

-- .. and back
pub pairs_unmapped : {X Y : Type 0} (R : Y → Y → Type 0) (f : X → Y) (xs : List X) → EveryPair R (map f xs) → EveryPair (λ x y. R (f x) (f y)) xs
pairs_unmapped R f [] h = tt
pairs_unmapped R f (x ∷ xs) h = (all_unmapped (R (f x)) f xs h.0, pairs_unmapped R f xs h.1)

-- cells and sites that come of one list, placed
pub placed_mapped : {X : Type 0} (cell : X → Cell) (site : X → ℕ) (xs : List X) → row_settings.placed (map cell xs) (map site xs) ≡ map (λ x. record { cell = cell x; site = site x }) xs
placed_mapped cell site [] = refl
placed_mapped cell site (x ∷ xs) = ap (λ ps. record { cell = cell x; site = site x } ∷ ps) (placed_mapped cell site xs)

-- where no two numbers are equal, each number finds its own seat
found_each : (seats : List Seat) → EveryPair Differ seats → AllByRecursion (λ s. seat_of s.cell.number seats ≡ Some s) seats
found_each [] differ = tt
found_each (s ∷ seats) differ = (
  cond-true (eqb s.cell.number s.cell.number) (Some s) (seat_of s.cell.number seats) (eq-eqb s.cell.number s.cell.number refl),
  all_with (Differ s) (λ t. seat_of t.cell.number seats ≡ Some t) (λ t. seat_of t.cell.number (s ∷ seats) ≡ Some t)
      (λ t off found. cond-false (eqb s.cell.number t.cell.number) (Some s) (seat_of t.cell.number seats) off ∙ found)
      seats differ.0 (found_each seats differ.1),
)

-- a number that no standing cell has finds no seat
found_none : (number : ℕ) (seats : List Seat) → AllByRecursion (λ k. eqb k.cell.number number ≡ false) (map standing_of seats) → seat_of number seats ≡ None
found_none number [] none = refl
found_none number (s ∷ seats) none = cond-false (eqb s.cell.number number) (Some s) (seat_of number seats) none.0 ∙ found_none number seats none.1

-- the number of each seat finds it
pub seats_found : (t : Tables) → formed t.rows t.seats ≡ true → AllByRecursion (λ s. seat_of s.cell.number t.seats ≡ Some s) t.seats
seats_found t well = found_each t.seats (formed_listed t.rows t.seats well).differ

-- so where_is answers each number with the place of its seat
answers_are : (t : Tables) → formed t.rows t.seats ≡ true → AllByRecursion (λ s. where_is t s.cell.number ≡ Ok (spot s)) t.seats
answers_are t well =
    All-weaker (λ s. seat_of s.cell.number t.seats ≡ Some s) (λ s. where_is t s.cell.number ≡ Ok (spot s)) (λ s found. ap (λ o. ok_or (option_map spot o) NotStanding) found) t.seats
    (seats_found t well)

-- the site that is answered for a number is that of its seat
pub sites_are : (t : Tables) → formed t.rows t.seats ≡ true → AllByRecursion (λ s. site_in (where_is t) s.cell.number ≡ s.site) t.seats
sites_are t well =
    All-weaker (λ s. where_is t s.cell.number ≡ Ok (spot s)) (λ s. site_in (where_is t) s.cell.number ≡ s.site) (λ s answer. ap site_answered answer) t.seats
    (answers_are t well)

-- where_is answers each standing cell's number with its row's line and the site that it answers
pub tables_found : (t : Tables) → formed t.rows t.seats ≡ true → AllByRecursion (λ k. where_is t k.cell.number ≡ Ok (record { line = k.row.line; site = site_in (where_is t) k.cell.number })) (map standing_of t.seats)
tables_found t well =
    All-map (λ k. where_is t k.cell.number ≡ Ok (record { line = k.row.line; site = site_in (where_is t) k.cell.number })) standing_of t.seats
    (All-weaker (λ s. where_is t s.cell.number ≡ Ok (spot s)) (λ s. where_is t s.cell.number ≡ Ok (record { line = s.row.line; site = site_in (where_is t) s.cell.number }))
    (λ s answer. answer ∙ ap (λ x. Ok (record { line = s.row.line; site = x })) (sym (ap site_answered answer)))
    t.seats (answers_are t well))

-- and every other number with the answer that it does not stand
pub tables_absent : (t : Tables) (number : ℕ) → stands_by cell_of row_of number (map standing_of t.seats) ≡ false → where_is t number ≡ Err NotStanding
tables_absent t number absent =
    ap (λ o. ok_or (option_map spot o) NotStanding) (found_none number t.seats (none_any (λ k. eqb k.cell.number number) (map standing_of t.seats) (ap not absent)))

-- of two seats on one row, the one that is ahead is wanted before the other
wanted_before : (s t : Seat) → seat_ahead s t ≡ true → on_row t.row s ≡ true → before s.cell t.cell ≡ true
wanted_before s t ahead on =
    ⊎_elim (λ other. absurd (ahead_not_same s.row t.row other on)) (λ own. (and_parts (on_row t.row s) (before s.cell t.cell) own).1)
    (or_cases (row_ahead s.row t.row) (on_row t.row s && before s.cell t.cell) ahead)

-- what is known of a seat whose number has its site
record Sited (at : ℕ → ℕ) (s : Seat) : Type 0 where
  site : at s.cell.number ≡ s.site
  wide : 1 ≤ s.cell.width

-- what is known of two seats, the first ahead of the second
record Apart (s t : Seat) : Type 0 where
  ahead : seat_ahead s t ≡ true
  clear : Clear s t

-- two such seats on one row: the second starts at or after the end of the first
starts_after : (at : ℕ → ℕ) (s t : Seat) → Sited at s → Sited at t → Apart s t → on_row t.row s ≡ true → at s.cell.number + s.cell.width ≤ at t.cell.number
starts_after at s t first second apart on = let after = apart.clear on in omega (arith, first.site, second.site)

-- a site for each number that is the site of its seat is a setting
sited_setting : (at : ℕ → ℕ) (seats : List Seat) → AllByRecursion (Sited at) seats → AllByRecursion Inside seats → EveryPair Apart seats → Setting (map standing_of seats) at
sited_setting at seats sited inside apart =
    let both = pairs_both (Sited at) seats sited in
    let p : Seat → row_settings.Placed = λ s. placed at (standing_of s) in
    record {
      legal = record {
        within =
            All-map (λ k. Within k.row (placed at k)) standing_of seats
            (all_with (Sited at) Inside (λ s. Within s.row (p s)) (λ s own h. (omega (arith, own.site, h.0), omega (arith, own.site, h.1))) seats sited inside);
        clear =
            pairs_mapped (λ k l. OnOneRow k l → row_settings.Clear (placed at k) (placed at l)) standing_of seats
            (pairs_with (λ s t. Sited at s × Sited at t) Apart (λ s t. on_row t.row s ≡ true → row_settings.Clear (p s) (p t))
            (λ s t own two on. clear_after (p s) (p t) (starts_after at s t own.0 own.1 two on)) seats both apart);
      };
      in_order =
          pairs_mapped (λ k l. OnOneRow k l → Rising (placed at k) (placed at l)) standing_of seats
          (pairs_with (λ s t. Sited at s × Sited at t) Apart (λ s t. on_row t.row s ≡ true → Rising (p s) (p t))
          (λ s t own two on. rising_after (p s) (p t) own.0.wide (starts_after at s t own.0 own.1 two on) (wanted_before s t two.ahead on)) seats both apart);
    }

-- of any two seats the first is ahead of the second and, on one row, clear of it
seats_apart : (t : Tables) → formed t.rows t.seats ≡ true → EveryPair Apart t.seats
seats_apart t well =
    let listed = formed_listed t.rows t.seats well in
    let sited : (r : Row) → SitedOn (seats_on r t.seats) = formed_sited t.rows t.seats well in
    pairs_with (λ s t. seat_ahead s t ≡ true) Clear Apart (λ s t ahead clear. record { ahead = ahead; clear = clear }) t.seats (ordered_pairs seat_ahead t.seats listed.order) (pairs_own t.seats (λ r. (sited r).clear))

-- what where_is answers is a setting
pub tables_setting : (t : Tables) → formed t.rows t.seats ≡ true → Setting (map standing_of t.seats) (site_in (where_is t))
tables_setting t well =
    let at = site_in (where_is t) in
    let listed = formed_listed t.rows t.seats well in
    let sited : (r : Row) → SitedOn (seats_on r t.seats) = formed_sited t.rows t.seats well in
    sited_setting at t.seats
    (all_with (λ s. at s.cell.number ≡ s.site) (λ s. Passes s.cell) (Sited at) (λ s site passes. record { site = site; wide = wide s.cell passes }) t.seats (sites_are t well) listed.pass)
    (each_own Inside t.seats (λ r. kept_passing (on_row r) Inside t.seats (sited r).inside))
    (seats_apart t well)

-- the rows are in row order
pub rows_in_order : (t : Tables) → formed t.rows t.seats ≡ true → EveryPair (λ a b. row_ahead a b ≡ true) t.rows
rows_in_order t well = ordered_pairs row_ahead t.rows (ordered_rows t.rows t.seats well)

-- what holds of any two standing cells of one row, placed, holds of any two placed cells of a row
row_pairs : (R : row_settings.Placed → row_settings.Placed → Type 0) (at : ℕ → ℕ) (row : Row) (seats : List Seat) → EveryPair (λ k l. OnOneRow k l → R (placed at k) (placed at l)) (map standing_of seats) → EveryPair R (map (λ s. placed at (standing_of s)) (seats_on row seats))
row_pairs R at row seats h =
    let p : Seat → row_settings.Placed = λ s. placed at (standing_of s) in
    let One : Seat → Seat → Type 0 = λ s t. on_row t.row s ≡ true → R (p s) (p t) in
    pairs_mapped R p (seats_on row seats)
    (pairs_with One (λ s t. (on_row row s ≡ true) × (on_row row t ≡ true)) (λ s t. R (p s) (p t)) (λ s t one on. one (same_trans s.row row t.row on.0 (same_sym t.row row on.1))) (seats_on row seats)
    (pairs_kept (on_row row) One seats (pairs_unmapped (λ k l. OnOneRow k l → R (placed at k) (placed at l)) standing_of seats h))
    (pairs_both (λ s. on_row row s ≡ true) (seats_on row seats) (kept_by_passes (on_row row) seats)))

-- a setting of the floor is a setting of each standing row, whatever sites its seats have
pub listed_setting : (rows : List Row) (seats : List Seat) → Listed rows seats → (other : ℕ → ℕ) → Setting (map standing_of seats) other → (row : Row) → Standing rows row →
    row_settings.Setting row (cells_on row seats) (map (λ s. other s.cell.number) (seats_on row seats))
listed_setting rows seats listed other setting row standing =
    let ss : List Seat = seats_on row seats in
    let p : Seat → row_settings.Placed = λ s. placed other (standing_of s) in
    let same : row_settings.placed (cells_on row seats) (map (λ s. other s.cell.number) ss) ≡ map p ss = placed_mapped (λ s. s.cell) (λ s. other s.cell.number) ss in
    let each = all_unmapped (λ k. Within k.row (placed other k)) standing_of seats setting.legal.within in
    let within = all_with (λ s. s.row ≡ row) (λ s. Within s.row (p s)) (λ s. Within row (p s)) (λ s own h. subst (λ r. Within r (p s)) own h) ss
    (own_row rows row seats listed standing) (all_kept_by (on_row row) (λ s. Within s.row (p s)) seats each) in
    record {
      each = length-map ss (λ s. other s.cell.number) ∙ sym (length-map ss (λ s. s.cell));
      legal = (
        subst (AllByRecursion (Within row)) (sym same) (All-map (Within row) p ss within),
        subst (EveryPair row_settings.Clear) (sym same) (row_pairs row_settings.Clear other row seats setting.legal.clear),
      );
      in_order = subst (EveryPair Rising) (sym same) (row_pairs Rising other row seats setting.in_order);
    }

-- and so it is where they have sites as they should
pub row_setting : (t : Tables) → formed t.rows t.seats ≡ true → (other : ℕ → ℕ) → Setting (map standing_of t.seats) other → (row : Row) → Standing t.rows row →
    row_settings.Setting row (cells_on row t.seats) (map (λ s. other s.cell.number) (seats_on row t.seats))
row_setting t well = listed_setting t.rows t.seats (formed_listed t.rows t.seats well)

-- the cells of a standing row are as `set` accepts them
pub row_accepted : (t : Tables) → formed t.rows t.seats ≡ true → length t.seats ≤ 1024 → (row : Row) → Standing t.rows row → Accepted row (cells_on row t.seats) (length (cells_on row t.seats))
row_accepted t well few row standing = ready_known row (cells_on row t.seats) (row_ready t.rows t.seats row well standing few)
