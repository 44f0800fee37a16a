-- What `formed` says, in two parts: of rows and seats whatever the sites, and of the sites, row by row.
use Rattle.std.proofs.Common.{◌≡◌, ℕ, zero, suc, ◌+◌, ◌<◌, ◌≤◌, Bool, true, false, not, ◌&&◌, ◌||◌, eqb, leb, ltb, List, [], ◌∷◌, length, get_or, is_some, None, sym, refl, ◌∙◌, subst, ⊎_elim, arith}
use Rattle.std.proofs.ByRecursion.{All-weaker, all_kept_by, kept_by_passes}
use Rattle.std.proofs.lemmas.Bool.{and_parts, and_from, or_cases, or_left, or_right, leb-true, le-leb, lt-ltb, eqb-true, eq-eqb, not-true, not_from_false, both_ways, cases_Bool}
use Rattle.std.specs.List.{AllByRecursion, list_all, list_any}
use Rattle.row.specs.Records.{cell_fault, row_fault, row_ahead}
use Rattle.row.specs.Stack.{Passes}
use Rattle.row.specs.declared.Row.{Row}
use Rattle.row.proofs.Ranges.{RangedRow, ranged_row, ranged}
use Rattle.table.specs.Order.{Ordered}
use Rattle.table.proofs.Inserted.{Pairs}
use Rattle.floor.specs.Formed.{every_pair, is_row_of, rows_formed, seat_formed, seats_apart, formed}
use Rattle.floor.specs.Rows.{same_row, share}
use Rattle.floor.specs.Seats.{on_row, seat_ahead, stands_ahead, seats_on}
use Rattle.floor.specs.declared.Seat.{Seat}
use Rattle.floor.proofs.Kept.{all_with, pairs_with, pairs_weaker, pairs_both, pairs_kept, pairs_first, pairs_others, kept_passing, kept_alike}
use Rattle.floor.proofs.Orders.{same_refl, same_trans, same_sym}
use Rattle.floor.proofs.Tests.{every_all, all_every, pairs_all, all_pairs, pairs_ordered, ordered_pairs, none_found, nothing_some}

-- A row that stands: one of the rows has its fields.
abbrev pub is_row : Row → Row → Bool
is_row row r = eqb r.line row.line && (eqb r.left row.left && eqb r.right row.right)

abbrev pub Standing : List Row → Row → Type 0
Standing rows row = list_any (is_row row) rows ≡ true

-- rows with the same fields are one row
pub row_is : (a b : Row) → is_row a b ≡ true → b ≡ a
row_is a b e =
    let line = and_parts (eqb b.line a.line) (eqb b.left a.left && eqb b.right a.right) e in
    let sides = and_parts (eqb b.left a.left) (eqb b.right a.right) line.1 in
    let x = eqb-true b.line a.line line.0 in
    let y = eqb-true b.left a.left sides.0 in
    let z = eqb-true b.right a.right sides.1 in
    let fields : ◌≡◌ {A = Row} (record { line = b.line; left = b.left; right = b.right }) (record { line = a.line; left = a.left; right = a.right }) = cc in
    fields

-- a row has its own fields
pub is_itself : (a : Row) → is_row a a ≡ true
is_itself a = and_from _ _ (eq-eqb a.line a.line refl) (and_from _ _ (eq-eqb a.left a.left refl) (eq-eqb a.right a.right refl))

-- the row at a place stands
pub standing_at : (rows : List Row) (i : ℕ) (d : Row) → i < length rows → Standing rows (get_or rows i d)
standing_at [] i d within = absurd (omega arith)
standing_at (r ∷ rows) zero d within = or_left (is_row r r) (list_any (is_row r) rows) (is_itself r)
standing_at (r ∷ rows) (suc i) d within = or_right (is_row (get_or rows i d) r) (list_any (is_row (get_or rows i d)) rows) (standing_at rows i d (omega arith))

-- what holds of all rows holds of one that stands
pub standing_all : (P : Row → Type 0) (rows : List Row) (row : Row) → AllByRecursion P rows → Standing rows row → P row
standing_all P [] row all e = absurd (both_ways false refl e)
standing_all P (r ∷ rows) row all e =
    ⊎_elim (λ here. subst P (row_is row r here) all.0) (λ there. standing_all P rows row all.1 there) (or_cases (is_row row r) (list_any (is_row row) rows) e)

-- rows of one line and one left share a site
pub same_share : (a b : Row) → RangedRow a → RangedRow b → same_row a b ≡ true → share a b ≡ true
same_share a b ra rb e = let x = ra.some in let y = rb.some in grind arith

-- sharing goes both ways
pub share_turn : (a b : Row) → share a b ≡ share b a
share_turn a b = grind arith

-- standing rows that share a site are one row
pub apart_one : (rows : List Row) (a b : Row) → Pairs (λ c d. not (share c d) ≡ true) rows → share a b ≡ true → Standing rows a → Standing rows b → a ≡ b
apart_one [] a b apart shared ea eb = absurd (both_ways false refl ea)
apart_one (r ∷ rows) a b apart shared ea eb =
    let Off : Row → Type 0 = λ y. not (share r y) ≡ true in
    let in_a = or_cases (is_row a r) (list_any (is_row a) rows) ea in
    let in_b = or_cases (is_row b r) (list_any (is_row b) rows) eb in
    ⊎_elim
    (λ here_a.
    ⊎_elim
    (λ here_b. sym (row_is a r here_a) ∙ row_is b r here_b)
    (λ there_b. absurd (both_ways (share a b) (subst (λ c. share c b ≡ false) (row_is a r here_a) (not-true (share r b) (standing_all Off rows b apart.0 there_b))) shared))
    in_b)
    (λ there_a.
    ⊎_elim
    (λ here_b. absurd (both_ways (share b a) (subst (λ c. share c a ≡ false) (row_is b r here_b) (not-true (share r a) (standing_all Off rows a apart.0 there_a))) (sym (share_turn a b) ∙ shared)))
    (λ there_b. apart_one rows a b apart.1 shared there_a there_b)
    in_b)
    in_a

module _ (rows : List Row) (well : rows_formed rows ≡ true) where
  pub row_parts : (list_all (λ r. not (is_some (row_fault r))) rows ≡ true) × ((every_pair row_ahead rows && every_pair (λ a b. not (share a b)) rows) ≡ true)
  row_parts = and_parts (list_all (λ r. not (is_some (row_fault r))) rows) (every_pair row_ahead rows && every_pair (λ a b. not (share a b)) rows) well

  -- a standing row passes its check
  pub standing_passes : (row : Row) → Standing rows row → row_fault row ≡ None
  standing_passes row stands =
      none_found (row_fault row) (standing_all (λ r. not (is_some (row_fault r)) ≡ true) rows row (every_all (λ r. not (is_some (row_fault r))) rows row_parts.0) stands)

  -- standing rows of one line and one left are one row
  pub standing_one : (a b : Row) → Standing rows a → Standing rows b → same_row a b ≡ true → a ≡ b
  standing_one a b ea eb same =
      let apart = and_parts (every_pair row_ahead rows) (every_pair (λ a b. not (share a b)) rows) row_parts.1 in
      apart_one rows a b (pairs_all (λ a b. not (share a b)) rows apart.1)
      (same_share a b (ranged_row a (standing_passes a ea)) (ranged_row b (standing_passes b eb)) same) ea eb

-- seats with two numbers
abbrev pub Differ : Seat → Seat → Type 0
Differ s t = eqb s.cell.number t.cell.number ≡ false

-- what `formed` says, whatever the sites
pub record Listed (rows : List Row) (seats : List Seat) : Type 0 where
  pub well : rows_formed rows ≡ true
  pub pass : AllByRecursion (λ s. Passes s.cell) seats
  pub stand : AllByRecursion (λ s. Standing rows s.row) seats
  pub order : Ordered seat_ahead seats
  pub differ : Pairs Differ seats

-- a seat lies within its row
abbrev pub Inside : Seat → Type 0
Inside s = (s.row.left ≤ s.site) × (s.site + s.cell.width ≤ s.row.right)

-- a seat starts at or after the end of one before it
abbrev pub After : Seat → Seat → Type 0
After s t = s.site + s.cell.width ≤ t.site

-- what `formed` says of the sites of the seats of one row
pub record Sited (seats : List Seat) : Type 0 where
  pub inside : AllByRecursion Inside seats
  pub clear : Pairs After seats

-- the same of any two seats of a floor
abbrev pub Clear : Seat → Seat → Type 0
Clear s t = on_row t.row s ≡ true → After s t

-- the tests of one seat
seat_one : (rows : List Row) (s : Seat) → seat_formed rows s ≡ true → Passes s.cell × Standing rows s.row × Inside s
seat_one rows s e =
    let own = and_parts (not (is_some (cell_fault s.cell))) (list_any (is_row_of s) rows && (leb s.row.left s.site && leb (s.site + s.cell.width) s.row.right)) e in
    let stand = and_parts (list_any (is_row_of s) rows) (leb s.row.left s.site && leb (s.site + s.cell.width) s.row.right) own.1 in
    let sides = and_parts (leb s.row.left s.site) (leb (s.site + s.cell.width) s.row.right) stand.1 in
    (none_found (cell_fault s.cell) own.0, stand.0, (leb-true s.row.left s.site sides.0, leb-true (s.site + s.cell.width) s.row.right sides.1))

one_seat : (rows : List Row) (s : Seat) → Passes s.cell → Standing rows s.row → Inside s → seat_formed rows s ≡ true
one_seat rows s pass stand inside =
    and_from (not (is_some (cell_fault s.cell))) (list_any (is_row_of s) rows && (leb s.row.left s.site && leb (s.site + s.cell.width) s.row.right)) (nothing_some (cell_fault s.cell) pass)
    (and_from (list_any (is_row_of s) rows) (leb s.row.left s.site && leb (s.site + s.cell.width) s.row.right) stand
    (and_from (leb s.row.left s.site) (leb (s.site + s.cell.width) s.row.right) (le-leb s.row.left s.site inside.0) (le-leb (s.site + s.cell.width) s.row.right inside.1)))

-- the tests of two seats
seats_two : (s t : Seat) → seats_apart s t ≡ true → (seat_ahead s t ≡ true) × Differ s t × Clear s t
seats_two s t e =
    let first = and_parts (seat_ahead s t) (not (eqb s.cell.number t.cell.number) && (not (on_row t.row s) || leb (s.site + s.cell.width) t.site)) e in
    let others = and_parts (not (eqb s.cell.number t.cell.number)) (not (on_row t.row s) || leb (s.site + s.cell.width) t.site) first.1 in (
      first.0,
      not-true (eqb s.cell.number t.cell.number) others.0,
      λ yes.
          ⊎_elim (λ off. absurd (both_ways (on_row t.row s) (not-true (on_row t.row s) off) yes)) (λ after. leb-true (s.site + s.cell.width) t.site after)
          (or_cases (not (on_row t.row s)) (leb (s.site + s.cell.width) t.site) others.1),
    )

two_seats : (s t : Seat) → seat_ahead s t ≡ true → Differ s t → Clear s t → seats_apart s t ≡ true
two_seats s t ahead differ clear =
    and_from (seat_ahead s t) (not (eqb s.cell.number t.cell.number) && (not (on_row t.row s) || leb (s.site + s.cell.width) t.site)) ahead
    (and_from (not (eqb s.cell.number t.cell.number)) (not (on_row t.row s) || leb (s.site + s.cell.width) t.site) (not_from_false (eqb s.cell.number t.cell.number) differ)
    (⊎_elim
    (λ yes. or_right (not (on_row t.row s)) (leb (s.site + s.cell.width) t.site) (le-leb (s.site + s.cell.width) t.site (clear yes)))
    (λ no. or_left (not (on_row t.row s)) (leb (s.site + s.cell.width) t.site) (not_from_false (on_row t.row s) no))
    (cases_Bool (on_row t.row s))))

-- a seat ahead of another stands ahead of it
stand_two : (s t : Seat) → Passes s.cell → seats_apart s t ≡ true → stands_ahead s t ≡ true
stand_two s t pass e =
    let two = seats_two s t e in
    let wide = (ranged s.cell pass).some_width in
    ⊎_elim
    (λ first. or_left (row_ahead s.row t.row) (on_row t.row s && ltb s.site t.site) first)
    (λ own.
    let on = (and_parts (on_row t.row s) _ own).0 in
    let clear = two.2 on in
    or_right (row_ahead s.row t.row) (on_row t.row s && ltb s.site t.site) (and_from (on_row t.row s) (ltb s.site t.site) on (lt-ltb s.site t.site (omega arith))))
    (or_cases (row_ahead s.row t.row) _ two.0)

module _ (rows : List Row) (seats : List Seat) (e : formed rows seats ≡ true) where
  parts : (rows_formed rows ≡ true) × ((list_all (seat_formed rows) seats && every_pair seats_apart seats) ≡ true)
  parts = and_parts (rows_formed rows) (list_all (seat_formed rows) seats && every_pair seats_apart seats) e

  seat_parts : (list_all (seat_formed rows) seats ≡ true) × (every_pair seats_apart seats ≡ true)
  seat_parts = and_parts (list_all (seat_formed rows) seats) (every_pair seats_apart seats) parts.1

  ones : AllByRecursion (λ s. seat_formed rows s ≡ true) seats
  ones = every_all (seat_formed rows) seats seat_parts.0

  twos : Pairs (λ s t. seats_apart s t ≡ true) seats
  twos = pairs_all seats_apart seats seat_parts.1

  -- the first part
  pub formed_listed : Listed rows seats
  formed_listed = record {
    well = parts.0;
    pass = All-weaker (λ s. seat_formed rows s ≡ true) (λ s. Passes s.cell) (λ s own. (seat_one rows s own).0) seats ones;
    stand = All-weaker (λ s. seat_formed rows s ≡ true) (λ s. Standing rows s.row) (λ s own. (seat_one rows s own).1) seats ones;
    order = pairs_ordered seat_ahead seats (pairs_weaker (λ s t. seats_apart s t ≡ true) (λ s t. seat_ahead s t ≡ true) (λ s t two. (seats_two s t two).0) seats twos);
    differ = pairs_weaker (λ s t. seats_apart s t ≡ true) Differ (λ s t two. (seats_two s t two).1) seats twos;
  }

  -- the second part
  pub formed_sited : (r : Row) → Sited (seats_on r seats)
  formed_sited r = record {
    inside = all_kept_by (on_row r) Inside seats (All-weaker (λ s. seat_formed rows s ≡ true) Inside (λ s own. (seat_one rows s own).2) seats ones);
    clear =
        pairs_with (λ s t. seats_apart s t ≡ true) (λ s t. (on_row r s ≡ true) × (on_row r t ≡ true)) After
        (λ s t two on. (seats_two s t two).2 (same_trans s.row r t.row on.0 (same_sym t.row r on.1)))
        (seats_on r seats) (pairs_kept (on_row r) (λ s t. seats_apart s t ≡ true) seats twos)
        (pairs_both (λ s. on_row r s ≡ true) (seats_on r seats) (kept_by_passes (on_row r) seats));
  }

  -- so the seats stand in row order, and on one row by their sites
  pub formed_standing : Ordered stands_ahead seats
  formed_standing =
      pairs_ordered stands_ahead seats
      (pairs_with (λ s t. seats_apart s t ≡ true) (λ s t. Passes s.cell × Passes t.cell) (λ s t. stands_ahead s t ≡ true) (λ s t two pass. stand_two s t pass.0 two)
      seats twos (pairs_both (λ s. Passes s.cell) seats formed_listed.pass))

-- what holds of the seats of each row holds of each seat ..
pub each_own : (P : Seat → Type 0) (seats : List Seat) → ((r : Row) → AllByRecursion (λ s. on_row r s ≡ true → P s) seats) → AllByRecursion P seats
each_own P [] h = tt
each_own P (s ∷ seats) h = ((h s.row).0 (same_refl s.row), each_own P seats (λ r. (h r).1))

-- .. and so of any two
pub pairs_own : (seats : List Seat) → ((r : Row) → Pairs After (seats_on r seats)) → Pairs Clear seats
pairs_own [] h = tt
pairs_own (s ∷ seats) h = (
  All-weaker (λ t. on_row s.row t ≡ true → After s t) (Clear s) (λ t after on. after (same_sym s.row t.row on)) seats
      (pairs_first (on_row s.row) After s seats (same_refl s.row) (h s.row)),
  pairs_own seats (λ r. pairs_others (on_row r) After s seats (h r)),
)

-- the two parts together
pub listed_formed : (rows : List Row) (seats : List Seat) → Listed rows seats → ((r : Row) → Sited (seats_on r seats)) → formed rows seats ≡ true
listed_formed rows seats listed sited =
    let inside = each_own Inside seats (λ r. kept_passing (on_row r) Inside seats (sited r).inside) in
    let clear = pairs_own seats (λ r. (sited r).clear) in
    let ones = all_with (λ s. Passes s.cell) (λ s. Standing rows s.row × Inside s) (λ s. seat_formed rows s ≡ true) (λ s a b. one_seat rows s a b.0 b.1) seats listed.pass
    (all_with (λ s. Standing rows s.row) Inside (λ s. Standing rows s.row × Inside s) (λ s a b. (a, b)) seats listed.stand inside) in
    let twos = pairs_with (λ s t. seat_ahead s t ≡ true) (λ s t. Differ s t × Clear s t) (λ s t. seats_apart s t ≡ true) (λ s t a b. two_seats s t a b.0 b.1) seats (ordered_pairs seat_ahead seats listed.order)
    (pairs_with Differ Clear (λ s t. Differ s t × Clear s t) (λ s t a b. (a, b)) seats listed.differ clear) in
    and_from (rows_formed rows) (list_all (seat_formed rows) seats && every_pair seats_apart seats) listed.well
    (and_from (list_all (seat_formed rows) seats) (every_pair seats_apart seats) (all_every (seat_formed rows) seats ones) (all_pairs seats_apart seats twos))

-- rows of one line and one left have the same seats
pub seats_on_same : (r row : Row) (seats : List Seat) → same_row r row ≡ true → seats_on r seats ≡ seats_on row seats
seats_on_same r row seats same = kept_alike (on_row r) (on_row row) seats (λ s. alike s.row r row same)
  where
    alike : (a b c : Row) → same_row b c ≡ true → same_row a b ≡ same_row a c
    alike a b c e = grind arith
