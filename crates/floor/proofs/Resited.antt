-- What rewriting the sites of a row keeps.
use Rattle.std.proofs.Common.{◌≡◌, ℕ, ◌+◌, ◌≤◌, true, false, cond, List, [], ◌∷◌, map, length, sym, refl, ap, ◌∙◌, subst, ⊎_elim, arith}
use Rattle.std.proofs.ByRecursion.{All-weaker}
use Rattle.std.proofs.lemmas.List.{length-map, nil_from_length}
use Rattle.std.proofs.lemmas.Bool.{cond_both, cases_Bool}
use Rattle.std.specs.List.{AllByRecursion}
use Rattle.row.specs.Settings.{Placed, placed, EveryPair, Within}
use Rattle.row.specs.Stack.{Passes}
use Rattle.row.specs.declared.Row.{Row}
use Rattle.table.specs.Order.{Ordered}
use Rattle.table.proofs.Inserted.{Pairs}
use Rattle.floor.specs.Formed.{formed}
use Rattle.floor.specs.Rows.{same_row}
use Rattle.floor.specs.Seats.{on_row, seat_ahead, seats_on, cells_on, sites_on, moved, resited, Sited as OfTable}
use Rattle.floor.specs.declared.Seat.{Seat}
use Rattle.floor.proofs.Kept.{kept_yes, kept_no, passing_kept}
use Rattle.floor.proofs.Listed.{Standing, standing_one, Differ, Listed, Inside, After, Sited, listed_formed, seats_on_same}
use Rattle.floor.proofs.Tests.{pairs_ordered, ordered_pairs}

module _ (row : Row) where
  -- what is told of a seat by its cell and its row stays, seat by seat
  pub resited_map : {Y : Type 0} (f : Seat → Y) → ((s : Seat) (x : ℕ) → f (moved s x) ≡ f s) → (xs : List ℕ) (seats : List Seat) → map f (resited row xs seats) ≡ map f seats
  resited_map f same xs [] = refl
  resited_map f same [] (s ∷ seats) = refl
  resited_map f same (x ∷ xs) (s ∷ seats) =
      cond_both (on_row row s) (moved s x ∷ resited row xs seats) (s ∷ resited row (x ∷ xs) seats) (λ l. map f l ≡ map f (s ∷ seats))
      (λ yes. ap (λ y. y ∷ map f (resited row xs seats)) (same s x) ∙ ap (λ l. f s ∷ l) (resited_map f same xs seats))
      (λ no. ap (λ l. f s ∷ l) (resited_map f same (x ∷ xs) seats))

  pub resited_all : (P : Seat → Type 0) → ((s : Seat) (x : ℕ) → P s → P (moved s x)) → (xs : List ℕ) (seats : List Seat) → AllByRecursion P seats → AllByRecursion P (resited row xs seats)
  resited_all P keep xs [] h = tt
  resited_all P keep [] (s ∷ seats) h = h
  resited_all P keep (x ∷ xs) (s ∷ seats) h =
      cond_both (on_row row s) (moved s x ∷ resited row xs seats) (s ∷ resited row (x ∷ xs) seats) (AllByRecursion P)
      (λ yes. (keep s x h.0, resited_all P keep xs seats h.1))
      (λ no. (h.0, resited_all P keep (x ∷ xs) seats h.1))

  pub resited_sited : (xs : List ℕ) (seats : List Seat) → AllByRecursion (λ x. x ≤ 65535) xs → AllByRecursion OfTable seats → AllByRecursion OfTable (resited row xs seats)
  resited_sited xs [] places h = tt
  resited_sited [] (s ∷ seats) places h = h
  resited_sited (x ∷ xs) (s ∷ seats) places h =
      cond_both (on_row row s) (moved s x ∷ resited row xs seats) (s ∷ resited row (x ∷ xs) seats) (AllByRecursion OfTable)
      (λ yes. ((h.0.0, places.0), resited_sited xs seats places.1 h.1))
      (λ no. (h.0, resited_sited (x ∷ xs) seats places h.1))

  pub resited_pairs : (R : Seat → Seat → Type 0) → ((s t : Seat) (x : ℕ) → R s t → R (moved s x) t) → ((s t : Seat) (x : ℕ) → R s t → R s (moved t x)) → (xs : List ℕ) (seats : List Seat) → Pairs R seats → Pairs R (resited row xs seats)
  resited_pairs R left right xs [] h = tt
  resited_pairs R left right [] (s ∷ seats) h = h
  resited_pairs R left right (x ∷ xs) (s ∷ seats) h =
      cond_both (on_row row s) (moved s x ∷ resited row xs seats) (s ∷ resited row (x ∷ xs) seats) (Pairs R)
      (λ yes. (
        resited_all (R (moved s x)) (λ t y. right (moved s x) t y) xs seats (All-weaker (R s) (R (moved s x)) (λ t. left s t x) seats h.0),
        resited_pairs R left right xs seats h.1,
      ))
      (λ no. (resited_all (R s) (λ t y. right s t y) (x ∷ xs) seats h.0, resited_pairs R left right (x ∷ xs) seats h.1))

  -- the seats stay in their order
  pub resited_ordered : (xs : List ℕ) (seats : List Seat) → Ordered seat_ahead seats → Ordered seat_ahead (resited row xs seats)
  resited_ordered xs seats ordered =
      pairs_ordered seat_ahead (resited row xs seats) (resited_pairs (λ s t. seat_ahead s t ≡ true) (λ s t x h. h) (λ s t x h. h) xs seats (ordered_pairs seat_ahead seats ordered))

  -- so cells and their number stay
  pub resited_cells : (xs : List ℕ) (seats : List Seat) → map (λ s. s.cell) (resited row xs seats) ≡ map (λ s. s.cell) seats
  resited_cells = resited_map (λ s. s.cell) (λ s x. refl)

  pub resited_length : (xs : List ℕ) (seats : List Seat) → length (resited row xs seats) ≡ length seats
  resited_length xs seats = sym (length-map (resited row xs seats) (λ s. s.cell)) ∙ (ap length (resited_cells xs seats) ∙ length-map seats (λ s. s.cell))

  -- the row's cells stay
  pub resited_cells_on : (xs : List ℕ) (seats : List Seat) → cells_on row (resited row xs seats) ≡ cells_on row seats
  resited_cells_on xs [] = refl
  resited_cells_on [] (s ∷ seats) = refl
  resited_cells_on (x ∷ xs) (s ∷ seats) =
      cond_both (on_row row s) (moved s x ∷ resited row xs seats) (s ∷ resited row (x ∷ xs) seats) (λ l. cells_on row l ≡ cells_on row (s ∷ seats))
      (λ yes.
      ap (map (λ t. t.cell)) (kept_yes (on_row row) (moved s x) (resited row xs seats) yes)
      ∙ (ap (λ l. s.cell ∷ l) (resited_cells_on xs seats) ∙ sym (ap (map (λ t. t.cell)) (kept_yes (on_row row) s seats yes))))
      (λ no.
      ap (map (λ t. t.cell)) (kept_no (on_row row) s (resited row (x ∷ xs) seats) no)
      ∙ (resited_cells_on (x ∷ xs) seats ∙ sym (ap (map (λ t. t.cell)) (kept_no (on_row row) s seats no))))

  -- its sites are the new ones
  pub resited_sites_on : (xs : List ℕ) (seats : List Seat) → length xs ≡ length (seats_on row seats) → sites_on row (resited row xs seats) ≡ xs
  resited_sites_on [] [] e = refl
  resited_sites_on (x ∷ xs) [] e = absurd (omega arith)
  resited_sites_on [] (s ∷ seats) e = ap (map (λ t. t.site)) (nil_from_length (seats_on row (s ∷ seats)) (sym e))
  resited_sites_on (x ∷ xs) (s ∷ seats) e =
      cond_both (on_row row s) (moved s x ∷ resited row xs seats) (s ∷ resited row (x ∷ xs) seats) (λ l. sites_on row l ≡ x ∷ xs)
      (λ yes.
      let more = ap length (kept_yes (on_row row) s seats yes) in
      ap (map (λ t. t.site)) (kept_yes (on_row row) (moved s x) (resited row xs seats) yes) ∙ ap (λ l. x ∷ l) (resited_sites_on xs seats (omega arith)))
      (λ no.
      ap (map (λ t. t.site)) (kept_no (on_row row) s (resited row (x ∷ xs) seats) no)
      ∙ resited_sites_on (x ∷ xs) seats (e ∙ ap length (kept_no (on_row row) s seats no)))

  -- a seat on the row is on no other
  off_other : (a r : Row) → same_row a row ≡ true → same_row r row ≡ false → same_row a r ≡ false
  off_other a r on other = grind arith

  -- the seats of another row stay
  pub resited_others : (r : Row) → same_row r row ≡ false → (xs : List ℕ) (seats : List Seat) → seats_on r (resited row xs seats) ≡ seats_on r seats
  resited_others r other xs [] = refl
  resited_others r other [] (s ∷ seats) = refl
  resited_others r other (x ∷ xs) (s ∷ seats) =
      cond_both (on_row row s) (moved s x ∷ resited row xs seats) (s ∷ resited row (x ∷ xs) seats) (λ l. seats_on r l ≡ seats_on r (s ∷ seats))
      (λ yes.
      let off = off_other s.row r yes other in
      kept_no (on_row r) (moved s x) (resited row xs seats) off ∙ (resited_others r other xs seats ∙ sym (kept_no (on_row r) s seats off)))
      (λ no. ap (λ l. cond (on_row r s) (s ∷ l) l) (resited_others r other (x ∷ xs) seats))

  -- what `formed` says whatever the sites stays
  pub resited_listed : (rows : List Row) (xs : List ℕ) (seats : List Seat) → Listed rows seats → Listed rows (resited row xs seats)
  resited_listed rows xs seats listed = record {
    well = listed.well;
    pass = resited_all (λ s. Passes s.cell) (λ s x h. h) xs seats listed.pass;
    stand = resited_all (λ s. Standing rows s.row) (λ s x h. h) xs seats listed.stand;
    order = resited_ordered xs seats listed.order;
    differ = resited_pairs Differ (λ s t x h. h) (λ s t x h. h) xs seats listed.differ;
  }

-- a placed cell starts at or after the end of one before it
abbrev pub Behind : Placed → Placed → Type 0
Behind p q = p.site + p.cell.width ≤ q.site

-- seats of one row are sited as their placed cells are
placed_inside : (row : Row) (ss : List Seat) → AllByRecursion (λ s. s.row ≡ row) ss → AllByRecursion (Within row) (placed (map (λ s. s.cell) ss) (map (λ s. s.site) ss)) → AllByRecursion Inside ss
placed_inside row [] own h = tt
placed_inside row (s ∷ ss) own h =
    (subst (λ r. (r.left ≤ s.site) × (s.site + s.cell.width ≤ r.right)) (sym own.0) h.0, placed_inside row ss own.1 h.1)

placed_after : (s : Seat) (ss : List Seat) → AllByRecursion (Behind (record { cell = s.cell; site = s.site })) (placed (map (λ s. s.cell) ss) (map (λ s. s.site) ss)) → AllByRecursion (After s) ss
placed_after s [] h = tt
placed_after s (t ∷ ss) h = (h.0, placed_after s ss h.1)

placed_clear : (ss : List Seat) → EveryPair Behind (placed (map (λ s. s.cell) ss) (map (λ s. s.site) ss)) → Pairs After ss
placed_clear [] h = tt
placed_clear (s ∷ ss) h = (placed_after s ss h.0, placed_clear ss h.1)

-- the seats on a standing row have that very row
pub own_row : (rows : List Row) (row : Row) (seats : List Seat) → Listed rows seats → Standing rows row → AllByRecursion (λ s. s.row ≡ row) (seats_on row seats)
own_row rows row seats listed stands =
    passing_kept (on_row row) (λ s. s.row ≡ row) seats
    (All-weaker (λ s. Standing rows s.row) (λ s. on_row row s ≡ true → s.row ≡ row) (λ s own on. standing_one rows listed.well s.row row own stands on) seats listed.stand)

-- new sites of one row, within it and clear of each other, leave a floor that is formed but for the sites of that row well formed
pub resited_formed : (rows : List Row) (row : Row) (xs : List ℕ) (seats : List Seat) → Listed rows seats → Standing rows row → ((r : Row) → same_row r row ≡ false → Sited (seats_on r seats)) → length xs ≡ length (seats_on row seats) → AllByRecursion (Within row) (placed (cells_on row seats) xs) → EveryPair Behind (placed (cells_on row seats) xs) → formed rows (resited row xs seats) ≡ true
resited_formed rows row xs seats listed stands others long within behind =
    let new : List Seat = resited row xs seats in
    let kept = resited_listed row rows xs seats listed in
    let same : placed (cells_on row new) (sites_on row new) ≡ placed (cells_on row seats) xs = ap (λ cs. placed cs (sites_on row new)) (resited_cells_on row xs seats) ∙ ap (placed (cells_on row seats)) (resited_sites_on row xs seats long) in
    let own : Sited (seats_on row new) = record {
      inside = placed_inside row (seats_on row new) (own_row rows row new kept stands) (subst (AllByRecursion (Within row)) (sym same) within);
      clear = placed_clear (seats_on row new) (subst (EveryPair Behind) (sym same) behind);
    } in
    listed_formed rows new kept
    (λ r.
    ⊎_elim
    (λ yes. subst Sited (sym (seats_on_same r row new yes)) own)
    (λ no. subst Sited (sym (resited_others row r no xs seats)) (others r no))
    (cases_Bool (same_row r row)))
