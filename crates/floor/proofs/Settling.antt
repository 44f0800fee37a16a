-- Setting a row of a floor: what makes `set` accept its cells, and what every floor keeps then.
use Rattle.std.proofs.Common.{◌≡◌, ℕ, ◌+◌, ◌-◌, ◌≤◌, Bool, true, false, ◌&&◌, eqb, leb, List, [], ◌∷◌, ◌++◌, map, length, take, drop, Some, None, Option, sym, refl, ap, ◌∙◌, subst, ⊎_elim, arith}
use Rattle.std.proofs.ByRecursion.{All-weaker, all_kept_by, All-map, kept_by_passes}
use Rattle.std.proofs.lemmas.List.{length-map}
use Rattle.std.proofs.lemmas.List.Sums.{length-filter, count_by-le-length}
use Rattle.std.proofs.lemmas.Bool.{and_parts, and_from, or_cases, le-leb, eq-eqb, cond-true}
use Rattle.std.specs.Option.{option_map}
use Rattle.std.specs.List.{between, AllByRecursion}
use borrow.Rule.Slice.PartMut.{put_mid}
use Rattle.measure.specs.Costs.{Fair, Price}
use Rattle.std.specs.declared.ops.Range.{Range}
use Rattle.row.specs.Records.{check, then, cell_fault, row_fault, before, row_ahead, widths}
use Rattle.row.specs.Refusals.{comes_after, next_refusal, cells_refusal}
use Rattle.row.specs.Settings.{placed, EveryPair, Within, Setting}
use Rattle.row.specs.Sites.{row_sites}
use Rattle.row.specs.Stack.{Passes, Ready}
use Rattle.row.specs.declared.Cell.{Cell}
use Rattle.row.specs.declared.Refusal.TheVariants.{OutOfRange, Size, Order, TooWide}
use Rattle.row.specs.declared.Row.{Row}
use Rattle.row.proofs.Accepted.{Fitting, accepted}
use Rattle.row.proofs.Finished.{row_places}
use Rattle.row.proofs.Instance.{lane, next_is}
use Rattle.row.proofs.Ranges.{ranged_row}
use Rattle.row.proofs.Subject.{fitting_answer, fitting_cheapest}
use Rattle.row.proofs.Theory.Packed.{next, Chain}
use Rattle.table.specs.Order.{Ordered}
use Rattle.table.proofs.Inserted.{Pairs}
use Rattle.floor.specs.Formed.{formed}
use Rattle.floor.specs.Rows.{same_row}
use Rattle.floor.specs.Seats.{on_row, seat_ahead, seats_on, cells_on, cell_of, moved_all, resited, settled, Sited as OfTable}
use Rattle.floor.specs.Spans.{Spanned}
use Rattle.floor.specs.declared.Seat.{Seat}
use Rattle.floor.proofs.Granted.{sites_each}
use Rattle.floor.proofs.Kept.{pairs_with, pairs_both, pairs_kept}
use Rattle.floor.proofs.Listed.{Standing, standing_passes, Listed, Sited}
use Rattle.floor.proofs.Moved.{written_resited}
use Rattle.floor.proofs.Orders.{same_trans, same_sym, ahead_not_same}
use Rattle.floor.proofs.Resited.{Behind, resited_length, resited_formed, resited_ordered, resited_sited}
use Rattle.floor.proofs.Tests.{ordered_pairs}

-- checks that let pass
then_none : {E : Type 0} (some others : Option E) → some ≡ None → others ≡ None → then some others ≡ None
then_none some others a b = ap (λ o. then o others) a ∙ b

check_none : {E : Type 0} (test : Bool) (failure : E) (others : Option E) → test ≡ true → others ≡ None → check test failure others ≡ None
check_none test failure others a b = cond-true test others (Some failure) a ∙ b

-- cells that pass their own checks, each after the one before it
cells_none : (last : Option Cell) (cs : List Cell) → AllByRecursion Passes cs → AllByRecursion (λ c. comes_after last c ≡ true) cs → Pairs (λ c d. before c d ≡ true) cs → cells_refusal last cs ≡ None
cells_none last [] pass after order = refl
cells_none last (c ∷ cs) pass after order =
    then_none (next_refusal last c) (cells_refusal (Some c) cs)
    (then_none (option_map OutOfRange (cell_fault c)) (check (comes_after last c) Order None) (ap (option_map OutOfRange) pass.0) (check_none (comes_after last c) Order None after.0 refl))
    (cells_none (Some c) cs pass.1 order.0 order.1)

-- what `set` accepts
pub set_accepts : (row : Row) (cells : List Cell) → row_fault row ≡ None → length cells ≤ 1024 → AllByRecursion Passes cells → Pairs (λ c d. before c d ≡ true) cells → widths cells ≤ row.right - row.left → Ready row cells
set_accepts row cells own few pass order wide =
    then_none (option_map OutOfRange (row_fault row)) _ (ap (option_map OutOfRange) own)
    (check_none (leb (length cells) 1024 && eqb (length cells) (length cells)) Size _
    (and_from (leb (length cells) 1024) (eqb (length cells) (length cells)) (le-leb (length cells) 1024 few) (eq-eqb (length cells) (length cells) refl))
    (then_none (cells_refusal None cells) _
    (cells_none None cells pass (All-weaker Passes (λ c. true ≡ true) (λ c _. refl) cells pass) order)
    (check_none (leb (widths cells) (row.right - row.left)) TooWide None (le-leb (widths cells) (row.right - row.left) wide) refl)))

-- the order of two seats of one row is wanted order
pub ahead_before : (row : Row) (s t : Seat) → on_row row s ≡ true → on_row row t ≡ true → seat_ahead s t ≡ true → before s.cell t.cell ≡ true
ahead_before row s t on_s on_t ahead =
    ⊎_elim
    (λ first. absurd (ahead_not_same s.row t.row first (same_trans s.row row t.row on_s (same_sym t.row row on_t))))
    (λ both. (and_parts (on_row t.row s) (before s.cell t.cell) both).1)
    (or_cases (row_ahead s.row t.row) (on_row t.row s && before s.cell t.cell) ahead)

cells_ordered : (ss : List Seat) → Pairs (λ s t. before s.cell t.cell ≡ true) ss → Pairs (λ c d. before c d ≡ true) (map (λ s. s.cell) ss)
cells_ordered [] h = tt
cells_ordered (s ∷ ss) h = (All-map (λ d. before s.cell d ≡ true) (λ t. t.cell) ss h.0, cells_ordered ss h.1)

-- the cells of a standing row pass their checks and are in wanted order
pub cells_pass : (rows : List Row) (row : Row) (seats : List Seat) → Listed rows seats → AllByRecursion Passes (cells_on row seats)
cells_pass rows row seats listed = All-map Passes (λ s. s.cell) (seats_on row seats) (all_kept_by (on_row row) (λ s. Passes s.cell) seats listed.pass)

pub cells_in_order : (rows : List Row) (row : Row) (seats : List Seat) → Listed rows seats → Pairs (λ c d. before c d ≡ true) (cells_on row seats)
cells_in_order rows row seats listed =
    cells_ordered (seats_on row seats)
    (pairs_with (λ s t. seat_ahead s t ≡ true) (λ s t. (on_row row s ≡ true) × (on_row row t ≡ true)) (λ s t. before s.cell t.cell ≡ true)
    (λ s t ahead on. ahead_before row s t on.0 on.1 ahead)
    (seats_on row seats) (pairs_kept (on_row row) (λ s t. seat_ahead s t ≡ true) seats (ordered_pairs seat_ahead seats listed.order))
    (pairs_both (λ s. on_row row s ≡ true) (seats_on row seats) (kept_by_passes (on_row row) seats)))

-- a row has no more cells than its floor
pub cells_few : (row : Row) (seats : List Seat) → length (cells_on row seats) ≤ length seats
cells_few row seats =
    let cells = length-map (seats_on row seats) (λ s. s.cell) in
    let kept = length-filter (on_row row) seats in
    let few = count_by-le-length (on_row row) seats in
    omega arith

-- so `set` accepts them where they fit the row
pub row_accepts : (rows : List Row) (row : Row) (seats : List Seat) → Listed rows seats → Standing rows row → length seats ≤ 1024 → widths (cells_on row seats) ≤ row.right - row.left → Ready row (cells_on row seats)
row_accepts rows row seats listed stands few wide =
    let fewer = cells_few row seats in
    set_accepts row (cells_on row seats) (standing_passes rows listed.well row stands) (omega arith) (cells_pass rows row seats listed) (cells_in_order rows row seats listed) wide

-- a standing row and its cells fit, however many they are, where they are no wider than the row
pub row_fitting : (rows : List Row) (row : Row) (seats : List Seat) → Listed rows seats → Standing rows row → row.left + widths (cells_on row seats) ≤ row.right → Fitting row (cells_on row seats)
row_fitting rows row seats listed stands room = record {
  ranged = ranged_row row (standing_passes rows listed.well row stands);
  pass = cells_pass rows row seats listed;
  order = every_two (λ c d. before c d ≡ true) (cells_on row seats) (cells_in_order rows row seats listed);
  room = room;
}
  where
    every_two : {X : Type 0} (R : X → X → Type 0) (xs : List X) → Pairs R xs → EveryPair R xs
    every_two R [] h = tt
    every_two R (x ∷ xs) h = (h.0, every_two R xs h.1)

-- the cells of a chain start behind each other
module _ (f : Price) (row : Row) where
  chain_from : (cs : List Cell) (ys : List ℕ) (lo : ℕ) → Chain (lane f row) lo cs ys → AllByRecursion (λ p. lo ≤ p.site) (placed cs ys)
  chain_from [] ys lo chain = tt
  chain_from (c ∷ cs) [] lo chain = tt
  chain_from (c ∷ cs) (y ∷ ys) lo chain =
      let low = chain.0 in
      (low, All-weaker (λ p. y + next (lane f row) c cs ≤ p.site) (λ p. lo ≤ p.site) (λ p h. omega arith) (placed cs ys) (chain_from cs ys (y + next (lane f row) c cs) chain.2))

  chain_behind : (cs : List Cell) (ys : List ℕ) (lo : ℕ) → Chain (lane f row) lo cs ys → EveryPair Behind (placed cs ys)
  chain_behind [] ys lo chain = tt
  chain_behind (c ∷ cs) [] lo chain = tt
  chain_behind (c ∷ cs) (y ∷ ys) lo chain =
      let n = next_is f row c cs in (
        All-weaker (λ q. y + next (lane f row) c cs ≤ q.site) (λ q. y + c.width ≤ q.site) (λ q h. omega arith) (placed cs ys) (chain_from cs ys (y + next (lane f row) c cs) chain.2),
        chain_behind cs ys (y + next (lane f row) c cs) chain.2,
      )

-- the sites of a row whose cells fit it: one for each, within the row, each behind those before it
module _ (price : Price) (fair : Fair price) (row : Row) (seats : List Seat) (fits : Fitting row (cells_on row seats)) where
  abbrev cells : List Cell
  cells = cells_on row seats

  setting : Setting row cells (row_sites price row cells)
  setting = (fitting_cheapest price row fair cells fits).setting

  pub sites_long : length (row_sites price row (cells_on row seats)) ≡ length (seats_on row seats)
  sites_long = setting.each ∙ length-map (seats_on row seats) (λ s. s.cell)

  pub sites_within : AllByRecursion (Within row) (placed (cells_on row seats) (row_sites price row (cells_on row seats)))
  sites_within = setting.legal.0

  pub sites_behind : EveryPair Behind (placed (cells_on row seats) (row_sites price row (cells_on row seats)))
  sites_behind = chain_behind price row cells (row_sites price row cells) row.left (fitting_answer price row fair cells fits).legal

  -- so a floor that is formed but for the sites of the row is formed once the row is set
  pub settled_formed : (rows : List Row) → Listed rows seats → Standing rows row → ((r : Row) → same_row r row ≡ false → Sited (seats_on r seats)) → formed rows (settled price row seats) ≡ true
  settled_formed rows listed stands others = resited_formed rows row (row_sites price row cells) seats listed stands others sites_long sites_within sites_behind

-- the seats of a row, moved to sites in the table
pub record Resettled (row : Row) (sites : List ℕ) (seats new : List Seat) : Type 0 where
  pub is : new ≡ resited row sites seats
  pub ordered : Ordered seat_ahead new
  pub sited : AllByRecursion OfTable new
  pub few : length new ≤ 1024

-- as the program moves them: one for each, in the stretch that they are
pub move_row : (row : Row) (sites : List ℕ) (seats : List Seat) {slice moved : List Seat} (r : Range ℕ) {n : ℕ} → Ordered seat_ahead seats → AllByRecursion OfTable seats → length seats ≤ 1024 → Spanned row seats r →
    length sites ≡ length (cells_on row seats) → AllByRecursion (λ x. x ≤ 65535) sites → slice ≡ seats → moved ≡ moved_all sites (between r.start r.end slice) → n ≡ length seats →
    Resettled row sites seats (take n (put_mid r.start (r.end - r.start) slice moved ++ drop (length (put_mid r.start (r.end - r.start) slice moved)) seats))
move_row row sites seats {slice} {moved} r {n} ordered sited few own each places slices move long =
    let is = written_resited row sites seats slice moved r n own each slices move long in
    record {
      is = is;
      ordered = subst (Ordered seat_ahead) (sym is) (resited_ordered row sites seats ordered);
      sited = subst (AllByRecursion OfTable) (sym is) (resited_sited row sites seats places sited);
      few = let same = ap length is ∙ resited_length row sites seats in omega arith;
    }

-- the sites that `set` gives the cells of a row are places
pub ready_places : {f : Price} (fair : Fair f) (row : Row) (cells : List Cell) → Ready row cells → AllByRecursion (λ x. x ≤ 65535) (row_sites f row cells)
ready_places {f} fair row cells ready = row_places f row cells (length cells) fair (accepted row cells (length cells) ready)

-- a row set by the program: its cells gathered, their sites found, and its seats moved to them
pub set_row : {f : Price} (fair : Fair f) (row : Row) (seats : List Seat) {looked slice moved : List Seat} {none gathered cells : List Cell} {sites : List ℕ} (r : Range ℕ) {n : ℕ} → Ready row (cells_on row seats) → Ordered seat_ahead seats → AllByRecursion OfTable seats → length seats ≤ 1024 → Spanned row seats r →
    none ≡ [] → looked ≡ seats → gathered ≡ none ++ map cell_of (between r.start r.end looked) → cells ≡ gathered → sites ≡ row_sites f row cells → slice ≡ seats → moved ≡ moved_all sites (between r.start r.end slice) → n ≡ length seats →
    Resettled row (row_sites f row (cells_on row seats)) seats (take n (put_mid r.start (r.end - r.start) slice moved ++ drop (length (put_mid r.start (r.end - r.start) slice moved)) seats))
set_row {f} fair row seats {looked} {slice} {moved} {none} {gathered} {cells} {sites} r {n} ready ordered sited few own empty look gather same set slices move long =
    let cs : List Cell = cells_on row seats in
    let all : cells ≡ cs = same ∙ gather ∙ (λ i. empty i ++ map cell_of (between r.start r.end (look i))) ∙ ap (map cell_of) own.seats_are in
    let found : sites ≡ row_sites f row cs = set ∙ ap (row_sites f row) all in
    move_row row (row_sites f row cs) seats r ordered sited few own (sites_each fair row cs ready) (ready_places fair row cs ready) slices (move ∙ ap (λ xs. moved_all xs (between r.start r.end slice)) found) long
