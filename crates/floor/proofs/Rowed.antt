-- What every floor keeps, once a row is added.
use Rattle.std.proofs.Common.{◌≡◌, ◌+◌, ◌<◌, true, false, not, ◌&&◌, ltb, List, [], ◌∷◌, ℕ, length, is_some, None, ap, ◌∙◌, subst, sym, arith}
use Rattle.std.proofs.ByRecursion.{All-weaker}
use Rattle.std.proofs.lemmas.Bool.{and_parts, and_from, ltb-true}
use Rattle.std.proofs.lemmas.List.Edits.{length-insert}
use Rattle.std.proofs.lemmas.List.Sums.{prefix_len-le-length}
use Rattle.std.specs.Option.{option_map}
use Rattle.std.specs.List.{AllByRecursion, insert, list_all, list_any}
use Rattle.row.specs.Records.{check, row_fault, row_ahead}
use Rattle.row.specs.declared.Row.{Row}
use Rattle.row.proofs.Accepted.{both, unmapped}
use Rattle.row.proofs.Ranges.{passed, RangedRow, ranged_row}
use Rattle.table.specs.Order.{Ordered, rank_of}
use Rattle.table.proofs.Inserted.{put_in, put_all, put_ordered, put_pairs, inserted_is}
use Rattle.floor.specs.Calls.{with_row}
use Rattle.floor.specs.Formed.{every_pair, rows_formed, is_row_of, seat_formed, seats_apart, formed}
use Rattle.floor.specs.Refusals.{add_refusal}
use Rattle.floor.specs.Rows.{same_row, share}
use Rattle.floor.specs.declared.Refusal.TheVariants.{OutOfRange, RowsFull, RowShares}
use Rattle.floor.specs.declared.Seat.{Seat}
use Rattle.floor.proofs.Listed.{share_turn}
use Rattle.floor.proofs.Orders.{row_chain, row_total}
use Rattle.floor.proofs.Tests.{nothing_some, every_all, all_every, pairs_all, all_pairs, pairs_ordered, ordered_pairs, none_found, none_any, any_put}

-- rows with one line and one left share a site
pub shared_same : (a b : Row) → RangedRow a → RangedRow b → share a b ≡ false → same_row b a ≡ false
shared_same a b ra rb apart = let x = ra.some in let y = rb.some in grind arith

module _ (rows : List Row) (row : Row) (none : add_refusal rows row ≡ None) where
  checks : (option_map OutOfRange (row_fault row) ≡ None) × (check (ltb (length rows) 64) RowsFull (check (not (list_any (share row) rows)) RowShares None) ≡ None)
  checks = both (option_map OutOfRange (row_fault row)) (check (ltb (length rows) 64) RowsFull (check (not (list_any (share row) rows)) RowShares None)) none

  passes_new : row_fault row ≡ None
  passes_new = unmapped OutOfRange (row_fault row) checks.0

  pub ranged_new : RangedRow row
  ranged_new = ranged_row row passes_new

  pub apart_new : AllByRecursion (λ r. share row r ≡ false) rows
  apart_new =
      let full = passed (ltb (length rows) 64) RowsFull (check (not (list_any (share row) rows)) RowShares None) checks.1 in
      none_any (share row) rows (passed (not (list_any (share row) rows)) RowShares None full.1).0

  -- a row's own tests
  module _ (formed_rows : rows_formed rows ≡ true) where
    parts : (list_all (λ r. not (is_some (row_fault r))) rows ≡ true) × ((every_pair row_ahead rows && every_pair (λ a b. not (share a b)) rows) ≡ true)
    parts = and_parts (list_all (λ r. not (is_some (row_fault r))) rows) (every_pair row_ahead rows && every_pair (λ a b. not (share a b)) rows) formed_rows

    pair_parts : (every_pair row_ahead rows ≡ true) × (every_pair (λ a b. not (share a b)) rows ≡ true)
    pair_parts = and_parts (every_pair row_ahead rows) (every_pair (λ a b. not (share a b)) rows) parts.1

    all_ranged : AllByRecursion (λ r. not (is_some (row_fault r)) ≡ true) rows
    all_ranged = every_all (λ r. not (is_some (row_fault r))) rows parts.0

    -- no standing row has the new one's line and left
    none_same : (rs : List Row) → AllByRecursion (λ r. not (is_some (row_fault r)) ≡ true) rs → AllByRecursion (λ r. share row r ≡ false) rs → AllByRecursion (λ r. row_ahead r row ≡ false → row_ahead row r ≡ true) rs
    none_same [] ranged apart = tt
    none_same (r ∷ rs) ranged apart =
        (λ behind. row_total r row behind (shared_same row r ranged_new (ranged_row r (none_found (row_fault r) ranged.0)) apart.0), none_same rs ranged.1 apart.1)

    pub rows_ordered : Ordered row_ahead rows
    rows_ordered = pairs_ordered row_ahead rows (pairs_all row_ahead rows pair_parts.0)

    not_share : (a b : Row) → share a b ≡ false → not (share a b) ≡ true
    not_share a b e = ap not e

    pub put_formed : rows_formed (put_in row_ahead row rows) ≡ true
    put_formed =
        let new : not (is_some (row_fault row)) ≡ true = nothing_some (row_fault row) passes_new in
        let order = put_ordered row_ahead row row_chain rows (none_same rows all_ranged apart_new) rows_ordered in
        let pairs = pairs_all (λ a b. not (share a b)) rows pair_parts.1 in
        let turn : (a b : Row) → not (share a b) ≡ true → not (share b a) ≡ true = λ a b e. ap not (sym (share_turn a b)) ∙ e in
        let own = All-weaker (λ r. share row r ≡ false) (λ r. not (share row r) ≡ true) (λ r. not_share row r) rows apart_new in
        and_from _ _
        (all_every (λ r. not (is_some (row_fault r))) (put_in row_ahead row rows) (put_all row_ahead row (λ r. not (is_some (row_fault r)) ≡ true) rows new all_ranged))
        (and_from _ _
        (all_pairs row_ahead (put_in row_ahead row rows) (ordered_pairs row_ahead (put_in row_ahead row rows) order))
        (all_pairs (λ a b. not (share a b)) (put_in row_ahead row rows) (put_pairs row_ahead row (λ a b. not (share a b) ≡ true) turn rows own pairs)))

  -- a seat's own tests say of the rows only that its row stands
  seat_kept : (s : Seat) → seat_formed rows s ≡ true → seat_formed (put_in row_ahead row rows) s ≡ true
  seat_kept s e =
      let cell = and_parts _ _ e in
      let stand = and_parts _ _ cell.1 in
      and_from _ _ cell.0 (and_from _ _ (any_put row_ahead row (is_row_of s) rows stand.0) stand.1)

  -- what every floor keeps
  pub row_added : (seats : List Seat) → formed rows seats ≡ true → formed (with_row rows row) seats ≡ true
  row_added seats e =
      let parts = and_parts _ _ e in
      let others = and_parts _ _ parts.1 in
      let kept = All-weaker (λ s. seat_formed rows s ≡ true) (λ s. seat_formed (put_in row_ahead row rows) s ≡ true) seat_kept seats (every_all (seat_formed rows) seats others.0) in
      ap (λ rs. formed rs seats) (inserted_is row_ahead row rows)
      ∙ and_from _ _ (put_formed parts.0) (and_from _ _ (all_every (seat_formed (put_in row_ahead row rows)) seats kept) others.1)

  pub not_full : length rows < 64
  not_full = ltb-true (length rows) 64 (passed (ltb (length rows) 64) RowsFull (check (not (list_any (share row) rows)) RowShares None) checks.1).0

-- the rows of a floor are in row order
pub ordered_rows : (rows : List Row) (seats : List Seat) → formed rows seats ≡ true → Ordered row_ahead rows
ordered_rows rows seats e =
    let all = and_parts (rows_formed rows) (list_all (seat_formed rows) seats && every_pair seats_apart seats) e in
    let parts = and_parts (list_all (λ r. not (is_some (row_fault r))) rows) (every_pair row_ahead rows && every_pair (λ a b. not (share a b)) rows) all.0 in
    let pairs = and_parts (every_pair row_ahead rows) (every_pair (λ a b. not (share a b)) rows) parts.1 in
    pairs_ordered row_ahead rows (pairs_all row_ahead rows pairs.0)

-- a row that is inserted where a search over them says
pub row_placed : (rows : List Row) (seats : List Seat) (looked : List Row) (row : Row) (at : ℕ) {after : List Row} → formed rows seats ≡ true → looked ≡ rows → (Ordered row_ahead looked → at ≡ rank_of row_ahead looked row) → after ≡ insert rows at row → after ≡ with_row rows row
row_placed rows seats looked row at well same finds put =
    let found : at ≡ rank_of row_ahead rows row = finds (subst (Ordered row_ahead) (sym same) (ordered_rows rows seats well)) ∙ ap (λ l. rank_of row_ahead l row) same in
    put ∙ ap (λ n. insert rows n row) found

-- one row more
pub with_more : (rows : List Row) (row : Row) → length (with_row rows row) ≡ length rows + 1
with_more rows row = length-insert rows (rank_of row_ahead rows row) row (prefix_len-le-length (λ r. row_ahead r row) rows)
