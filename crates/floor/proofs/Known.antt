-- What is known of each seat of a floor.
use Rattle.std.proofs.Common.{◌≡◌, ℕ, ◌+◌, ◌≤◌, true, not, ◌&&◌, eqb, leb, List, [], ◌∷◌, is_some, sym, subst, ⊎_elim, arith}
use Rattle.std.proofs.ByRecursion.{All-weaker}
use Rattle.std.proofs.lemmas.Bool.{and_parts, or_cases, leb-true, eqb-true}
use Rattle.std.specs.List.{AllByRecursion, list_all, list_any}
use Rattle.row.specs.Records.{cell_fault, row_fault, row_ahead}
use Rattle.row.specs.Stack.{Passes}
use Rattle.row.specs.declared.Row.{Row}
use Rattle.row.proofs.Ranges.{RangedRow, ranged_row}
use Rattle.floor.specs.Formed.{every_pair, is_row_of, rows_formed, seat_formed, seats_apart, formed}
use Rattle.floor.specs.Rows.{share}
use Rattle.floor.specs.declared.Seat.{Seat}
use Rattle.floor.proofs.Tests.{every_all, none_found}

-- what is known of a seat by itself
pub record SeatKnown (s : Seat) : Type 0 where
  pub passes : Passes s.cell
  pub ranged : RangedRow s.row
  pub left : s.row.left ≤ s.site
  pub right : s.site + s.cell.width ≤ s.row.right

-- the row that a seat is on is the standing row with its fields
same_fields : (s : Seat) (r : Row) → is_row_of s r ≡ true → RangedRow r → RangedRow s.row
same_fields s r e known =
    let line = and_parts (eqb r.line s.row.line) (eqb r.left s.row.left && eqb r.right s.row.right) e in
    let sides = and_parts (eqb r.left s.row.left) (eqb r.right s.row.right) line.1 in
    let a = eqb-true r.line s.row.line line.0 in
    let b = eqb-true r.left s.row.left sides.0 in
    let c = eqb-true r.right s.row.right sides.1 in
    record { line = omega (arith, known.line); some = omega (arith, known.some); right = omega (arith, known.right) }

standing_ranged : (s : Seat) (rows : List Row) → AllByRecursion (λ r. not (is_some (row_fault r)) ≡ true) rows → list_any (is_row_of s) rows ≡ true → RangedRow s.row
standing_ranged s [] ranged e = let never : ◌≡◌ {A = ℕ} 0 1 = cc in absurd (omega arith)
standing_ranged s (r ∷ rows) ranged e =
    ⊎_elim (λ here. same_fields s r here (ranged_row r (none_found (row_fault r) ranged.0))) (λ there. standing_ranged s rows ranged.1 there) (or_cases (is_row_of s r) (list_any (is_row_of s) rows) e)

module _ (rows : List Row) (seats : List Seat) (well : formed rows seats ≡ true) where
  parts : (rows_formed rows ≡ true) × ((list_all (seat_formed rows) seats && every_pair seats_apart seats) ≡ true)
  parts = and_parts (rows_formed rows) (list_all (seat_formed rows) seats && every_pair seats_apart seats) well

  seat_parts : (list_all (seat_formed rows) seats ≡ true) × (every_pair seats_apart seats ≡ true)
  seat_parts = and_parts (list_all (seat_formed rows) seats) (every_pair seats_apart seats) parts.1

  pub rows_ranged : AllByRecursion (λ r. not (is_some (row_fault r)) ≡ true) rows
  rows_ranged = every_all (λ r. not (is_some (row_fault r))) rows (and_parts (list_all (λ r. not (is_some (row_fault r))) rows) (every_pair row_ahead rows && every_pair (λ a b. not (share a b)) rows) parts.0).0

  known_one : (s : Seat) → seat_formed rows s ≡ true → SeatKnown s
  known_one s e =
      let own = and_parts (not (is_some (cell_fault s.cell))) (list_any (is_row_of s) rows && (leb s.row.left s.site && leb (s.site + s.cell.width) s.row.right)) e in
      let stand = and_parts (list_any (is_row_of s) rows) (leb s.row.left s.site && leb (s.site + s.cell.width) s.row.right) own.1 in
      let sides = and_parts (leb s.row.left s.site) (leb (s.site + s.cell.width) s.row.right) stand.1 in
      record {
        passes = none_found (cell_fault s.cell) own.0;
        ranged = standing_ranged s rows rows_ranged stand.0;
        left = leb-true s.row.left s.site sides.0;
        right = leb-true (s.site + s.cell.width) s.row.right sides.1;
      }

  pub all_known : AllByRecursion SeatKnown seats
  all_known = All-weaker (λ s. seat_formed rows s ≡ true) SeatKnown known_one seats (every_all (seat_formed rows) seats seat_parts.0)

-- the same of a slice of all of them
pub known_slice : (rows : List Row) (seats slice : List Seat) → formed rows seats ≡ true → slice ≡ seats → AllByRecursion SeatKnown slice
known_slice rows seats slice well same = subst (AllByRecursion SeatKnown) (sym same) (all_known rows seats well)
