-- Row order and the order of seats: transitive, one way only, and total where keys differ.
use Rattle.std.proofs.Common.{◌≡◌, true, false, ⊎_elim, arith}
use Rattle.std.proofs.lemmas.Bool.{or_cases, or_left, or_right, and_parts, and_from}
use Rattle.row.specs.Records.{row_ahead}
use Rattle.row.specs.declared.Row.{Row}
use Rattle.row.proofs.Accepted.{before_trans}
use Rattle.floor.specs.Rows.{same_row}
use Rattle.floor.specs.Seats.{seat_ahead}
use Rattle.floor.specs.declared.Seat.{Seat}

pub row_chain : (a b c : Row) → row_ahead a b ≡ true → row_ahead b c ≡ true → row_ahead a c ≡ true
row_chain a b c p q = grind arith

pub row_once : (a b : Row) → row_ahead a b ≡ true → row_ahead b a ≡ true → ⊥
row_once a b p q = grind arith

-- rows of one line and one left are ahead of the same rows, and behind the same
pub ahead_same : (a b c : Row) → row_ahead a b ≡ true → same_row b c ≡ true → row_ahead a c ≡ true
ahead_same a b c p q = grind arith

pub same_ahead : (a b c : Row) → same_row a b ≡ true → row_ahead b c ≡ true → row_ahead a c ≡ true
same_ahead a b c p q = grind arith

pub same_trans : (a b c : Row) → same_row a b ≡ true → same_row b c ≡ true → same_row a c ≡ true
same_trans a b c p q = grind arith

pub same_sym : (a b : Row) → same_row a b ≡ true → same_row b a ≡ true
same_sym a b p = grind arith

pub same_refl : (a : Row) → same_row a a ≡ true
same_refl a = grind arith

-- a row is not ahead of itself
pub ahead_not_same : (a b : Row) → row_ahead a b ≡ true → same_row a b ≡ true → ⊥
ahead_not_same a b p q = grind arith

-- of two rows with another line or another left, one is ahead
pub row_total : (a b : Row) → row_ahead a b ≡ false → same_row a b ≡ false → row_ahead b a ≡ true
row_total a b p q = grind arith

pub seat_chain : (a b c : Seat) → seat_ahead a b ≡ true → seat_ahead b c ≡ true → seat_ahead a c ≡ true
seat_chain a b c p q =
    ⊎_elim
    (λ row_ab.
    ⊎_elim
    (λ row_bc. or_left _ _ (row_chain a.row b.row c.row row_ab row_bc))
    (λ on_bc. or_left _ _ (ahead_same a.row b.row c.row row_ab (and_parts _ _ on_bc).0))
    (or_cases _ _ q))
    (λ on_ab.
    ⊎_elim
    (λ row_bc. or_left _ _ (same_ahead a.row b.row c.row (and_parts _ _ on_ab).0 row_bc))
    (λ on_bc.
    or_right _ _ (and_from _ _
    (same_trans a.row b.row c.row (and_parts _ _ on_ab).0 (and_parts _ _ on_bc).0)
    (before_trans a.cell b.cell c.cell (and_parts _ _ on_ab).1 (and_parts _ _ on_bc).1)))
    (or_cases _ _ q))
    (or_cases _ _ p)
