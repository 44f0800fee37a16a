-- A seat is taken out at its place: what holds of those that are left, and which they are.
use Rattle.std.proofs.Common.{◌≡◌, ℕ, zero, suc, ◌+◌, ◌<◌, Bool, true, false, cond, not, eqb, List, [], ◌∷◌, length, Some, None, slice_get, remove, sym, refl, ap, ◌∙◌, subst, arith}
use Rattle.std.proofs.ByRecursion.{All-weaker}
use Rattle.std.proofs.lemmas.Bool.{cond-true, cond-false, eqb-true, eq-eqb, both_ways, false_from_ne_true, not_from_false}
use Rattle.std.specs.List.{position_from, AllByRecursion}
use Rattle.table.specs.Order.{Ordered}
use Rattle.table.proofs.Inserted.{Pairs}
use Rattle.floor.specs.Calls.{seat_of, without}
use Rattle.floor.specs.Seats.{seat_index}
use Rattle.floor.specs.declared.Seat.{Seat}
use Rattle.floor.proofs.Listed.{Differ}

-- what holds of all holds of those that are left
pub removed_all : {X : Type 0} (P : X → Type 0) (xs : List X) (i : ℕ) → AllByRecursion P xs → AllByRecursion P (remove xs i)
removed_all P [] zero h = tt
removed_all P [] (suc i) h = tt
removed_all P (x ∷ xs) zero h = h.1
removed_all P (x ∷ xs) (suc i) h = (h.0, removed_all P xs i h.1)

-- and they stay in order
pub removed_ordered : {X : Type 0} (ahead : X → X → Bool) (xs : List X) (i : ℕ) → Ordered ahead xs → Ordered ahead (remove xs i)
removed_ordered ahead [] zero h = tt
removed_ordered ahead [] (suc i) h = tt
removed_ordered ahead (x ∷ xs) zero h = h.1
removed_ordered ahead (x ∷ xs) (suc i) h = (removed_all (λ y. ahead x y ≡ true) xs i h.0, removed_ordered ahead xs i h.1)

-- the seat of a number at its place
pub record At (number : ℕ) (seats : List Seat) (k : ℕ) (s : Seat) : Type 0 where
  pub within : k < length seats
  pub is : slice_get seats k ≡ Some s
  pub found : seat_of number seats ≡ Some s
  pub left : remove seats k ≡ without number seats

-- where it is, counted from some number on
record From (number : ℕ) (seats : List Seat) (from at : ℕ) : Type 0 where
  place : ℕ
  seat : Seat
  counted : at ≡ from + place
  known : At number seats place seat

-- seats of other numbers stay
all_others : (number : ℕ) (seats : List Seat) → AllByRecursion (λ s. eqb s.cell.number number ≡ false) seats → without number seats ≡ seats
all_others number [] h = refl
all_others number (s ∷ seats) h =
    cond-true (not (eqb s.cell.number number)) (s ∷ without number seats) (without number seats) (not_from_false (eqb s.cell.number number) h.0)
    ∙ ap (λ l. s ∷ l) (all_others number seats h.1)

found_from : (number : ℕ) (seats : List Seat) → Pairs Differ seats → (from at : ℕ) → position_from (λ s. eqb s.cell.number number) from seats ≡ Some at → From number seats from at
found_from number [] differ from at e = let never : ◌≡◌ {A = ℕ} 0 1 = cc in absurd (omega arith)
found_from number (s ∷ seats) differ from at e = by_test (eqb s.cell.number number) refl (found_from number seats differ.1 (from + 1) at) e
  where
    by_test : (t : Bool) → eqb s.cell.number number ≡ t → (position_from (λ s. eqb s.cell.number number) (from + 1) seats ≡ Some at → From number seats (from + 1) at) → cond t (Some from) (position_from (λ s. eqb s.cell.number number) (from + 1) seats) ≡ Some at → From number (s ∷ seats) from at
    by_test true is later h =
        let first : from ≡ at = cc in
        let others = All-weaker (Differ s) (λ u. eqb u.cell.number number ≡ false)
        (λ u other. false_from_ne_true (eqb u.cell.number number)
        (λ own. let a = eqb-true s.cell.number number is in let b = eqb-true u.cell.number number own in both_ways (eqb s.cell.number u.cell.number) other (eq-eqb s.cell.number u.cell.number (omega arith)))) seats differ.0 in
        record {
          place = 0;
          seat = s;
          counted = omega arith;
          known = record {
            within = omega arith;
            is = refl;
            found = cond-true (eqb s.cell.number number) (Some s) (seat_of number seats) is;
            left = sym (cond-false (not (eqb s.cell.number number)) (s ∷ without number seats) (without number seats) (ap not is) ∙ all_others number seats others);
          };
        }
    by_test false is later h =
        let rest = later h in
        let known = rest.known in
        let counted = rest.counted in
        record {
          place = suc rest.place;
          seat = rest.seat;
          counted = omega arith;
          known = record {
            within = let within = known.within in omega arith;
            is = known.is;
            found = cond-false (eqb s.cell.number number) (Some s) (seat_of number seats) is ∙ known.found;
            left = ap (λ l. s ∷ l) known.left ∙ sym (cond-true (not (eqb s.cell.number number)) (s ∷ without number seats) (without number seats) (not_from_false (eqb s.cell.number number) is));
          };
        }

-- where the program finds it
pub found_at : (number : ℕ) (seats : List Seat) (at : ℕ) → Pairs Differ seats → seat_index number seats ≡ Some at → (s : Seat) × At number seats at s
found_at number seats at differ e =
    let it = found_from number seats differ 0 at e in
    let same : it.place ≡ at = let counted = it.counted in omega arith in
    (it.seat, subst (λ k. At number seats k it.seat) same it.known)

-- and where it finds none
pub none_from : (number : ℕ) (seats : List Seat) (from : ℕ) → position_from (λ s. eqb s.cell.number number) from seats ≡ None → seat_of number seats ≡ None
none_from number [] from e = refl
none_from number (s ∷ seats) from e = by_test (eqb s.cell.number number) (none_from number seats (from + 1)) e
  where
    by_test : (t : Bool) → (position_from (λ s. eqb s.cell.number number) (from + 1) seats ≡ None → seat_of number seats ≡ None) → cond t (Some from) (position_from (λ s. eqb s.cell.number number) (from + 1) seats) ≡ None → cond t (Some s) (seat_of number seats) ≡ None
    by_test true later h = let never : ◌≡◌ {A = ℕ} 0 1 = cc in absurd (omega arith)
    by_test false later h = later h
