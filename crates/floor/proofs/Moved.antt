-- One turn of the loop that moves seats, and what it comes to on a stretch.
use Rattle.std.proofs.Common.{◌≡◌, ℕ, ◌-◌, true, false, cond, List, [], ◌∷◌, ◌++◌, length, take, drop, sym, refl, ap, ◌∙◌, subst, arith}
use Rattle.std.proofs.ByRecursion.{kept_by_passes}
use Rattle.std.proofs.lemmas.List.{take-append-drop, take_at, length-map}
use borrow.Rule.Slice.PartMut.{put_mid}
use Rattle.std.specs.List.{between, AllByRecursion}
use Rattle.std.specs.declared.ops.Range.{Range}
use Rattle.row.specs.declared.Row.{Row}
use Rattle.floor.specs.Seats.{on_row, seats_on, cells_on, cell_of, moved, moved_all, resited}
use Rattle.floor.specs.Spans.{Spanned}
use Rattle.floor.specs.declared.Seat.{Seat}
use Rattle.floor.proofs.Resited.{resited_length}

-- no sites rewrite nothing
pub resited_nothing : (row : Row) (seats : List Seat) → resited row [] seats ≡ seats
resited_nothing row [] = refl
resited_nothing row (s ∷ seats) = refl

-- seats that are not on the row stay
skip : (row : Row) (sites : List ℕ) (front back : List Seat) → AllByRecursion (λ s. on_row row s ≡ false) front → resited row sites (front ++ back) ≡ front ++ resited row sites back
skip row sites [] back none = refl
skip row [] (s ∷ front) back none = ap (λ l. s ∷ (front ++ l)) (sym (resited_nothing row back))
skip row (x ∷ xs) (s ∷ front) back none =
    ap (λ t. cond t (moved s x ∷ resited row xs (front ++ back)) (s ∷ resited row (x ∷ xs) (front ++ back))) none.0 ∙ ap (λ l. s ∷ l) (skip row (x ∷ xs) front back none.1)

-- seats on the row are moved, as many as there are sites
along : (row : Row) (sites : List ℕ) (middle back : List Seat) → AllByRecursion (λ s. on_row row s ≡ true) middle → length sites ≡ length middle → resited row sites (middle ++ back) ≡ moved_all sites middle ++ back
along row [] [] back on each = resited_nothing row back
along row [] (s ∷ middle) back on each = absurd (omega arith)
along row (x ∷ xs) [] back on each = absurd (omega arith)
along row (x ∷ xs) (s ∷ middle) back on each =
    ap (λ t. cond t (moved s x ∷ resited row xs (middle ++ back)) (s ∷ resited row (x ∷ xs) (middle ++ back))) on.0 ∙ ap (λ l. moved s x ∷ l) (along row xs middle back on.1 (omega arith))

-- the seats of a row, which are one stretch, moved to sites leave the seats with that row's sites rewritten
pub stretch_resited : (row : Row) (sites : List ℕ) (seats : List Seat) (r : Range ℕ) → Spanned row seats r → length sites ≡ length (cells_on row seats) →
    put_mid r.start (r.end - r.start) seats (moved_all sites (between r.start r.end seats)) ≡ resited row sites seats
stretch_resited row sites seats r own each =
    let first = own.first in
    let on = subst (AllByRecursion (λ s. on_row row s ≡ true)) (sym own.seats_are) (kept_by_passes (on_row row) seats) in
    let long : length (cells_on row seats) ≡ length (between r.start r.end seats) = length-map (seats_on row seats) cell_of ∙ sym (ap length own.seats_are) in
    let middle : List Seat = between r.start r.end seats in
    let back : List Seat = drop (r.end - r.start) (drop r.start seats) in
    let parts : take r.start seats ++ (middle ++ back) ≡ seats =
    ap (λ l. take r.start seats ++ l) (take-append-drop (r.end - r.start) (drop r.start seats)) ∙ take-append-drop r.start seats in
    ap (λ l. take r.start seats ++ l) (sym (along row sites middle back on (each ∙ long))) ∙ sym (skip row sites (take r.start seats) (middle ++ back) own.none_before) ∙ ap (resited row sites) parts

-- the same as it is written into the table, through a slice of it
pub written_resited : (row : Row) (sites : List ℕ) (seats slice moved : List Seat) (r : Range ℕ) (n : ℕ) → Spanned row seats r → length sites ≡ length (cells_on row seats) → slice ≡ seats → moved ≡ moved_all sites (between r.start r.end slice) → n ≡ length seats →
    take n (put_mid r.start (r.end - r.start) slice moved ++ drop (length (put_mid r.start (r.end - r.start) slice moved)) seats) ≡ resited row sites seats
written_resited row sites seats slice moved r n own each same is long =
    let whole : List Seat = put_mid r.start (r.end - r.start) slice moved in
    let done : whole ≡ resited row sites seats =
    (λ i. put_mid r.start (r.end - r.start) (same i) (is i))
    ∙ ap (λ l. put_mid r.start (r.end - r.start) seats (moved_all sites (between r.start r.end l))) same ∙ stretch_resited row sites seats r own each in
    let all : length whole ≡ n = ap length done ∙ resited_length row sites seats ∙ sym long in
    take_at whole (drop (length whole) seats) n all ∙ done
