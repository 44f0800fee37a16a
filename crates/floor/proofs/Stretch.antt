-- The seats of a row are one stretch of an ordered table.
use Rattle.std.proofs.Common.{◌≡◌, ℕ, ◌+◌, ◌-◌, ◌≤◌, Bool, true, false, List, [], ◌∷◌, ◌++◌, map, length, take, drop, sym, refl, ap, ◌∙◌, subst, append_assoc, one-add, ⊎_elim, arith}
use mathlib.Core.List.{map-append}
use Rattle.std.proofs.ByRecursion.{All-weaker, all_kept_by}
use Rattle.std.proofs.lemmas.Bool.{cond_both, cond-true, cond-false, both_ways, cases_Bool}
use Rattle.std.proofs.lemmas.List.Sums.{length-filter, count_by-le-length, prefix_len-le-length, take_while-cons}
use Rattle.std.proofs.lemmas.List.{length-drop}
use Rattle.std.specs.List.{prefix_len, take_while, AllByRecursion}
use Rattle.std.specs.declared.ops.Range.{Range}
use Rattle.row.specs.Records.{row_ahead}
use Rattle.row.specs.declared.Cell.{Cell}
use Rattle.row.specs.declared.Row.{Row}
use Rattle.table.specs.Order.{Ordered, rank_of}
use Rattle.table.proofs.Inserted.{put_in, inserted_is}
use Rattle.table.proofs.Sides.{rank_within, rank_front, rank_back}
use Rattle.floor.specs.Seats.{on_row, seat_ahead, seats_on, cells_on, cell_of, Sited, row_key, new_seat, joined}
use Rattle.floor.specs.Spans.{Spanned}
use Rattle.floor.specs.declared.Seat.{Seat}
use Rattle.floor.proofs.Defaults.{no_seat}
use Rattle.floor.proofs.Kept.{kept_yes, kept_no, kept_none, kept_parts, kept_ordered, ordered_drop}
use Rattle.floor.proofs.Orders.{seat_chain}

-- a seat that is ahead of a row's key is not on the row
ahead_off : (row : Row) (s : Seat) → seat_ahead s (row_key row) ≡ true → on_row row s ≡ false
ahead_off row s e = grind arith

on_own : (row : Row) (cell : Cell) → on_row row (new_seat row cell) ≡ true
on_own row cell = grind arith

-- a seat on the row or on a later one
abbrev pub NotBefore : Row → Seat → Type 0
NotBefore row s = on_row row s ≡ false → row_ahead row s.row ≡ true

-- a seat that is not ahead of a row's key is on the row or on a later one
not_before : (row : Row) (s : Seat) → seat_ahead s (row_key row) ≡ false → NotBefore row s
not_before row s behind off = grind arith

-- a seat behind one of a later row is not on the row
later_off : (row : Row) (s t : Seat) → row_ahead row s.row ≡ true → seat_ahead s t ≡ true → on_row row t ≡ false
later_off row s t later first = grind arith

module _ (row : Row) where
  -- of seats in order, none on an earlier row, those of the row come first ..
  pub own_first : (seats : List Seat) → Ordered seat_ahead seats → AllByRecursion (NotBefore row) seats → take_while (on_row row) seats ≡ seats_on row seats
  own_first [] ordered from = refl
  own_first (s ∷ seats) ordered from =
      take_while-cons (on_row row) s seats
      ∙ cond_both (on_row row s) (s ∷ take_while (on_row row) seats) [] (λ l. l ≡ seats_on row (s ∷ seats))
      (λ on. ap (λ l. s ∷ l) (own_first seats ordered.1 from.1) ∙ sym (kept_yes (on_row row) s seats on))
      (λ off. sym (kept_none (on_row row) (s ∷ seats) (off, All-weaker (λ t. seat_ahead s t ≡ true) (λ t. on_row row t ≡ false) (λ t. later_off row s t (from.0 off)) seats ordered.0)))

  -- .. and none of those behind them is on it
  pub own_ends : (seats : List Seat) → Ordered seat_ahead seats → AllByRecursion (NotBefore row) seats → AllByRecursion (λ s. on_row row s ≡ false) (drop (prefix_len (on_row row) seats) seats)
  own_ends [] ordered from = tt
  own_ends (s ∷ seats) ordered from =
      cond_both (on_row row s) (1 + prefix_len (on_row row) seats) 0 (λ n. AllByRecursion (λ t. on_row row t ≡ false) (drop n (s ∷ seats)))
      (λ on. subst (λ n. AllByRecursion (λ t. on_row row t ≡ false) (drop n (s ∷ seats))) (sym (one-add (prefix_len (on_row row) seats))) (own_ends seats ordered.1 from.1))
      (λ off. (off, All-weaker (λ t. seat_ahead s t ≡ true) (λ t. on_row row t ≡ false) (λ t. later_off row s t (from.0 off)) seats ordered.0))

-- a stretch that begins where a search says, and is as long as the seats from there on are on the row
pub spanned : (row : Row) (seats : List Seat) (r : Range ℕ) {rest : List Seat} {long : ℕ} → Ordered seat_ahead seats → r.start ≡ rank_of seat_ahead seats (row_key row) → rest ≡ drop r.start seats → long ≡ prefix_len (on_row row) rest → r.end ≡ r.start + long → Spanned row seats r
spanned row seats r {rest} {long} ordered start rest_is long_is end =
    let key : Seat = row_key row in
    let low : ℕ = rank_of seat_ahead seats key in
    let behind : List Seat = drop low seats in
    let within = rank_within seat_ahead seat_chain key no_seat seats ordered in
    let count : long ≡ prefix_len (on_row row) behind = long_is ∙ ap (prefix_len (on_row row)) (rest_is ∙ ap (λ n. drop n seats) start) in
    let few = prefix_len-le-length (on_row row) behind in
    let left = length-drop low seats in
    let none = All-weaker (λ s. seat_ahead s key ≡ true) (λ s. on_row row s ≡ false) (ahead_off row) (take low seats) (rank_front seat_ahead seat_chain key no_seat seats ordered) in
    let from = All-weaker (λ s. seat_ahead s key ≡ false) (NotBefore row) (not_before row) behind (rank_back seat_ahead seat_chain key no_seat seats ordered) in
    let wide : r.end - r.start ≡ prefix_len (on_row row) behind = omega arith in
    record {
      first = omega arith;
      bound = omega arith;
      none_before = subst (λ n. AllByRecursion (λ s. on_row row s ≡ false) (take n seats)) (sym start) none;
      seats_are =
          (λ i. take (wide i) (drop (start i) seats))
          ∙ own_first row behind (ordered_drop seat_ahead low seats ordered) from
          ∙ sym (kept_parts (on_row row) low seats ∙ ap (λ l. l ++ seats_on row behind) (kept_none (on_row row) (take low seats) none));
    }

-- what is known of the seats of a row
pub on_sited : (row : Row) (seats slice : List Seat) → slice ≡ seats_on row seats → AllByRecursion Sited seats → AllByRecursion Sited slice
on_sited row seats slice same sited = subst (AllByRecursion Sited) (sym same) (all_kept_by (on_row row) Sited seats sited)

pub on_few : (row : Row) (seats slice : List Seat) → slice ≡ seats_on row seats → length slice ≤ length seats
on_few row seats slice same =
    let long = ap length same in
    let kept = length-filter (on_row row) seats in
    let few = count_by-le-length (on_row row) seats in
    omega arith

-- the seats of a row are in their order
pub on_ordered : (row : Row) (seats slice : List Seat) → slice ≡ seats_on row seats → Ordered seat_ahead seats → Ordered seat_ahead slice
on_ordered row seats slice same ordered = subst (Ordered seat_ahead) (sym same) (kept_ordered (on_row row) seat_ahead seats ordered)

-- a key that no record is ahead of goes first
put_first : {X : Type 0} (ahead : X → X → Bool) (k : X) (xs : List X) → AllByRecursion (λ x. ahead x k ≡ false) xs → put_in ahead k xs ≡ k ∷ xs
put_first ahead k [] h = refl
put_first ahead k (x ∷ xs) h = cond-false (ahead x k) (x ∷ put_in ahead k xs) (k ∷ x ∷ xs) h.0

-- a record that is not ahead of a key, with all that it is ahead of
behind_too : (k s : Seat) (seats : List Seat) → seat_ahead s k ≡ false → AllByRecursion (λ t. seat_ahead s t ≡ true) seats → AllByRecursion (λ t. seat_ahead t k ≡ false) seats
behind_too k s seats not all =
    All-weaker (λ t. seat_ahead s t ≡ true) (λ t. seat_ahead t k ≡ false) (λ t first. ⊎_elim (λ yes. absurd (both_ways (seat_ahead s k) not (seat_chain s t k first yes))) (λ no. no) (cases_Bool (seat_ahead t k))) seats all

-- a seat that joins an ordered table joins the seats of its row
pub put_on : (row : Row) (k : Seat) (seats : List Seat) → on_row row k ≡ true → Ordered seat_ahead seats → seats_on row (put_in seat_ahead k seats) ≡ put_in seat_ahead k (seats_on row seats)
put_on row k [] own ordered = kept_yes (on_row row) k [] own
put_on row k (s ∷ seats) own ordered =
    let rest = put_on row k seats own ordered.1 in
    cond_both (seat_ahead s k) (s ∷ put_in seat_ahead k seats) (k ∷ s ∷ seats) (λ l. seats_on row l ≡ put_in seat_ahead k (seats_on row (s ∷ seats)))
    (λ first.
    cond_both (on_row row s) (s ∷ seats_on row (put_in seat_ahead k seats)) (seats_on row (put_in seat_ahead k seats)) (λ l. l ≡ put_in seat_ahead k (seats_on row (s ∷ seats)))
    (λ on. ap (λ l. s ∷ l) rest ∙ sym (cond-true (seat_ahead s k) (s ∷ put_in seat_ahead k (seats_on row seats)) (k ∷ s ∷ seats_on row seats) first) ∙ ap (put_in seat_ahead k) (sym (kept_yes (on_row row) s seats on)))
    (λ off. rest ∙ ap (put_in seat_ahead k) (sym (kept_no (on_row row) s seats off))))
    (λ not.
    kept_yes (on_row row) k (s ∷ seats) own
    ∙ sym (put_first seat_ahead k (seats_on row (s ∷ seats)) (all_kept_by (on_row row) (λ t. seat_ahead t k ≡ false) (s ∷ seats) (not, behind_too k s seats not ordered.0))))

-- so does a cell
pub joined_own : (row : Row) (cell : Cell) (seats : List Seat) → Ordered seat_ahead seats → seats_on row (joined row cell seats) ≡ put_in seat_ahead (new_seat row cell) (seats_on row seats)
joined_own row cell seats ordered = ap (seats_on row) (inserted_is seat_ahead (new_seat row cell) seats) ∙ put_on row (new_seat row cell) seats (on_own row cell) ordered

-- the cells of a row with a cell more, as the program gathers them: the row's own seats are cut at the place that a search says
pub gathered_with : (row : Row) (cell : Cell) (seats : List Seat) {slice before behind : List Seat} {at : ℕ} {none front more all cells : List Cell} → Ordered seat_ahead seats → slice ≡ seats_on row seats → at ≡ rank_of seat_ahead slice (new_seat row cell) → before ≡ take at slice → behind ≡ drop at slice →
    none ≡ [] → front ≡ none ++ map cell_of before → more ≡ front ++ cell ∷ [] → all ≡ more ++ map cell_of behind → cells ≡ all → cells ≡ cells_on row (joined row cell seats)
gathered_with row cell seats {slice} {before} {behind} {at} ordered same is front_is back_is empty first then last whole =
    let k : Seat = new_seat row cell in
    let own : List Seat = seats_on row seats in
    let place : at ≡ rank_of seat_ahead own k = is ∙ ap (λ l. rank_of seat_ahead l k) same in
    let put : seats_on row (joined row cell seats) ≡ take (rank_of seat_ahead own k) own ++ k ∷ drop (rank_of seat_ahead own k) own =
    joined_own row cell seats ordered ∙ sym (inserted_is seat_ahead k own) in
    whole ∙ last
    ∙ ap (λ l. l ++ map cell_of behind) (then ∙ ap (λ l. l ++ cell ∷ []) (first ∙ ap (λ l. l ++ map cell_of before) empty))
    ∙ append_assoc (map cell_of before) (cell ∷ []) (map cell_of behind)
    ∙ (λ i. map cell_of (front_is i) ++ cell ∷ map cell_of (back_is i))
    ∙ (λ i. map cell_of (take (place i) (same i)) ++ cell ∷ map cell_of (drop (place i) (same i)))
    ∙ sym (ap (map cell_of) put ∙ map-append cell_of (take (rank_of seat_ahead own k) own) (k ∷ drop (rank_of seat_ahead own k) own))
