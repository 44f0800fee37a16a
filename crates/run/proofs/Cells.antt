-- The lines of cells: what is answered for one, and one more after those before it.
use Rattle.std.proofs.Common.{◌≡◌, ℕ, ◌+◌, ◌<◌, ◌≤◌, Bool, true, false, cond, List, [], ◌∷◌, ◌++◌, length, get_or, take, slice_get, Some, None, Ok, Err, Option, refl, sym, ap, ◌∙◌, ⊎_elim, arith}
use Rattle.std.proofs.lemmas.Bool.{le-leb}
use Rattle.std.proofs.lemmas.List.{flat_map_more, take_more}
use Rattle.std.proofs.lemmas.Option.{slice_get_cases, slice_get_within, slice_get-get_or}
use Rattle.std.proofs.Math.Seq.{take-append_seam}
use Rattle.floor.specs.declared.Seat.{Seat}
use Rattle.lines.specs.Writes.{short_buffer, takes_lines}
use Rattle.floor.specs.Tables.{Tables}
use Rattle.run.specs.Steps.{seat_text, seat_answer, seat_buffer, cell_answer, cell_buffer}
use Rattle.run.specs.Texts.{cell_lines}
use Rattle.run.specs.declared.run.looks.NoLine.{NoLine}
use Rattle.run.specs.declared.run.looks.NoLine.TheVariants.{ShortBuffer}

-- the lines of one cell more
pub cells_more : (before : List ℕ) (seats : List Seat) (k : ℕ) (s : Seat) → slice_get seats k ≡ Some s → (before ++ cell_lines (take k seats)) ++ seat_text s ≡ before ++ cell_lines (take (k + 1) seats)
cells_more before seats k s is =
    let within : k < length seats = slice_get_within seats k s is in
    let at : Some (get_or seats k s) ≡ Some s = sym (slice_get-get_or seats k s within) ∙ is in
    let here : get_or seats k s ≡ s = cc in
    flat_map_more seat_text before (take k seats) s
    ∙ ap (λ xs. before ++ cell_lines xs) (ap (λ x. take k seats ++ (x ∷ [])) (sym here) ∙ sym (take_more seats k s within))

taken_by : (buffer : List ℕ) (n : ℕ) (b : Bool) (o : Option Seat) → b ≡ true → Ok n ≡ cond b (seat_answer o) (Err (ShortBuffer short_buffer)) → (s : Seat) × (o ≡ Some s) × (take n (cond b (seat_buffer buffer o) buffer) ≡ seat_text s)
taken_by buffer n true None e answer = absurd (cc)
taken_by buffer n true (Some s) e answer = let is : n ≡ length (seat_text s) = cc in (s, refl, rw is (take-append_seam _ _))
taken_by buffer n false o e answer = absurd (cc)

-- the line that was written is that of the k-th cell
pub cell_taken : (t : Tables) (k n : ℕ) (buffer : List ℕ) → length buffer ≡ 320 → Ok n ≡ cell_answer t k buffer → (s : Seat) × (slice_get t.seats k ≡ Some s) × (take n (cell_buffer t k buffer) ≡ seat_text s)
cell_taken t k n buffer size answer = taken_by buffer n (takes_lines buffer) (slice_get t.seats k) (le-leb 320 (length buffer) (omega arith)) answer

none_by : (why : NoLine) (b : Bool) (o : Option Seat) → b ≡ true → Err why ≡ cond b (seat_answer o) (Err (ShortBuffer short_buffer)) → o ≡ None
none_by why true None e answer = refl
none_by why true (Some s) e answer = absurd (cc)
none_by why false o e answer = absurd (cc)

-- where there is no line, there are no more cells
pub no_cell : (t : Tables) (k : ℕ) (why : NoLine) (buffer : List ℕ) → length buffer ≡ 320 → Err why ≡ cell_answer t k buffer → length t.seats ≤ k
no_cell t k why buffer size answer =
    let none = none_by why (takes_lines buffer) (slice_get t.seats k) (le-leb 320 (length buffer) (omega arith)) answer in
    ⊎_elim (λ some. absurd (let is = some.2 in cc)) (λ past. past.0) (slice_get_cases t.seats k).1
