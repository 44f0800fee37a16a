-- Parts of a list of cells, from one place up to another.
use Rattle.std.proofs.Common.{◌≡◌, ℕ, zero, suc, ◌+◌, ◌-◌, ◌<◌, ◌≤◌, Bool, true, List, [], ◌∷◌, ◌++◌, length, get_or, take, drop, Some, None, Option, sym, refl, ap, ◌∙◌, eq-eqb, take-add, arith}
use Rattle.std.proofs.lemmas.Bool.{and_from, le-leb}
use Rattle.std.proofs.lemmas.List.Edits.{between_none, between_more}
use Rattle.std.proofs.ByRecursion.{All-take, All-drop}
use Rattle.std.proofs.lemmas.List.{take-append-drop, drop-drop, length-take, length-drop}
use Rattle.std.specs.List.{between, AllByRecursion}
use Rattle.std.specs.Option.{option_map}
use Rattle.row.specs.Records.{check, then, cell_fault, before, widths}
use Rattle.row.specs.Refusals.{next_refusal, cells_refusal}
use Rattle.row.specs.Stack.{Passes, Ready, Follows, part}
use Rattle.row.specs.declared.Cell.{Cell}
use Rattle.row.specs.declared.Refusal.TheVariants.{OutOfRange, Order}
use Rattle.row.specs.declared.Row.{Row}
use Rattle.row.specs.declared.cluster.Cluster.{Cluster as Run}
use Rattle.row.proofs.Accepted.{both, Accepted, ready_known}
use Rattle.row.proofs.Defaults.{no_cell}
use Rattle.row.proofs.Ranges.{passed}

-- two parts that follow one another
pub between_join : {X : Type 0} (xs : List X) (a b c : ℕ) → a ≤ b → b ≤ c → between a b xs ++ between b c xs ≡ between a c xs
between_join xs a b c low high =
    let there : drop (b - a) (drop a xs) ≡ drop b xs = drop-drop (b - a) a xs ∙ ap (λ n. drop n xs) (omega arith) in
    sym (ap (λ n. take n (drop a xs)) (omega arith) ∙ take-add (b - a) (c - b) (drop a xs) ∙ ap (λ l. between a b xs ++ take (c - b) l) there)

-- a front part and the part that follows it
pub take_join : {X : Type 0} (xs : List X) (b c : ℕ) → b ≤ c → take b xs ++ between b c xs ≡ take c xs
take_join xs b c high = sym (ap (λ n. take n xs) (omega arith) ∙ take-add b (c - b) xs)

-- a part of one element
pub between_one : {X : Type 0} (xs : List X) (i : ℕ) (d : X) → i < length xs → between i (i + 1) xs ≡ get_or xs i d ∷ []
between_one xs i d within =
    let none = between_none xs i in
    between_more xs i i d (omega arith) within ∙ ap (λ l. l ++ get_or xs i d ∷ []) none

pub widths-append : (xs ys : List Cell) → widths (xs ++ ys) ≡ widths xs + widths ys
widths-append [] ys = omega arith
widths-append (x ∷ xs) ys = let more = widths-append xs ys in omega arith

pub widths-take : (n : ℕ) (xs : List Cell) → widths (take n xs) ≤ widths xs
widths-take n xs = let cut = sym (widths-append (take n xs) (drop n xs)) ∙ ap widths (take-append-drop n xs) in omega arith

widths-drop : (n : ℕ) (xs : List Cell) → widths (drop n xs) ≤ widths xs
widths-drop n xs = let cut = sym (widths-append (take n xs) (drop n xs)) ∙ ap widths (take-append-drop n xs) in omega arith

pub widths-between : (xs : List Cell) (a b : ℕ) → widths (between a b xs) ≤ widths xs
widths-between xs a b =
    let front = widths-take (b - a) (drop a xs) in
    let back = widths-drop a xs in
    omega arith

-- what is known of a part of cells that `set` accepts
pub record PartKnown (row : Row) (cs : List Cell) : Type 0 where
  pub few : length cs ≤ 1024
  pub pass : AllByRecursion Passes cs
  pub room : row.left + widths cs ≤ row.right
  pub right : row.right ≤ 65535

pub part_known : {row : Row} {cells : List Cell} {count : ℕ} → Accepted row cells count → (a b : ℕ) → PartKnown row (between a b cells)
part_known {row} {cells} {count} accepted a b =
    let short = length-take (b - a) (drop a cells) in
    let rest = length-drop a cells in
    let wide = widths-between cells a b in
    record {
      few = omega (arith, accepted.few);
      pass = All-take Passes (b - a) (drop a cells) (All-drop Passes a cells accepted.pass);
      room = omega (arith, accepted.room);
      right = accepted.ranged.right;
    }

-- two lots of checks that both let pass
neither : {E : Type 0} (some others : Option E) → some ≡ None → others ≡ None → then some others ≡ None
neither some others a b = ap (λ o. then o others) a ∙ b

-- a check whose test is true lets pass what those after it do
let_pass : {E : Type 0} (test : Bool) (failure : E) (others : Option E) → test ≡ true → others ≡ None → check test failure others ≡ None
let_pass test failure others test_true e = ap (λ b. check b failure others) test_true ∙ e

-- cells that come after another are not refused without it
without : (last : Cell) (cs : List Cell) → cells_refusal (Some last) cs ≡ None → cells_refusal None cs ≡ None
without last [] e = refl
without last (c ∷ cs) e =
    let parts = both (next_refusal (Some last) c) (cells_refusal (Some c) cs) e in
    let own = both (option_map OutOfRange (cell_fault c)) (check (before last c) Order None) parts.0 in
    neither (next_refusal None c) (cells_refusal (Some c) cs) (neither (option_map OutOfRange (cell_fault c)) None own.0 refl) parts.1

-- nor are the first of them, nor those behind the first
taken : (last : Option Cell) (n : ℕ) (cs : List Cell) → cells_refusal last cs ≡ None → cells_refusal last (take n cs) ≡ None
taken last zero cs e = refl
taken last (suc n) [] e = refl
taken last (suc n) (c ∷ cs) e = let parts = both _ _ e in neither _ _ parts.0 (taken (Some c) n cs parts.1)

dropped : (n : ℕ) (cs : List Cell) → cells_refusal None cs ≡ None → cells_refusal None (drop n cs) ≡ None
dropped zero cs e = e
dropped (suc n) [] e = refl
dropped (suc n) (c ∷ cs) e = dropped n cs (without c cs (both _ _ e).1)

-- so a part of the cells of a row that is not refused is not refused either
pub part_ready : (row : Row) (cells : List Cell) (a b : ℕ) → Ready row cells → Ready row (between a b cells)
part_ready row cells a b ready =
    let row_first = both _ _ ready in
    let sizes = passed _ _ _ row_first.1 in
    let by_cell = both _ _ sizes.1 in
    let known = part_known (ready_known row cells ready) a b in
    neither _ _ row_first.0
    (let_pass _ _ _ (and_from _ _ (le-leb _ _ known.few) (eq-eqb _ _ refl))
    (neither _ _ (taken None (b - a) (drop a cells) (dropped a cells by_cell.0))
    (let_pass _ _ _ (le-leb _ _ (let room = known.room in omega arith)) refl)))

-- two runs that follow one another cover a part, and together its width
pub part_joined : {cells : List Cell} {b k : Run} → Follows cells b k → part cells b ++ part cells k ≡ between b.first k.past cells
part_joined {cells} {b} {k} h =
    let one = h.one in
    let two = h.two in
    let seam : part cells b ≡ between b.first k.first cells = ap (λ n. between b.first n cells) one.ends in
    let low : b.first ≤ k.first = omega arith in
    let high : k.first ≤ k.past = omega arith in
    ap (λ l. l ++ part cells k) seam ∙ between_join cells b.first k.first k.past low high

widths_joined : {cells : List Cell} {b k : Run} → Follows cells b k → b.width + k.width ≡ widths (between b.first k.past cells)
widths_joined {cells} {b} {k} h =
    let one = h.one.wide in
    let two = h.two.wide in
    let sum = widths-append (part cells b) (part cells k) in
    let whole = ap widths (part_joined h) in
    omega arith

-- what is known of one cell as a part, and of two runs as one
pub one_known : (row : Row) (cells : List Cell) (i : ℕ) → Ready row cells → i < length cells → PartKnown row (between i (i + 1) cells) × (widths (between i (i + 1) cells) ≡ (get_or cells i no_cell).width)
one_known row cells i ready within =
    let one = ap widths (between_one cells i no_cell within) in
    (part_known (ready_known row cells ready) i (i + 1), omega arith)

pub pair_known : (row : Row) (cells : List Cell) {b k : Run} → Ready row cells → Follows cells b k → PartKnown row (between b.first k.past cells) × (b.width + k.width ≡ widths (between b.first k.past cells))
pair_known row cells {b} {k} ready follows = (part_known (ready_known row cells ready) b.first k.past, widths_joined follows)
