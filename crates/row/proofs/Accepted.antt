-- What `set` accepts: a row and cells within their ranges, cells in wanted order that fit the row.
use Rattle.std.proofs.Common.{◌≡◌, ℕ, ◌+◌, ◌-◌, ◌≤◌, true, List, [], ◌∷◌, length, Some, None, Option, refl, arith}
use Rattle.std.proofs.ByRecursion.{All-weaker}
use Rattle.std.proofs.lemmas.Bool.{and_parts, leb-true, eqb-true}
use Rattle.std.specs.Option.{option_map}
use Rattle.std.specs.List.{AllByRecursion}
use Rattle.row.specs.Records.{then, before, widths}
use Rattle.row.specs.Refusals.{cells_refusal, set_refusal}
use Rattle.row.specs.Settings.{EveryPair}
use Rattle.row.specs.Stack.{Passes, Ready}
use Rattle.row.specs.declared.Cell.{Cell}
use Rattle.row.specs.declared.Row.{Row}
use Rattle.row.proofs.Ranges.{passed, RangedRow, ranged_row}

-- two lots of checks that let pass
pub both : {E : Type 0} (some others : Option E) → then some others ≡ None → (some ≡ None) × (others ≡ None)
both None others e = (refl, e)
both (Some failure) others e = let never : ◌≡◌ {A = ℕ} 0 1 = cc in absurd (omega arith)

pub unmapped : {X E : Type 0} (f : X → E) (o : Option X) → option_map f o ≡ None → o ≡ None
unmapped f None e = refl
unmapped f (Some x) e = let never : ◌≡◌ {A = ℕ} 0 1 = cc in absurd (omega arith)

-- wanted order is transitive, and holds one way only
pub before_trans : (a b c : Cell) → before a b ≡ true → before b c ≡ true → before a c ≡ true
before_trans a b c p q = grind arith

pub before_once : (a b : Cell) → before a b ≡ true → before b a ≡ true → ⊥
before_once a b p q = grind arith

-- a cell before all others of a list
abbrev Ahead : Cell → List Cell → Type 0
Ahead c cs = AllByRecursion (λ d. before c d ≡ true) cs

-- cells that each come after the one before them
ordered : (last : Cell) (cs : List Cell) → cells_refusal (Some last) cs ≡ None → AllByRecursion Passes cs × Ahead last cs × EveryPair (λ c d. before c d ≡ true) cs
ordered last [] e = (tt, tt, tt)
ordered last (c ∷ cs) e =
    let parts = both _ _ e in
    let own = both _ _ parts.0 in
    let after : before last c ≡ true = (passed _ _ _ own.1).0 in
    let others = ordered c cs parts.1 in (
      (unmapped _ _ own.0, others.0),
      (after, All-weaker (λ d. before c d ≡ true) (λ d. before last d ≡ true) (λ d next. before_trans last c d after next) cs others.1),
      (others.1, others.2),
    )

all_ordered : (cs : List Cell) → cells_refusal None cs ≡ None → AllByRecursion Passes cs × EveryPair (λ c d. before c d ≡ true) cs
all_ordered [] e = (tt, tt)
all_ordered (c ∷ cs) e =
    let parts = both _ _ e in
    let own = both _ _ parts.0 in
    let others = ordered c cs parts.1 in
    ((unmapped _ _ own.0, others.0), (others.1, others.2))

-- what is known where `set` refuses nothing
pub record Accepted (row : Row) (cells : List Cell) (count : ℕ) : Type 0 where
  pub ranged : RangedRow row
  pub few : length cells ≤ 1024
  pub each : count ≡ length cells
  pub pass : AllByRecursion Passes cells
  pub order : EveryPair (λ c d. before c d ≡ true) cells
  pub room : row.left + widths cells ≤ row.right

pub accepted : (row : Row) (cells : List Cell) (count : ℕ) → set_refusal row cells count ≡ None → Accepted row cells count
accepted row cells count e =
    let row_first = both _ _ e in
    let sizes = passed _ _ _ row_first.1 in
    let by_cell = both _ _ sizes.1 in
    let wide = passed _ _ _ by_cell.1 in
    let r = ranged_row row (unmapped _ _ row_first.0) in
    let size = and_parts _ _ sizes.0 in
    let cs = all_ordered cells by_cell.0 in
    let fit : widths cells ≤ row.right - row.left = leb-true _ _ wide.0 in
    let low = r.some in
    record {
      ranged = r;
      few = leb-true _ _ size.0;
      each = eqb-true _ _ size.1;
      pass = cs.0;
      order = cs.1;
      room = omega arith;
    }

-- of a row and its cells that are ready
pub ready_known : (row : Row) (cells : List Cell) → Ready row cells → Accepted row cells (length cells)
ready_known row cells ready = accepted row cells (length cells) ready

-- what the sites of a row need of it and of its cells, however many they are
pub record Fitting (row : Row) (cells : List Cell) : Type 0 where
  pub ranged : RangedRow row
  pub pass : AllByRecursion Passes cells
  pub order : EveryPair (λ c d. before c d ≡ true) cells
  pub room : row.left + widths cells ≤ row.right

-- `set` accepts nothing else
pub accepted_fitting : (row : Row) (cells : List Cell) (count : ℕ) → Accepted row cells count → Fitting row cells
accepted_fitting row cells count a = record { ranged = a.ranged; pass = a.pass; order = a.order; room = a.room }

pub ready_fitting : (row : Row) (cells : List Cell) → Ready row cells → Fitting row cells
ready_fitting row cells ready = accepted_fitting row cells (length cells) (ready_known row cells ready)
