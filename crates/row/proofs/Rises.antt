-- What one step of a cell that is within its ranges costs, under a fair measure.
use Rattle.std.proofs.Common.{◌≡◌, ℕ, ◌+◌, ◌^◌, ◌<◌, ◌≤◌, Bool, true, List, [], ◌∷◌, length, get_or, drop, ℤ, pos, ◌+ℤ◌, neg_ℤ, ◌≤ℤ◌, sym, ap, ◌∙◌, arith, w64, to_z, of_z}
use lib.Signed.{le_z, mag}
use Rattle.std.proofs.ByRecursion.{All-get_or}
use Rattle.std.proofs.lemmas.List.{at_drop_more}
use Rattle.std.proofs.lemmas.Int.{ints, to_z-of_z}
use Rattle.std.specs.List.{AllByRecursion}
use Rattle.measure.specs.Costs.{Fair, InRange, Price, step_of}
use Rattle.row.specs.Records.{widths}
use Rattle.row.specs.Sites.{cluster_rise, climbs}
use Rattle.row.specs.Stack.{Passes, Ready}
use Rattle.row.specs.declared.Cell.{Cell}
use Rattle.row.specs.declared.Row.{Row}
use Rattle.row.proofs.Accepted.{ready_known}
use Rattle.row.proofs.Defaults.{no_cell}
use Rattle.row.proofs.Ranges.{Ranged, ranged}

-- a cell at a place within the ranges
pub in_ranges : (c : Cell) (p : ℕ) → Passes c → p ≤ 65535 → InRange c.wanted.site c.weight p
in_ranges c p passes low = let r = ranged c passes in omega arith

-- its step is at most 2^42 either way
pub step_bounds : {f : Price} → Fair f → (c : Cell) (p : ℕ) → Passes c → p < 65535 → (neg_ℤ (pos (2 ^ 42)) ≤ℤ step_of f c.wanted.site c.weight p) × (step_of f c.wanted.site c.weight p ≤ℤ pos (2 ^ 42))
step_bounds {f} fair c p passes low =
    let here = fair.bounded c.wanted.site c.weight p (in_ranges c p passes (omega arith)) in
    let there = fair.bounded c.wanted.site c.weight (p + 1) (in_ranges c (p + 1) passes (omega arith)) in
    (omega (arith, ints), omega (arith, ints))

-- Facts of one turn of a loop over cells, at the cell with index i.
module _ (cells : List Cell) (i : ℕ) (within : i < length cells) where
  -- the cell's own checks let it pass, in a row that is not refused
  pub passes_at : (row : Row) → Ready row cells → Passes (get_or cells i no_cell)
  passes_at row ready = All-get_or Passes cells i no_cell within (ready_known row cells ready).pass

  -- so it is within its ranges
  pub ranged_at : (row : Row) → Ready row cells → Ranged (get_or cells i no_cell)
  ranged_at row ready = ranged (get_or cells i no_cell) (passes_at row ready)

  -- the widths that are left, one cell on
  pub widths_more : widths (drop i cells) ≡ (get_or cells i no_cell).width + widths (drop (i + 1) cells)
  widths_more = at_drop_more widths cells i no_cell within

  -- the rise of what is left, one cell on
  pub rise_more : (f : Price) (x : ℕ) → cluster_rise f (drop i cells) x ≡ step_of f (get_or cells i no_cell).wanted.site (get_or cells i no_cell).weight x +ℤ cluster_rise f (drop (i + 1) cells) (x + (get_or cells i no_cell).width)
  rise_more f x = at_drop_more (λ cs. cluster_rise f cs x) cells i no_cell within

  -- few cells, and the bounds of the cell's step at a site from which what is left fits the places
  pub record Stepped (f : Price) (x : ℕ) : Type 0 where
    pub few : length cells ≤ 1024
    pub low : neg_ℤ (pos (2 ^ 42)) ≤ℤ step_of f (get_or cells i no_cell).wanted.site (get_or cells i no_cell).weight x
    pub high : step_of f (get_or cells i no_cell).wanted.site (get_or cells i no_cell).weight x ≤ℤ pos (2 ^ 42)

  pub stepped : {f : Price} → Fair f → (row : Row) → Ready row cells → (x : ℕ) → x + widths (drop i cells) ≤ 65535 → Stepped f x
  stepped fair row ready x inside =
      let r = ranged_at row ready in
      let more = widths_more in
      let bounds = step_bounds fair (get_or cells i no_cell) x (passes_at row ready) (omega arith) in
      record { few = (ready_known row cells ready).few; low = bounds.0; high = bounds.1 }

-- the rise of abutting cells never falls as they go right
pub rise_mono : {f : Price} → Fair f → (cs : List Cell) (t u : ℕ) → AllByRecursion Passes cs → t ≤ u → u + widths cs ≤ 65535 → cluster_rise f cs t ≤ℤ cluster_rise f cs u
rise_mono fair [] t u passed up inside = omega (arith, ints)
rise_mono {f} fair (c ∷ cs) t u passed up inside =
    let r = ranged c passed.0 in
    let first = fair.bends c.wanted.site c.weight t u up (in_ranges c (u + 1) passed.0 (omega arith)) in
    let others = rise_mono fair cs (t + c.width) (u + c.width) passed.1 (omega arith) (omega arith) in
    omega (arith, ints)

-- so what climbs goes on to climb
pub climbs_on : {f : Price} → Fair f → (cs : List Cell) (t u : ℕ) → AllByRecursion Passes cs → t ≤ u → u + widths cs ≤ 65535 → climbs f cs t ≡ true → climbs f cs u ≡ true
climbs_on fair cs t u passed up inside at_t = let more = rise_mono fair cs t u passed up inside in grind (arith, ints)

-- a test of a signed value that was returned is a test of the value
pub tested : (r z : ℤ) (b : Bool) → mag r < 9223372036854775808 → r ≡ z → le_z (pos 0) (to_z w64 (of_z w64 r)) ≡ b → le_z (pos 0) z ≡ b
tested r z b fits is test =
    let same : to_z w64 (of_z w64 r) ≡ r = to_z-of_z w64 r (record { sfits = fits }) in
    sym (ap (le_z (pos 0)) (same ∙ is)) ∙ test
