-- What the checks say of a cell and a row that they let pass.
use Rattle.std.proofs.Common.{◌≡◌, ℕ, ◌<◌, ◌≤◌, Bool, true, false, None, Option, arith}
use Rattle.std.proofs.lemmas.Bool.{and_parts, leb-true, ltb-true}
use Rattle.row.specs.Records.{check, row_fault}
use Rattle.row.specs.Stack.{Passes}
use Rattle.row.specs.declared.Cell.{Cell}
use Rattle.row.specs.declared.Row.{Row}

-- a check that lets pass: its test is true, and the checks after it let pass
pub passed : {E : Type 0} (test : Bool) (failure : E) (others : Option E) → check test failure others ≡ None → (test ≡ true) × (others ≡ None)
passed true failure others e = (mathlib.Core.Path.refl, e)
passed false failure others e = let never : ◌≡◌ {A = ℕ} 0 1 = cc in absurd (omega arith)

-- the fields of a cell within their ranges
pub record Ranged (c : Cell) : Type 0 where
  pub site : c.wanted.site ≤ 65535
  pub line : c.wanted.line ≤ 4095
  pub some_width : 1 ≤ c.width
  pub width : c.width ≤ 1000
  pub some_weight : 1 ≤ c.weight
  pub weight : c.weight ≤ 1000
  pub number : c.number ≤ 65535

pub ranged : (c : Cell) → Passes c → Ranged c
ranged c e =
    let wanted = passed _ _ _ e in
    let width = passed _ _ _ wanted.1 in
    let weight = passed _ _ _ width.1 in
    let number = passed _ _ _ weight.1 in
    let w = and_parts _ _ wanted.0 in
    let b = and_parts _ _ width.0 in
    let e = and_parts _ _ weight.0 in
    record {
      site = leb-true _ _ w.0;
      line = leb-true _ _ w.1;
      some_width = leb-true _ _ b.0;
      width = leb-true _ _ b.1;
      some_weight = leb-true _ _ e.0;
      weight = leb-true _ _ e.1;
      number = leb-true _ _ number.0;
    }

-- the fields of a row within their ranges
pub record RangedRow (r : Row) : Type 0 where
  pub line : r.line ≤ 4095
  pub some : r.left < r.right
  pub right : r.right ≤ 65535

pub ranged_row : (r : Row) → row_fault r ≡ None → RangedRow r
ranged_row r e =
    let tests = and_parts _ _ (passed _ _ _ e).0 in
    let sides = and_parts _ _ tests.1 in
    record { line = leb-true _ _ tests.0; some = ltb-true _ _ sides.0; right = leb-true _ _ sides.1 }
