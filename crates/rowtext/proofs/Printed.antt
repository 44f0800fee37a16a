-- The lines of cells, one after another.
use Rattle.std.proofs.Common.{◌≡◌, ℕ, ◌≤◌, ◌⊎◌, List, [], ◌∷◌, ◌++◌, sym, refl, ap, ◌∙◌, inl, inr, append-nil}
use Rattle.row.specs.declared.Cell.{Cell}
use Rattle.rowtext.specs.Shown.{cell_lines}

no_sites : (cells : List Cell) → cell_lines cells [] ≡ []
no_sites [] = refl
no_sites (c ∷ cells) = refl

no_lines : (cells : List Cell) (sites : List ℕ) → (cells ≡ []) ⊎ (sites ≡ []) → cell_lines cells sites ≡ []
no_lines cells sites (inl e) = ap (λ cs. cell_lines cs sites) e
no_lines cells sites (inr e) = ap (cell_lines cells) e ∙ no_sites cells

-- where no cell or no site is left, no line is
pub lines_done : (text : List ℕ) (cells : List Cell) (sites : List ℕ) → (cells ≡ []) ⊎ (sites ≡ []) → text ≡ text ++ cell_lines cells sites
lines_done text cells sites none = sym (ap (λ ls. text ++ ls) (no_lines cells sites none) ∙ append-nil text)

-- lines that are put one by one: those that are put and those to come are all, and the buffer's room
pub record Putting (before all said : List ℕ) (cells : List Cell) (sites : List ℕ) (capacity_before capacity : ℕ) : Type 0 where
  pub put : said ++ cell_lines cells sites ≡ before ++ all
  pub room : capacity_before ≤ capacity
