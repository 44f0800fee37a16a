-- The setting of a row in the words of its users: settings are legal chains of the theory, so the row's sites are the cheapest setting.
use Rattle.std.proofs.Common.{◌≡◌, ℕ, suc, ◌+◌, ◌<◌, ◌≤◌, true, List, [], ◌∷◌, length, sym, refl, ap, subst, ⊎_elim, arith}
use Rattle.std.proofs.ByRecursion.{All-weaker}
use Rattle.std.proofs.lemmas.Bool.{cases_lt}
use Rattle.std.specs.List.{AllZip, AllByRecursion}
use Rattle.measure.specs.Costs.{Fair, Price}
use Rattle.row.specs.Records.{before}
use Rattle.row.specs.Settings.{Placed, placed, EveryPair, Within, Clear, Legal, Rising, InWantedOrder, Setting, Cheapest}
use Rattle.row.specs.Sites.{best_site, row_sites}
use Rattle.row.specs.Stack.{Passes}
use Rattle.row.specs.declared.Cell.{Cell}
use Rattle.row.specs.declared.Row.{Row}
use Rattle.row.proofs.Accepted.{Accepted, Fitting, accepted_fitting, before_once}
use Rattle.row.proofs.Instance.{lane, tight, next_is, span_is, cost_is, best_is, all_bend, sites_are}
use Rattle.row.proofs.Ranges.{ranged}
use Rattle.row.proofs.Theory.Packed.{Lane, next, Chain, NotRight, span}
use Rattle.row.proofs.Theory.Cheapest.{Answer, settled_answer}

-- two facts of each element give a third
all_with : {X : Type 0} (P Q S : X → Type 0) → ((x : X) → P x → Q x → S x) → (xs : List X) → AllByRecursion P xs → AllByRecursion Q xs → AllByRecursion S xs
all_with P Q S give [] ps qs = tt
all_with P Q S give (x ∷ xs) ps qs = (give x ps.0 qs.0, all_with P Q S give xs ps.1 qs.1)

-- what holds of each cell holds of each placed cell
all_placed : (P : Cell → Type 0) (cs : List Cell) (ys : List ℕ) → AllByRecursion P cs → AllByRecursion (λ p. P p.cell) (placed cs ys)
all_placed P [] ys ps = tt
all_placed P (c ∷ cs) [] ps = tt
all_placed P (c ∷ cs) (y ∷ ys) ps = (ps.0, all_placed P cs ys ps.1)

-- a cell is wide where it passed its checks
pub wide : (c : Cell) → Passes c → 1 ≤ c.width
wide c passes = (ranged c passes).some_width

-- of two cells, what a chain says of them: the second starts at or after the end of the first
pub clear_after : (p q : Placed) → p.site + p.cell.width ≤ q.site → Clear p q
clear_after p q h s on_p on_q = omega arith

pub rising_after : (p q : Placed) → 1 ≤ p.cell.width → p.site + p.cell.width ≤ q.site → before p.cell q.cell ≡ true → Rising p q
rising_after p q some h first = (λ _. omega arith, λ second. absurd (before_once p.cell q.cell first second))

-- and back: two cells that share no site and rise
after_clear : (p q : Placed) → 1 ≤ q.cell.width → Clear p q → Rising p q → before p.cell q.cell ≡ true → p.site + p.cell.width ≤ q.site
after_clear p q some clear rising first =
    let up : p.site < q.site = rising.0 first in
    ⊎_elim (λ overlap. absurd (clear q.site (omega arith, overlap) (omega arith, omega arith))) (λ h. h) (cases_lt q.site (p.site + p.cell.width))

module _ (f : Price) (row : Row) where
  abbrev R : Lane Cell
  R = lane f row

  -- every site of a chain is at or after its start
  chain_from : (cs : List Cell) (ys : List ℕ) (lo : ℕ) → Chain R lo cs ys → AllByRecursion (λ p. lo ≤ p.site) (placed cs ys)
  chain_from [] ys lo chain = tt
  chain_from (c ∷ cs) [] lo chain = tt
  chain_from (c ∷ cs) (y ∷ ys) lo chain =
      let low = chain.0 in
      (low, All-weaker (λ p. y + next R c cs ≤ p.site) (λ p. lo ≤ p.site) (λ p h. omega arith) (placed cs ys) (chain_from cs ys (y + next R c cs) chain.2))

  chain_length : (cs : List Cell) (ys : List ℕ) (lo : ℕ) → Chain R lo cs ys → length ys ≡ length cs
  chain_length [] [] lo chain = refl
  chain_length [] (y ∷ ys) lo chain = absurd chain
  chain_length (c ∷ cs) [] lo chain = absurd chain
  chain_length (c ∷ cs) (y ∷ ys) lo chain = ap suc (chain_length cs ys (y + next R c cs) chain.2)

  -- a chain that starts in the row lies within it
  chain_within : (cs : List Cell) (ys : List ℕ) (lo : ℕ) → row.left ≤ lo → Chain R lo cs ys → AllByRecursion (Within row) (placed cs ys)
  chain_within [] ys lo low chain = tt
  chain_within (c ∷ cs) [] lo low chain = tt
  chain_within (c ∷ cs) (y ∷ ys) lo low chain =
      let from = chain.0 in
      ((omega arith, chain.1), chain_within cs ys (y + next R c cs) (omega arith) chain.2)

  -- what starts after the end of c
  ends : (c : Cell) (cs : List Cell) (y : ℕ) (ys : List ℕ) → Chain R (y + next R c cs) cs ys → AllByRecursion (λ q. y + c.width ≤ q.site) (placed cs ys)
  ends c cs y ys chain =
      let n = next_is f row c cs in
      All-weaker (λ q. y + next R c cs ≤ q.site) (λ q. y + c.width ≤ q.site) (λ q h. omega arith) (placed cs ys) (chain_from cs ys (y + next R c cs) chain)

  chain_clear : (cs : List Cell) (ys : List ℕ) (lo : ℕ) → Chain R lo cs ys → EveryPair Clear (placed cs ys)
  chain_clear [] ys lo chain = tt
  chain_clear (c ∷ cs) [] lo chain = tt
  chain_clear (c ∷ cs) (y ∷ ys) lo chain =
      let p : Placed = record { cell = c; site = y } in
      (All-weaker (λ q. y + c.width ≤ q.site) (Clear p) (clear_after p) (placed cs ys) (ends c cs y ys chain.2), chain_clear cs ys (y + next R c cs) chain.2)

  chain_rises : (cs : List Cell) (ys : List ℕ) (lo : ℕ) → AllByRecursion Passes cs → EveryPair (λ c d. before c d ≡ true) cs → Chain R lo cs ys → InWantedOrder (placed cs ys)
  chain_rises [] ys lo passed order chain = tt
  chain_rises (c ∷ cs) [] lo passed order chain = tt
  chain_rises (c ∷ cs) (y ∷ ys) lo passed order chain =
      let p : Placed = record { cell = c; site = y } in
      let first = all_placed (λ d. before c d ≡ true) cs ys order.0 in (
        all_with (λ q. y + c.width ≤ q.site) (λ q. before c q.cell ≡ true) (Rising p) (λ q. rising_after p q (wide c passed.0)) (placed cs ys) (ends c cs y ys chain.2) first,
        chain_rises cs ys (y + next R c cs) passed.1 order.1 chain.2,
      )

  -- a legal chain of cells in wanted order is a setting
  pub chain_setting : (cs : List Cell) (ys : List ℕ) → AllByRecursion Passes cs → EveryPair (λ c d. before c d ≡ true) cs → Chain R row.left cs ys → Setting row cs ys
  chain_setting cs ys passed order chain = record {
    each = chain_length cs ys row.left chain;
    legal = (chain_within cs ys row.left (omega arith) chain, chain_clear cs ys row.left chain);
    in_order = chain_rises cs ys row.left passed order chain;
  }

  -- and a setting of cells in wanted order is a legal chain
  setting_chain_from : (cs : List Cell) (ys : List ℕ) (lo : ℕ) → length ys ≡ length cs → AllByRecursion Passes cs → EveryPair (λ c d. before c d ≡ true) cs → Legal row (placed cs ys) → InWantedOrder (placed cs ys) → AllByRecursion (λ p. lo ≤ p.site) (placed cs ys) → Chain R lo cs ys
  setting_chain_from [] [] lo e passed order legal rises from = tt
  setting_chain_from [] (y ∷ ys) lo e passed order legal rises from = omega arith
  setting_chain_from (c ∷ cs) [] lo e passed order legal rises from = omega arith
  setting_chain_from (c ∷ cs) (y ∷ ys) lo e passed order legal rises from =
      let p : Placed = record { cell = c; site = y } in
      let rest = placed cs ys in
      let n = next_is f row c cs in
      let both = all_with (Clear p) (Rising p) (λ q. Clear p q × Rising p q) (λ q a b. (a, b)) rest legal.1.0 rises.0 in
      let known = all_with (λ q. before c q.cell ≡ true) (λ q. 1 ≤ q.cell.width) (λ q. (before c q.cell ≡ true) × (1 ≤ q.cell.width)) (λ q a b. (a, b)) rest
      (all_placed (λ d. before c d ≡ true) cs ys order.0) (all_placed (λ d. 1 ≤ d.width) cs ys (All-weaker Passes (λ d. 1 ≤ d.width) wide cs passed.1)) in
      let after = all_with (λ q. Clear p q × Rising p q) (λ q. (before c q.cell ≡ true) × (1 ≤ q.cell.width)) (λ q. y + next R c cs ≤ q.site)
      (λ q a b. let h = after_clear p q b.1 a.0 a.1 b.0 in omega arith) rest both known in
      (from.0, legal.0.0.1, setting_chain_from cs ys (y + next R c cs) (omega arith) passed.1 order.1 (legal.0.1, legal.1.1) rises.1 after)

  pub setting_chain : (cs : List Cell) (ys : List ℕ) → AllByRecursion Passes cs → EveryPair (λ c d. before c d ≡ true) cs → Setting row cs ys → Chain R row.left cs ys
  setting_chain cs ys passed order s =
      setting_chain_from cs ys row.left s.each passed order s.legal s.in_order
      (All-weaker (Within row) (λ p. row.left ≤ p.site) (λ p h. h.0) (placed cs ys) s.legal.0)

  each_from : (cs : List Cell) (ys zs : List ℕ) → length ys ≡ length cs → length zs ≡ length cs → NotRight ys zs → AllZip ◌≤◌ ys zs
  each_from cs [] [] a b h = tt
  each_from cs [] (z ∷ zs) a b h = omega arith
  each_from cs (y ∷ ys) [] a b h = omega arith
  each_from [] (y ∷ ys) (z ∷ zs) a b h = absurd (omega arith)
  each_from (c ∷ cs) (y ∷ ys) (z ∷ zs) a b h = (h.0, each_from cs ys zs (omega arith) (omega arith) h.1)

  module _ (fair : Fair f) (cells : List Cell) (fits : Fitting row cells) where
    -- the row's sites are the answer of the theory
    pub fitting_answer : Answer R cells (row_sites f row cells)
    fitting_answer =
        let right = fits.ranged.right in
        let room : row.left + span R cells ≤ row.right = let w = span_is f row cells in omega (arith, fits.room) in
        subst (Answer R cells) (sym (sites_are f row cells))
        (settled_answer R (tight f row) (best_site f row) (best_is f row) cells (all_bend f row fair right cells fits.pass) room refl)

    -- so they are the cheapest setting, and of the cheapest the leftmost
    pub fitting_cheapest : Cheapest f row cells (row_sites f row cells)
    fitting_cheapest =
        let ys = row_sites f row cells in
        let answer = fitting_answer in
        let cost_of_ys = cost_is f row cells ys in
        let setting = chain_setting cells ys fits.pass fits.order answer.legal in
        record {
          setting = setting;
          cheapest = λ zs other.
              let least = answer.cheapest zs (setting_chain cells zs fits.pass fits.order other) in
              let cost_of_zs = cost_is f row cells zs in
              omega arith;
          leftmost = λ zs other same.
              let cost_of_zs = cost_is f row cells zs in
              each_from cells ys zs setting.each other.each (answer.leftmost zs (setting_chain cells zs fits.pass fits.order other) (omega arith));
        }

  -- the same of what `set` accepts
  pub row_answer : Fair f → (cells : List Cell) (count : ℕ) → Accepted row cells count → Answer R cells (row_sites f row cells)
  row_answer fair cells count a = fitting_answer fair cells (accepted_fitting row cells count a)

  pub row_cheapest : Fair f → (cells : List Cell) (count : ℕ) → Accepted row cells count → Cheapest f row cells (row_sites f row cells)
  row_cheapest fair cells count a = fitting_cheapest fair cells (accepted_fitting row cells count a)
