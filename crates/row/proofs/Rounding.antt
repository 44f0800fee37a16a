-- The best site of a cluster under the squared measure: its rise, and where that first is at least 0.
use Rattle.std.proofs.Common.{◌≡◌, ℕ, suc, ◌+◌, ◌-◌, ◌*◌, ◌/◌, ◌<◌, ◌≤◌, ◌⊎◌, inl, inr, true, false, List, [], ◌∷◌, ℤ, pos, negsuc, ◌+ℤ◌, ◌-ℤ◌, ◌*ℤ◌, ◌≤ℤ◌, ◌<ℤ◌, refl, ap, ◌∙◌, ⊎_elim, mul-add, add-mul, mul-one, mul-le-mul, mul-le-mul_left, arith}
use Rattle.std.proofs.Math.IntN.{pos-*ℤ-pos, pos-*ℤ-negsuc}
use Rattle.std.proofs.lemmas.Bool.{cases_lt}
use Rattle.std.proofs.lemmas.Int.{ints, clamps}
use Rattle.measure.specs.Measures.{squared}
use Rattle.measure.specs.Steps.{squared_step_is}
use Rattle.row.specs.Records.{widths}
use Rattle.row.specs.Rounding.{weights, pull_at, pull, limited, SquaredRounds}
use Rattle.row.specs.Sites.{cluster_rise, climbs, best_site}
use Rattle.row.specs.declared.Cell.{Cell}
use Rattle.row.specs.declared.Row.{Row}
use Rattle.row.proofs.Least.{IsLeast, least_is}

-- a number of times a difference
times_difference : (e a b : ℕ) → pos e *ℤ (pos a -ℤ pos b) ≡ pos (e * a) -ℤ pos (e * b)
times_difference e a b =
    ⊎_elim
    (λ below.
    let k : ℕ = b - (a + 1) in
    let is : pos a -ℤ pos b ≡ negsuc k = omega (arith, ints) in
    let law : e * b ≡ e * a + e * suc k = ap (λ n. e * n) (omega arith) ∙ mul-add e a (suc k) in
    ap (λ z. pos e *ℤ z) is ∙ pos-*ℤ-negsuc e k ∙ omega (arith, ints))
    (λ from.
    let k : ℕ = a - b in
    let is : pos a -ℤ pos b ≡ pos k = omega (arith, ints) in
    let law : e * a ≡ e * b + e * k = ap (λ n. e * n) (omega arith) ∙ mul-add e b k in
    ap (λ z. pos e *ℤ z) is ∙ pos-*ℤ-pos e k ∙ omega (arith, ints))
    (cases_lt a b)

-- the rise of cells that abut, the first of them at a distance from the cluster's start t
rise_at : (cs : List Cell) (t d x : ℕ) → x ≡ t + d → cluster_rise squared cs x +ℤ (pull_at d cs +ℤ pull_at d cs) ≡ pos (2 * (weights cs * t) + weights cs)
rise_at [] t d x is = omega (arith, ints)
rise_at (c ∷ cs) t d x is =
    let e : ℕ = c.weight in
    let own = squared_step_is c.wanted.site e x in
    let part = times_difference e c.wanted.site d in
    let at : e * x ≡ e * t + e * d = ap (λ n. e * n) is ∙ mul-add e t d in
    let all : (e + weights cs) * t ≡ e * t + weights cs * t = add-mul e (weights cs) t in
    let rest = rise_at cs t (d + c.width) (x + c.width) (omega arith) in
    omega (arith, ints)

-- a cluster climbs from half its weights before its pull on
climbs_where : (cs : List Cell) (t : ℕ) → climbs squared cs t ≡ true → (pull cs +ℤ pull cs) ≤ℤ pos (2 * (weights cs * t) + weights cs)
climbs_where cs t up = let rise = rise_at cs t 0 t (omega arith) in grind (arith, ints)

falls_where : (cs : List Cell) (t : ℕ) → climbs squared cs t ≡ false → pos (2 * (weights cs * t) + weights cs) <ℤ (pull cs +ℤ pull cs)
falls_where cs t down = let rise = rise_at cs t 0 t (omega arith) in grind (arith, ints)

-- a quotient rounded up
rounded_up : (m d : ℕ) → 0 < d → (k : ℕ) × (m ≤ d * k) × (d * k < m + d)
rounded_up m d some = ((m + (d - 1)) / d, omega arith, omega arith)

-- a difference of two numbers as the nearest whole number to q / e
pub record Between (q : ℤ) (e : ℕ) : Type 0 where
  pub k : ℕ
  pub n : ℕ
  pub from : ((q +ℤ q) -ℤ pos e) ≤ℤ (pos (2 * (e * k)) -ℤ pos (2 * (e * n)))
  pub below : (pos (2 * (e * k)) -ℤ pos (2 * (e * n))) <ℤ ((q +ℤ q) +ℤ pos e)

-- there is one, however far q is below 0
between_by : (q : ℤ) (e n m : ℕ) → 0 < e → (q +ℤ q) +ℤ pos (2 * (e * n)) ≡ pos m +ℤ pos e → Between q e
between_by q e n m some is =
    let up = rounded_up m (2 * e) (omega arith) in
    let twice : (2 * e) * up.0 ≡ 2 * (e * up.0) = omega arith in
    let from = up.1 in
    let below = up.2 in
    record { k = up.0; n = n; from = omega (arith, ints); below = omega (arith, ints) }

between : (q : ℤ) (e : ℕ) → 0 < e → Between q e
between (pos a) e some = let one : e * 1 ≡ e = mul-one e in between_by (pos a) e 1 (2 * a + e) some (omega (arith, ints))
between (negsuc b) e some =
    let law : e * (b + 2) ≡ e * b + e * 2 = mul-add e b 2 in
    let more : 1 * b ≤ e * b = mul-le-mul some (omega arith) in
    let two : e * 2 ≡ 2 * e = omega arith in
    between_by (negsuc b) e (b + 2) (2 * (e * (b + 2)) - e - 2 * (b + 1)) some (omega (arith, ints))

module _ (cells : List Cell) (near : Between (pull cells) (weights cells)) (t : ℕ) where
  -- it climbs from there on
  climbs_from : climbs squared cells t ≡ true → near.k ≤ t + near.n
  climbs_from up =
      let e : ℕ = weights cells in
      let at = climbs_where cells t up in
      let law : e * (t + near.n + 1) ≡ e * t + e * near.n + e = mul-add e (t + near.n) 1 ∙ (λ i. mul-add e t near.n i + mul-one e i) in
      ⊎_elim
      (λ further. let more : e * (t + near.n + 1) ≤ e * near.k = mul-le-mul_left e (omega arith) in absurd (omega (arith, ints, near.below)))
      (λ h. omega arith)
      (cases_lt (t + near.n) near.k)

  -- and not before
  falls_before : climbs squared cells t ≡ false → t + near.n < near.k
  falls_before down =
      let e : ℕ = weights cells in
      let at = falls_where cells t down in
      let law : e * (t + near.n) ≡ e * t + e * near.n = mul-add e t near.n in
      ⊎_elim
      (λ h. h)
      (λ upto. let less : e * near.k ≤ e * (t + near.n) = mul-le-mul_left e upto in absurd (omega (arith, ints, near.from)))
      (cases_lt (t + near.n) near.k)

-- the least site from which a cluster climbs, or the last one, is that number limited
limited_is : (row : Row) (cells : List Cell) (near : Between (pull cells) (weights cells)) (z : ℕ)
    → IsLeast (climbs squared cells) row.left (row.left + (row.right - widths cells - row.left)) z
    → pos z ≡ limited row cells (pos near.k -ℤ pos near.n)
limited_is row cells near z least =
    let high : ℕ = row.left + (row.right - widths cells - row.left) in
    let up : (z ≡ high) ⊎ (near.k ≤ z + near.n) =
    ⊎_elim (λ below. inr (climbs_from cells near z (least.passes below))) (λ above. inl (omega (arith, least.upto))) (cases_lt z high) in
    let down : (z ≡ row.left) ⊎ (z + near.n ≤ near.k) =
    ⊎_elim
    (λ after. inr (let before = falls_before cells near (z - 1) (least.none (z - 1) (omega arith) (omega arith)) in omega arith))
    (λ first. inl (omega (arith, least.from)))
    (cases_lt row.left z) in
    let from = least.from in
    let upto = least.upto in
    ⊎_elim
    (λ last. ⊎_elim (λ first. omega (arith, ints, clamps)) (λ near_down. omega (arith, ints, clamps)) down)
    (λ near_up. ⊎_elim (λ first. omega (arith, ints, clamps)) (λ near_down. omega (arith, ints, clamps)) down)
    up

pub squared_rounds : SquaredRounds
squared_rounds row cells some =
    let e : ℕ = weights cells in
    let near = between (pull cells) e some in
    let product = times_difference (2 * e) near.k near.n in
    let of_k : (2 * e) * near.k ≡ 2 * (e * near.k) = omega arith in
    let of_n : (2 * e) * near.n ≡ 2 * (e * near.n) = omega arith in
    record {
      site = pos near.k -ℤ pos near.n;
      nearest = record { from = omega (arith, ints, near.from); below = omega (arith, ints, near.below) };
      best = limited_is row cells near (best_site squared row cells) (least_is row.left (row.right - widths cells - row.left) _ refl);
    }
