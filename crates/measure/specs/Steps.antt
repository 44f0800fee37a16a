-- What one step costs under the two measures, and that both are fair.
use Rattle.std.specs.Prelude.{◌≡◌, ℕ, ◌+◌, ◌-◌, ◌*◌, ◌^◌, ◌<◌, ◌≤◌, pos, ◌-ℤ◌, ◌≤ℤ◌}
use Rattle.std.proofs.Common.{ap, ◌∙◌, ⊎_elim, mul-add, add-mul, mul-one, one-mul, mul-le-mul, mul-le-mul_left, mul-zero, arith}
use Rattle.std.proofs.lemmas.Int.{ints}
use Rattle.std.proofs.lemmas.Bool.{cases_lt}
use Rattle.measure.specs.Costs.{Fair, step_of}
use Rattle.measure.specs.Measures.{distance, squared, plain}

-- the square of the next number
square_next : (k : ℕ) → (k + 1) * (k + 1) ≡ k * k + (k + k + 1)
square_next k = simp (add-mul, mul-add, mul-one, one-mul) (omega arith)

-- weight e times the square of k + 1
weighted_next : (e k : ℕ) → e * ((k + 1) * (k + 1)) ≡ e * (k * k) + e * k + e * k + e
weighted_next e k = ap (λ n. e * n) (square_next k) ∙ simp (mul-add, mul-one) (omega arith)

-- a place and the wanted place, by the distance k between them
right_of : (w e p : ℕ) → w ≤ p
    → (2 * (e * p) + e) + squared w e p ≡ 2 * (e * w) + squared w e (p + 1)
right_of w e p h =
    let k : ℕ = p - w in
    let at : distance p w ≡ k = omega arith in
    let after : distance (p + 1) w ≡ k + 1 = omega arith in
    let far : e * p ≡ e * w + e * k = ap (λ n. e * n) (omega arith) ∙ mul-add e w k in
    let here : squared w e p ≡ e * (k * k) = ap (λ d. e * (d * d)) at in
    let there : squared w e (p + 1) ≡ e * (k * k) + e * k + e * k + e =
    ap (λ d. e * (d * d)) after ∙ weighted_next e k in
    omega arith

left_of : (w e p : ℕ) → p < w
    → (2 * (e * p) + e) + squared w e p ≡ 2 * (e * w) + squared w e (p + 1)
left_of w e p h =
    let k : ℕ = w - (p + 1) in
    let at : distance p w ≡ k + 1 = omega arith in
    let after : distance (p + 1) w ≡ k = omega arith in
    let far : e * w ≡ e * p + (e * k + e * 1) =
    ap (λ n. e * n) (omega arith) ∙ mul-add e p (k + 1) ∙ ap (λ n. e * p + n) (mul-add e k 1) in
    let one : e * 1 ≡ e = mul-one e in
    let here : squared w e p ≡ e * (k * k) + e * k + e * k + e =
    ap (λ d. e * (d * d)) at ∙ weighted_next e k in
    let there : squared w e (p + 1) ≡ e * (k * k) = ap (λ d. e * (d * d)) after in
    omega arith

-- a step of squared costs weight × (2 × (place − wanted) + 1), with no sign
pub squared_step : (w e p : ℕ)
    → (2 * (e * p) + e) + squared w e p ≡ 2 * (e * w) + squared w e (p + 1)
squared_step w e p = ⊎_elim (left_of w e p) (right_of w e p) (cases_lt p w)

-- the same with its sign
pub squared_step_is : (w e p : ℕ)
    → step_of squared w e p ≡ pos (2 * (e * p) + e) -ℤ pos (2 * (e * w))
squared_step_is w e p = let step = squared_step w e p in omega (arith, ints)

-- a product of two 16-bit numbers
pub short_product : (a b : ℕ) → a < 2 ^ 16 → b < 2 ^ 16 → a * b < 2 ^ 32
short_product a b p q =
    let a_small : a ≤ 65535 = omega arith in
    let b_small : b ≤ 65535 = omega arith in
    let bound : a * b ≤ 65535 * 65535 = mul-le-mul a_small b_small in
    omega arith

-- a step of plain adds the weight, or takes it away
pub plain_right : (w e p : ℕ) → w ≤ p → plain w e (p + 1) ≡ plain w e p + e
plain_right w e p h =
    let after : distance (p + 1) w ≡ distance p w + 1 = omega arith in
    ap (λ d. e * d) after ∙ mul-add e (distance p w) 1 ∙ ap (λ n. e * distance p w + n) (mul-one e)

pub plain_left : (w e p : ℕ) → p < w → plain w e p ≡ plain w e (p + 1) + e
plain_left w e p h =
    let before : distance p w ≡ distance (p + 1) w + 1 = omega arith in
    ap (λ d. e * d) before
    ∙ mul-add e (distance (p + 1) w) 1
    ∙ ap (λ n. e * distance (p + 1) w + n) (mul-one e)

squared_bends : (w e p q : ℕ) → p ≤ q → step_of squared w e p ≤ℤ step_of squared w e q
squared_bends w e p q h =
    let at_p = squared_step w e p in
    let at_q = squared_step w e q in
    let further : e * p ≤ e * q = mul-le-mul_left e h in
    omega (arith, ints)

pub squared_fair : Fair squared
squared_fair = record {
  home = λ w e h. let d : distance w w ≡ 0 = omega arith in ap (λ n. e * (n * n)) d ∙ mul-zero e;
  bends = λ w e p q h r. squared_bends w e p q h;
  bounded = λ w e p h.
      let d : distance p w ≤ 65535 = omega arith in
      let b : e * (distance p w * distance p w) ≤ 1000 * (65535 * 65535) =
      mul-le-mul h.2 (mul-le-mul d d) in
      omega arith;
}

plain_bends : (w e p q : ℕ) → p ≤ q → step_of plain w e p ≤ℤ step_of plain w e q
plain_bends w e p q h =
    ⊎_elim
    (λ q_left.
    let p_left : p < w = omega arith in
    let at_p = plain_left w e p p_left in
    let at_q = plain_left w e q q_left in
    omega (arith, ints))
    (λ q_right.
    let at_q = plain_right w e q q_right in
    ⊎_elim
    (λ p_left. let at_p = plain_left w e p p_left in omega (arith, ints))
    (λ p_right. let at_p = plain_right w e p p_right in omega (arith, ints))
    (cases_lt p w))
    (cases_lt q w)

pub plain_fair : Fair plain
plain_fair = record {
  home = λ w e h. let d : distance w w ≡ 0 = omega arith in ap (λ n. e * n) d ∙ mul-zero e;
  bends = λ w e p q h r. plain_bends w e p q h;
  bounded = λ w e p h.
      let d : distance p w ≤ 65535 = omega arith in
      let b : e * distance p w ≤ 1000 * 65535 = mul-le-mul h.2 d in
      omega arith;
}
