-- The least of some places that passes a test, or the last of them.
use Rattle.std.proofs.Common.{◌≡◌, ℕ, zero, suc, ◌+◌, ◌-◌, ◌<◌, ◌≤◌, Bool, true, false, cond, sym, refl, ap, ◌∙◌, ⊎_elim, arith}
use Rattle.std.proofs.lemmas.Bool.{cases_lt, cases_order, both_ways}
use Rattle.row.specs.Sites.{least}

-- z is the least place from low to high that passes, or high
pub record IsLeast (test : ℕ → Bool) (low high z : ℕ) : Type 0 where
  pub from : low ≤ z
  pub upto : z ≤ high
  pub none : (t : ℕ) → low ≤ t → t < z → test t ≡ false
  pub passes : z < high → test z ≡ true

module _ {test : ℕ → Bool} where
  -- a place that fails is passed over
  later : (low high z : ℕ) → test low ≡ false → IsLeast test (low + 1) high z → IsLeast test low high z
  later low high z fails rest = record {
    from = omega (arith, rest.from);
    upto = rest.upto;
    none = λ t from below. ⊎_elim (λ is. ap test (sym is) ∙ fails) (⊎_elim (λ after. rest.none t (omega arith) below) (λ before. absurd (omega arith))) (cases_order low t);
    passes = rest.passes;
  }

  -- a place that passes is the least
  first : (low high : ℕ) → low ≤ high → test low ≡ true → IsLeast test low high low
  first low high some passes = record { from = omega arith; upto = some; none = λ t from below. absurd (omega arith); passes = λ _. passes }

  step : (low n high : ℕ) (b : Bool) → test low ≡ b → low ≤ high → IsLeast test (low + 1) high (least test (low + 1) n) → IsLeast test low high (cond b low (least test (low + 1) n))
  step low n high true is some rest = first low high some is
  step low n high false is some rest = later low high _ is rest

  pub least_is : (low n high : ℕ) → low + n ≡ high → IsLeast test low high (least test low n)
  least_is low zero high e = record { from = omega arith; upto = omega arith; none = λ t from below. absurd (omega arith); passes = λ below. absurd (omega arith) }
  least_is low (suc n) high e = step low n high (test low) refl (omega arith) (least_is (low + 1) n high (omega arith))

  -- there is one
  pub least_unique : (low high y z : ℕ) → IsLeast test low high y → IsLeast test low high z → y ≡ z
  least_unique low high y z a b =
      ⊎_elim (λ is. is)
      (⊎_elim
      (λ below. absurd (both_ways (test y) (b.none y a.from below) (a.passes (omega (arith, b.upto)))))
      (λ above. absurd (both_ways (test z) (a.none z b.from above) (b.passes (omega (arith, a.upto))))))
      (cases_order y z)

  -- it is the least of fewer places too
  pub narrowed : (low high low' high' z : ℕ) → IsLeast test low high z → low ≤ low' → low' ≤ z → z ≤ high' → high' ≤ high → IsLeast test low' high' z
  narrowed low high low' high' z a low_up from upto high_down = record {
    from = from;
    upto = upto;
    none = λ t at below. a.none t (omega arith) below;
    passes = λ below. a.passes (omega arith);
  }

  -- where a place passes, it is not further on
  pub not_after : (low high m z : ℕ) → IsLeast test low high z → low ≤ m → test m ≡ true → z ≤ m
  not_after low high m z a from passes = ⊎_elim (λ below. absurd (both_ways (test m) (a.none m from below) passes)) (λ h. h) (cases_lt m z)

  -- where a place fails and what passes goes on to pass, it is further on
  pub after : (low high m z : ℕ) → IsLeast test low high z → m < high → test m ≡ false → ((t u : ℕ) → low ≤ t → t ≤ u → u < high → test t ≡ true → test u ≡ true) → m < z
  after low high m z a below fails goes_on = ⊎_elim (λ h. h) (λ before. absurd (both_ways (test m) fails (goes_on z m a.from before below (a.passes (omega arith))))) (cases_lt m z)

module _ (test : ℕ → Bool) where
  -- where the last place but one passes, it is the least up to there
  pub least_below : (low high : ℕ) → low < high → test (high - 1) ≡ true → least test low (high - 1 - low) ≡ least test low (high - low)
  least_below low high some passes =
      let whole : IsLeast test low high (least test low (high - low)) = least_is low (high - low) high (omega arith) in
      let upto = not_after low high (high - 1) _ whole (omega arith) passes in
      least_unique low (high - 1) _ _ (least_is low (high - 1 - low) (high - 1) (omega arith)) (narrowed low high low (high - 1) _ whole (omega arith) whole.from upto (omega arith))

  -- where that one fails and what passes goes on to pass, it is the last
  pub least_last : (low high : ℕ) → low < high → test (high - 1) ≡ false → ((t u : ℕ) → low ≤ t → t ≤ u → u < high → test t ≡ true → test u ≡ true) → high ≡ least test low (high - low)
  least_last low high some fails goes_on =
      let whole : IsLeast test low high (least test low (high - low)) = least_is low (high - low) high (omega arith) in
      let further = after low high (high - 1) _ whole (omega arith) fails goes_on in
      omega (arith, whole.upto)
