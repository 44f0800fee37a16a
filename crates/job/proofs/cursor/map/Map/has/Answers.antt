use Rattle.std.proofs.Common.{◌≡◌, ℕ, ◌/◌, ◌%◌, ◌^◌, ◌<◌, eqb, ltb, cond, ap, sym, refl, ◌∙◌, arith}
use Rattle.std.proofs.Math.Nat.{div-eq_of_lt}
use Rattle.std.proofs.Math.Pow.{pow_mono}
use Rattle.std.proofs.lemmas.Bool.{cond_both, ltb-false}
use Rattle.std.proofs.lemmas.Nat.{and_mask}
use Rattle.job.proofs.cursor.map.Map.has.Goals as goal

-- a shift by as many bits as there are, or more, leaves none
shifted : (n bit : ℕ) → n < 2 ^ 32 → cond (ltb bit 32) (n / 2 ^ bit) 0 ≡ n / 2 ^ bit
shifted n bit small =
    cond_both (ltb bit 32) _ _ (λ m. m ≡ n / 2 ^ bit) (λ _. refl)
    (λ e. let more = pow_mono (ltb-false bit 32 e) in sym (div-eq_of_lt (omega arith)))

pub returns : goal.returns
returns c =
    let low : c.unbounded_shr.result ≡ c.args.self.bits / 2 ^ c.args.bit =
    c.unbounded_shr.ensures ∙ shifted c.from.result c.args.bit c.from.type_inv ∙ ap (λ n. n / 2 ^ c.args.bit) c.from.ensures in
    ap (λ n. eqb n 1) (and_mask c.unbounded_shr.result 1 ∙ ap (λ n. n % 2) low)
