-- The bytes of a name, one after another.
use Rattle.std.proofs.Common.{◌≡◌, ℕ, suc, ◌+◌, ◌-◌, ◌<◌, ◌≤◌, true, false, cond, ltb, List, [], ◌∷◌, length, slice_index, Ok, Err, ap, sym, refl, ◌∙◌, arith}
use Rattle.std.proofs.lemmas.Bool.{cond_both, ltb-true}
use Rattle.std.proofs.lemmas.List.Edits.{between_more}
use Rattle.std.proofs.lemmas.List.Folds.{list_all-append}
use Rattle.std.specs.List.{between, list_all}
use Rattle.job.specs.Format.{good_bytes}
use Rattle.job.specs.Names.{printable}
use Rattle.job.specs.Parts.{Part, taken, flawed, after, byte}
use Rattle.job.specs.declared.cursor.Flaw.{Flaw}
use Rattle.job.specs.declared.record.Cause.TheVariants.{BadName}

-- the place after a part, where there is one
abbrev next_of : {X : Type 0} → Part X → ℕ
next_of (Ok part) = part.next
next_of (Err flaw) = 0

-- the value of a part, where there is one
abbrev value_of : Part ℕ → ℕ
value_of (Ok part) = part.value
value_of (Err flaw) = 0

-- a byte takes one place
pub byte_ends : (job : List ℕ) (at b next : ℕ) → taken b next ≡ byte job at → next ≡ at + 1
byte_ends job at b next is =
    let P : Part ℕ → Type 0 = λ part. taken b next ≡ part → next ≡ at + 1 in
    cond_both (ltb at (length job)) _ _ P (λ _ e. ap next_of e) (λ _ e. absurd (cc)) is

-- a good byte behind good ones
pub good_on : (job : List ℕ) (from at b next : ℕ) → from ≤ at → taken b next ≡ byte job at → printable b ≡ true → list_all printable (between from at job) ≡ true → list_all printable (between from next job) ≡ true
good_on job from at b next behind is good before =
    let P : Part ℕ → Type 0 = λ part. taken b next ≡ part → list_all printable (between from next job) ≡ true in
    cond_both (ltb at (length job)) _ _ P
    (λ more e.
    let ends : next ≡ at + 1 = ap next_of e in
    let byte_is : slice_index job at ≡ b = sym (ap value_of e) in
    rw (ends, between_more job from at 0 behind (ltb-true at (length job) more), list_all-append printable (between from at job) (slice_index job at ∷ []), before, byte_is, good) refl)
    (λ _ e. absurd (cc)) is

module _ (size i : ℕ) (job : List ℕ) (at : ℕ) (more : i < size) where
  -- the bytes that are left after `i` of them: the first, and then the others
  good_more : good_bytes (size - i) job at ≡ after (byte job at) (λ b next. cond (printable b) (good_bytes (size - (i + 1)) job next) (flawed BadName at))
  good_more = let e : size - i ≡ suc (size - (i + 1)) = omega arith in rw e refl

  -- a good byte: the others are read from the place after it
  pub good_next : (b next : ℕ) → byte job at ≡ taken b next → printable b ≡ true → good_bytes (size - i) job at ≡ good_bytes (size - (i + 1)) job next
  good_next b next e p = good_more ∙ rw (e, p) refl

  -- a bad byte
  pub good_not : (b next : ℕ) → byte job at ≡ taken b next → printable b ≡ false → good_bytes (size - i) job at ≡ flawed BadName at
  good_not b next e p = good_more ∙ rw (e, p) refl

  -- no byte
  pub good_end : (flaw : Flaw) → byte job at ≡ Err flaw → good_bytes (size - i) job at ≡ Err flaw
  good_end flaw e = good_more ∙ rw e refl
