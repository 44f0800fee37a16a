-- What is left of a job: after a record it is one record less, whatever the bound on answers.
use Rattle.std.proofs.Common.{◌≡◌, ℕ, zero, suc, ◌+◌, ◌-◌, ◌<◌, ◌≤◌, cond, eqb, List, length, take, slice_index, Some, None, Ok, Err, Option, Result, refl, sym, ap, ◌∙◌, add-one, ⊎_elim, length-take, take_all, arith}
use Rattle.std.proofs.lemmas.Bool.{cases_lt, lt-leb}
use Rattle.std.specs.Result.{result_map_both}
use Rattle.measure.specs.declared.name.MeasureName.{MeasureName}
use Rattle.job.specs.Format.{Content}
use Rattle.job.specs.Opening.{Opened, measure_named, opening, open_answer}
use Rattle.job.specs.Reading.{Standing, Passed, at_start, next_answer, next_standing}
use Rattle.job.specs.Records.{Rest, AllLeft, NoneLeft, Takes, with_answer, rest_within, rest_of, records_of, fault_of, index_after, opened_rest}
use Rattle.job.specs.declared.record.Cause.{Cause}
use Rattle.job.specs.declared.record.Cause.TheVariants.{EndsEarly, TooLong}
use Rattle.job.specs.declared.record.Fault.{Fault}
use Rattle.job.proofs.Advance.{ended, passed, stays}

-- more answers than there are bytes left
abbrev Enough : ℕ → Standing → Type 0
Enough most s = length s.job - s.place < most

-- under an answer of the reader, the rest after it is that of another bound, where it is so after a record
under_answer : (most more : ℕ) (s : Standing) (a : Result (Option Content) Fault) → a ≡ next_answer s → ((c : Content) → Passed s c (next_standing s) → rest_within most (next_standing s) ≡ rest_within more (next_standing s)) → with_answer a (rest_within most (next_standing s)) ≡ with_answer a (rest_within more (next_standing s))
under_answer most more s (Ok None) is same = refl
under_answer most more s (Ok (Some c)) is same = ap (with_answer (Ok (Some c))) (same c (passed s c is))
under_answer most more s (Err fault) is same = refl

-- two bounds that are high enough give the same
same_rest : (most more : ℕ) (s : Standing) → Enough most s → Enough more s → rest_within most s ≡ rest_within more s
same_rest zero more s enough other = absurd (omega arith)
same_rest (suc most) zero s enough other = absurd (omega arith)
same_rest (suc most) (suc more) s enough other =
    under_answer most more s (next_answer s) refl
    (λ c moves.
    let long : length (next_standing s).job ≡ length s.job = ap length moves.same in
    same_rest most more (next_standing s) (omega (arith, moves.forward, moves.within)) (omega (arith, moves.forward, moves.within)))

-- an answer of the reader, and what is left after it, are what was left before
rest_is : (s : Standing) → rest_of s ≡ with_answer (next_answer s) (rest_of (next_standing s))
unfolding rest_of
rest_is s =
    rw (add-one (length s.job))
    (under_answer (length s.job) (length (next_standing s).job + 1) s (next_answer s) refl
    (λ c moves.
    let long : length (next_standing s).job ≡ length s.job = ap length moves.same in
    same_rest (length s.job) (length (next_standing s).job + 1) (next_standing s) (omega (arith, moves.forward, moves.within)) (omega (arith, moves.forward, moves.within))))

-- the index counts the records
counted : (s t : Standing) (a : Result (Option Content) Fault) → a ≡ next_answer s → t ≡ next_standing s → t.index ≡ index_after a s.index
counted s t (Ok None) answer after = ap (λ (u : Standing). u.index) (after ∙ (ended s answer).0)
counted s t (Ok (Some c)) answer after = ap (λ (u : Standing). u.index) after ∙ (passed s c answer).counted
counted s t (Err fault) answer after = ap (λ (u : Standing). u.index) (after ∙ stays s fault answer)

-- a call that answered so, and left the reader so, took the first of what was left
pub takes : {s t : Standing} {a : Result (Option Content) Fault} → a ≡ next_answer s → t ≡ next_standing s → Takes s a t
takes {s} {t} {a} answer after =
    let is : rest_of s ≡ with_answer a (rest_of t) = rest_is s ∙ (λ i. with_answer (sym answer i) (rest_of (sym after i))) in
    record { records = ap (λ (r : Rest). r.records) is; fault = ap (λ (r : Rest). r.fault) is; index = counted s t a answer after }

-- what is answered by what the first byte names
abbrev answer_by : List ℕ → Result MeasureName Cause → Result Opened Fault
answer_by bytes r = result_map_both (λ measure. record { bytes = bytes; measure = measure }) (λ cause. record { cause = cause; index = 0; place = 0 }) r

-- a reader at the start of a job that opens has all of it left
pub all_left : {bytes : List ℕ} {measure : MeasureName} {s : Standing} → opening bytes ≡ Ok measure → s ≡ at_start bytes → AllLeft bytes s
unfolding records_of fault_of
all_left {bytes} {measure} {s} opens start =
    let all : rest_of s ≡ opened_rest (open_answer bytes) = ap rest_of start ∙ ap (λ r. opened_rest (answer_by bytes r)) (sym opens) in
    record { records = ap (λ (r : Rest). r.records) all; fault = ap (λ (r : Rest). r.fault) all }

-- a job that is not opened has no records, and the fault of its opening
pub none_left : {bytes : List ℕ} {cause : Cause} → Err cause ≡ opening bytes → NoneLeft bytes (record { cause = cause; index = 0; place = 0 })
unfolding records_of fault_of
none_left {bytes} {cause} is = let answer = ap (answer_by bytes) (sym is) in record { records = ap (λ a. (opened_rest a).records) answer; fault = ap (λ a. (opened_rest a).fault) answer }

-- a job of more than 65,535 bytes is too long
too_long : (bytes : List ℕ) → 65535 < length bytes → opening bytes ≡ Err TooLong
too_long bytes long = ap (λ b. cond b (cond (eqb (length bytes) 0) (Err EndsEarly) (measure_named (slice_index bytes 0))) (Err TooLong)) (lt-leb (length bytes) 65535 long)

-- cut off after one byte more than a job may have, bytes are the same job
pub record SameJob (cut bytes : List ℕ) : Type 0 where
  pub opens : opening cut ≡ opening bytes
  pub records : records_of cut ≡ records_of bytes
  pub fault : fault_of cut ≡ fault_of bytes

pub same_job : (bytes : List ℕ) → SameJob (take 65536 bytes) bytes
same_job bytes = ⊎_elim short long (cases_lt 65536 (length bytes))
  where
    short : 65536 < length bytes → SameJob (take 65536 bytes) bytes
    short h =
        let cut = too_long (take 65536 bytes) (omega (arith, length-take 65536 bytes)) in
        let whole = too_long bytes (omega arith) in
        let one = none_left (sym cut) in
        let other = none_left (sym whole) in
        record { opens = cut ∙ sym whole; records = one.records ∙ sym other.records; fault = one.fault ∙ sym other.fault }

    long : length bytes ≤ 65536 → SameJob (take 65536 bytes) bytes
    long h = let e : take 65536 bytes ≡ bytes = take_all 65536 bytes h in record { opens = ap opening e; records = ap records_of e; fault = ap fault_of e }
