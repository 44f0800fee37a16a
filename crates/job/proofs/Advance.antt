-- How far a record's parts reach: forward, and not past the job's end.
use Rattle.std.proofs.Common.{◌≡◌, ℕ, zero, suc, ◌+◌, ◌-◌, ◌≤◌, Bool, true, false, cond, eqb, ltb, List, length, IfSome, Some, None, Ok, Err, Option, Result, sym, ap, subst, refl, ◌∙◌, arith}
use Rattle.std.proofs.lemmas.List.Edits.{length-between}
use Rattle.std.proofs.lemmas.Bool.{cond_both, ltb-true, ltb-false}
use Rattle.std.specs.List.{between}
use Rattle.job.specs.Format.{NameAt, CellNamed, Content, allows, map_byte, stands, field, good_bytes, text, name, name_field, row_part, cell_part, withdrawal_part, kind_named, kind_part, kind_at, after_kind, read_record}
use Rattle.job.specs.Format.Content.{row, place, withdraw, try}
use Rattle.job.specs.Names.{printable}
use Rattle.job.specs.Parts.{Part, taken, after, made, byte, number}
use Rattle.job.specs.Reading.{Standing, Advances, InJob, NameInJob, Passed, part_answer, part_standing, next_answer, next_standing}
use Rattle.job.specs.Reads.{Forward, Reads, content, viewed}
use Rattle.job.specs.declared.cursor.Cursor.{Cursor}
use Rattle.job.specs.declared.cursor.Flaw.{Flaw}
use Rattle.job.specs.declared.cursor.map.Form.{Form}
use Rattle.job.specs.declared.cursor.map.Form.TheVariants as form
use Rattle.job.specs.declared.kind.Kind.{Kind}
use Rattle.job.specs.declared.kind.Kind.TheVariants as kind
use Rattle.job.specs.declared.record.Cause.{Cause}
use Rattle.job.specs.declared.record.Fault.{Fault}
use Rattle.job.specs.declared.record.Record.{Record}

-- what holds of a part's value and of the place after it, where it has one
abbrev Yields : {X : Type 0} → Part X → (X → ℕ → Type 0) → Type 0
Yields (Ok part) Q = Q part.value part.next
Yields (Err flaw) Q = Unit {0}

-- a place after another, and not past the job's end
pub record Reaches (job : List ℕ) (at next : ℕ) : Type 0 where
  pub forth : at ≤ next
  pub within : next ≤ length job

-- a part whose end is reached from a place on, and what holds of its value
abbrev Gives : {X : Type 0} → List ℕ → ℕ → Part X → (X → Type 0) → Type 0
Gives job at part P = Yields part (λ x next. Reaches job at next × P x)

abbrev Any : {X : Type 0} → X → Type 0
Any x = Unit {0}

module _ (job : List ℕ) where
  weaker : {X : Type 0} (part : Part X) (Q R : X → ℕ → Type 0) → Yields part Q → ((x : X) (next : ℕ) → Q x next → R x next) → Yields part R
  weaker (Ok part) Q R is so = so part.value part.next is
  weaker (Err flaw) Q R is so = tt

  after_yields : {X Y : Type 0} (part : Part X) (rest : X → ℕ → Part Y) (Q : X → ℕ → Type 0) (R : Y → ℕ → Type 0) → Yields part Q → ((x : X) (next : ℕ) → Q x next → Yields (rest x next) R) → Yields (after part rest) R
  after_yields (Ok part) rest Q R is goes = goes part.value part.next is
  after_yields (Err flaw) rest Q R is goes = tt

  cond_yields : {X : Type 0} (b : Bool) (yes no : Part X) (Q : X → ℕ → Type 0) → (b ≡ true → Yields yes Q) → (b ≡ false → Yields no Q) → Yields (cond b yes no) Q
  cond_yields b one other Q = cond_both b one other (λ part. Yields part Q)

  here : (at : ℕ) → at ≤ length job → Reaches job at at
  here at in_job = record { forth = omega arith; within = in_job }

  -- a part and the one that follows it
  both : {X Y : Type 0} (at : ℕ) (part : Part X) (rest : X → ℕ → Part Y) (Q : X → Type 0) (P : Y → Type 0) → Gives job at part Q → ((x : X) (next : ℕ) → next ≤ length job → Q x → Gives job next (rest x next) P) → Gives job at (after part rest) P
  both at part rest Q P is goes =
      after_yields part rest _ (λ y end. Reaches job at end × P y) is
      (λ x next found.
      let first = found.0 in
      weaker (rest x next) _ _ (goes x next first.within found.1)
      (λ y end found. let second = found.0 in (record { forth = omega arith; within = second.within }, found.1)))

  byte_gives : (at : ℕ) → Gives job (at + 1) (byte job at) Any
  byte_gives at =
      cond_yields (ltb at (length job)) _ _ (λ b next. Reaches job (at + 1) next × Any b)
      (λ e. let h = ltb-true at (length job) e in (record { forth = omega arith; within = omega arith }, tt))
      (λ e. tt)

  -- from the byte's own place on
  byte_gives_here : (at : ℕ) → Gives job at (byte job at) Any
  byte_gives_here at = weaker (byte job at) _ _ (byte_gives at) (λ b next found. let r = found.0 in (record { forth = omega arith; within = r.within }, found.1))

  number_gives : (at : ℕ) → Gives job at (number job at) Any
  number_gives at =
      both at (byte job at) _ Any Any (byte_gives_here at)
      (λ low next in_job _. both next (byte job next) _ Any Any (byte_gives_here next) (λ high end in_job _. (here end in_job, tt)))

  map_gives : (form : Form) (at : ℕ) → Gives job (at + 1) (map_byte form job at) Any
  map_gives form at =
      both (at + 1) (byte job at) _ Any Any (byte_gives at)
      (λ map next in_job _. cond_yields (allows form map) _ _ (λ m end. Reaches job next end × Any m) (λ e. (here next in_job, tt)) (λ e. tt))

  field_gives : (map bit absent at : ℕ) → at ≤ length job → Gives job at (field map bit absent job at) Any
  field_gives map bit absent at in_job =
      cond_yields (stands map bit) _ _ (λ n end. Reaches job at end × Any n) (λ e. number_gives at) (λ e. (here at in_job, tt))

  good_gives : (size at : ℕ) → at ≤ length job → Gives job at (good_bytes size job at) Any
  good_gives zero at in_job = (here at in_job, tt {0})
  good_gives (suc count) at in_job =
      both at (byte job at) _ Any Any (byte_gives_here at)
      (λ b next in_job _. cond_yields (printable b) _ _ (λ u end. Reaches job next end × Any u) (λ e. good_gives count next in_job) (λ e. tt))

  text_gives : (size at : ℕ) → at ≤ length job → Gives job at (text size job at) (InJob job)
  text_gives size at in_job =
      after_yields (good_bytes size job at) _ _ (λ n end. Reaches job at end × InJob job n) (good_gives size at in_job)
      (λ _ next found.
      let r = found.0 in
      let long : length (between at next job) ≡ next - at = length-between job at next r.within in
      let e : at + length (between at next job) ≡ next = omega arith in
      (r, ap (λ end. between at end job) (sym e)))

  name_gives : (at : ℕ) → Gives job at (name job at) (InJob job)
  name_gives at =
      both at (byte job at) _ Any (InJob job) (byte_gives_here at)
      (λ size next in_job _. cond_yields (eqb size 0) _ _ (λ n end. Reaches job next end × InJob job n) (λ e. tt) (λ e. text_gives size next in_job))

  -- a cell's name is a part of the job, if it has one
  abbrev Lies : Option NameAt → Type 0
  Lies o = IfSome o (InJob job)

  name_field_gives : (map bit at : ℕ) → at ≤ length job → Gives job at (name_field map bit job at) Lies
  name_field_gives map bit at in_job =
      cond_yields (stands map bit) _ _ (λ o end. Reaches job at end × Lies o)
      (λ e. both at (name job at) _ (InJob job) Lies (name_gives at) (λ n end in_job is. (here end in_job, is)))
      (λ e. (here at in_job, tt))

  row_gives : (at : ℕ) → Gives job (at + 1) (row_part job at) Any
  row_gives at =
      both (at + 1) (map_byte form.Row job at) _ Any Any (map_gives form.Row at) (λ map next in_job _.
      both next (field map 0 0 job next) _ Any Any (field_gives map 0 0 next in_job) (λ line next in_job _.
      both next (field map 1 0 job next) _ Any Any (field_gives map 1 0 next in_job) (λ left next in_job _.
      both next (field map 2 0 job next) _ Any Any (field_gives map 2 0 next in_job) (λ right next in_job _. (here next in_job, tt)))))

  withdrawal_gives : (at : ℕ) → Gives job (at + 1) (withdrawal_part job at) Any
  withdrawal_gives at =
      both (at + 1) (map_byte form.Withdrawal job at) _ Any Any (map_gives form.Withdrawal at) (λ map next in_job _. field_gives map 0 0 next in_job)

  cell_gives : (at : ℕ) → Gives job (at + 1) (cell_part job at) (λ c. Lies c.name)
  cell_gives at =
      let P : CellNamed → Type 0 = λ c. Lies c.name in
      both (at + 1) (map_byte form.Cell job at) _ Any P (map_gives form.Cell at) (λ map next in_job _.
      both next (field map 0 0 job next) _ Any P (field_gives map 0 0 next in_job) (λ number next in_job _.
      both next (field map 1 0 job next) _ Any P (field_gives map 1 0 next in_job) (λ site next in_job _.
      both next (field map 2 0 job next) _ Any P (field_gives map 2 0 next in_job) (λ line next in_job _.
      both next (field map 3 0 job next) _ Any P (field_gives map 3 0 next in_job) (λ width next in_job _.
      both next (field map 4 1 job next) _ Any P (field_gives map 4 1 next in_job) (λ weight next in_job _.
      both next (name_field map 5 job next) _ Lies P (name_field_gives map 5 next in_job) (λ o next in_job lies. (here next in_job, lies))))))))

  -- what a record is made of lies where its part lies
  made_gives : {X Y : Type 0} (f : X → Y) (at : ℕ) (part : Part X) (Q : X → Type 0) (P : Y → Type 0) → Gives job at part Q → ((x : X) → Q x → P (f x)) → Gives job at (made f part) P
  made_gives f at part Q P is so = both at part _ Q P is (λ x next in_job q. (here next in_job, so x q))

  kind_part_gives : (at next : ℕ) → next ≤ length job → (r : Result Kind Cause) → Gives job next (kind_part at next r) Any
  kind_part_gives at next in_job (Ok kind) = (here next in_job, tt)
  kind_part_gives at next in_job (Err cause) = tt

  kind_gives : (at : ℕ) → Gives job (at + 1) (kind_at job at) Any
  kind_gives at =
      both (at + 1) (byte job at) _ Any Any (byte_gives at)
      (λ number next in_job _. kind_part_gives at next in_job (kind_named number))

  fields_give : (kind : Kind) (next : ℕ) → Gives job (next + 1) (after_kind job kind next) (NameInJob job)
  fields_give kind.Row next = made_gives row (next + 1) (row_part job next) Any (NameInJob job) (row_gives next) (λ r is. tt)
  fields_give kind.Place next = made_gives place (next + 1) (cell_part job next) (λ c. Lies c.name) (NameInJob job) (cell_gives next) (λ c is. is)
  fields_give kind.Withdraw next = made_gives withdraw (next + 1) (withdrawal_part job next) Any (NameInJob job) (withdrawal_gives next) (λ n is. tt)
  fields_give kind.Try next = made_gives try (next + 1) (cell_part job next) (λ c. Lies c.name) (NameInJob job) (cell_gives next) (λ c is. is)

  -- a record takes at least its kind and its map
  record_gives : (at : ℕ) → Gives job (at + 2) (read_record job at) (NameInJob job)
  record_gives at =
      after_yields (kind_at job at) (after_kind job) _ (λ c end. Reaches job (at + 2) end × NameInJob job c) (kind_gives at)
      (λ kind next found.
      let first = found.0 in
      weaker (after_kind job kind next) _ _ (fields_give kind next)
      (λ c end found. let second = found.0 in (record { forth = omega arith; within = second.within }, found.1)))

  -- the same of a record that is there
  pub passes : (at : ℕ) (c : Content) (next : ℕ) → taken c next ≡ read_record job at → Reaches job (at + 2) next × NameInJob job c
  passes at c next is = let P : Part Content → Type 0 = λ part. Gives job (at + 2) part (NameInJob job) in subst P (sym is) (record_gives at)

-- a record moves the reader on in its job, and not past the job's end
pub passed : (s : Standing) (c : Content) → Ok (Some c) ≡ next_answer s → Passed s c (next_standing s)
passed s c is = by_test (ltb s.place (length s.job)) is
  where
    by_part : (part : Part Content) → ((v : Content) (next : ℕ) → taken v next ≡ part → Reaches s.job (s.place + 2) next × NameInJob s.job v) → Ok (Some c) ≡ part_answer s.index part → Passed s c (part_standing s part)
    by_part (Ok t) reach e =
        let r = reach t.value t.next refl in
        let same : c ≡ t.value = cc in
        record { same = refl; forward = r.0.forth; within = r.0.within; counted = refl; names = subst (NameInJob s.job) (sym same) r.1 }
    by_part (Err flaw) reach e = absurd (cc)

    by_test : (b : Bool) → Ok (Some c) ≡ cond b (part_answer s.index (read_record s.job s.place)) (Ok None) → Passed s c (cond b (part_standing s (read_record s.job s.place)) s)
    by_test true e = by_part (read_record s.job s.place) (passes s.job s.place) e
    by_test false e = absurd (cc)

-- where there is no record, the job has ended
pub ended : (s : Standing) → Ok None ≡ next_answer s → (next_standing s ≡ s) × (length s.job ≤ s.place)
ended s is =
    cond_both (ltb s.place (length s.job)) (part_answer s.index (read_record s.job s.place)) (Ok None)
    (λ answer. Ok None ≡ answer → (next_standing s ≡ s) × (length s.job ≤ s.place)) (λ more e. none (read_record s.job s.place) e) (λ done e. (ap (λ b. cond b (part_standing s (read_record s.job s.place)) s) done, ltb-false s.place (length s.job) done)) is
  where
    none : {P : Type 0} (part : Part Content) → Ok None ≡ part_answer s.index part → P
    none (Ok t) e = absurd (cc)
    none (Err flaw) e = absurd (cc)

-- a fault leaves the reader where it was
pub stays : (s : Standing) (fault : Fault) → Err fault ≡ next_answer s → next_standing s ≡ s
stays s fault is = by_test (ltb s.place (length s.job)) is
  where
    by_part : (part : Part Content) → Err fault ≡ part_answer s.index part → part_standing s part ≡ s
    by_part (Ok t) e = absurd (cc)
    by_part (Err flaw) e = refl

    by_test : (b : Bool) → Err fault ≡ cond b (part_answer s.index (read_record s.job s.place)) (Ok None) → cond b (part_standing s (read_record s.job s.place)) s ≡ s
    by_test true e = by_part (read_record s.job s.place) e
    by_test false e = refl

-- a call that answered so, and left the reader so, moved it so
pub advances : (s t : Standing) (a : Result (Option Content) Fault) → a ≡ next_answer s → t ≡ next_standing s → Advances s a t
unfolding Advances
advances s t a answer goes = by_answer a answer
  where
    by_answer : (a : Result (Option Content) Fault) → a ≡ next_answer s → Advances s a t
    by_answer (Ok None) is = let done = ended s is in (goes ∙ done.0, done.1)
    by_answer (Ok (Some c)) is = subst (Passed s c) (sym goes) (passed s c is)
    by_answer (Err fault) is = goes ∙ stays s fault is

-- a call that answered what stands at its place moved its cursor by at least two places
pub forward : {from to : Cursor} {r : Result Record Flaw} → Reads read_record from (viewed content r) to → Forward from r to
forward {from} {to} {r} is = by_result r is
  where
    by_result : (r : Result Record Flaw) → Reads read_record from (viewed content r) to → Forward from r to
    by_result (Ok x) is = record { far = (passes from.job.now from.at (content x) to.at is.reads).0.forth }
    by_result (Err flaw) is = record { far = tt }
