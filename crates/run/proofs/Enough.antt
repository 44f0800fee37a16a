-- The first 65,536 bytes of a longer input tell all that is said of it: that it is too long.
use Rattle.std.proofs.Common.{◌≡◌, ℕ, ◌<◌, Bool, true, false, List, [], ◌++◌, length, take, IfSome, IfOk, IfErr, OnOk, Some, None, Ok, Err, Option, Result, Vec, nat_lt, vec_capacity, refl, sym, ap, subst, ◌∙◌, append-nil, length-append, arith}
use Rattle.std.proofs.lemmas.Bool.Decides.{nat_tests}
use Rattle.std.specs.Io.KnownBytes.{Appends, Consumes, IsAtEnd}
use Rattle.std.specs.Process.{exit_status}
use Rattle.std.specs.declared.alloc.Global.{Global}
use Rattle.std.specs.declared.process.ExitCode.{ExitCode}
use Rattle.job.proofs.Records.{none_left}
use Rattle.job.specs.Opening.{opening}
use Rattle.job.specs.Records.{fault_of}
use Rattle.job.specs.declared.record.Cause.TheVariants.{TooLong}
use Rattle.job.specs.declared.record.Fault.{Fault}
use Rattle.lines.specs.Texts.{newline}
use Rattle.run.specs.Complaints.{complaint_about, complaint_line, complaint_text, status_of}
use Rattle.run.specs.Legalized.{LacksRoom, LeavesOut, complaint, status}
use Rattle.run.specs.Texts.{fault_line, job_text, opened_text}
use Rattle.run.specs.declared.complaint.Complaint.{Complaint}
use Rattle.run.specs.declared.complaint.Complaint.TheVariants.{Unread}
use Rattle.run.specs.declared.legalizing.Failure.{Failure}
use Rattle.run.specs.declared.legalizing.Failure.TheVariants.{Unfetched, Unwritten, Untold, NoMemory}

too_long : (job : List ℕ) → 65535 < length job → opening job ≡ Err TooLong
too_long job long = grind (arith, nat_tests)

about_long : (job : List ℕ) (fault : Fault) → 65535 < length job → complaint_about job fault ≡ Unread fault
about_long job fault long = grind (arith, nat_tests)

-- the fault of a job that is too long
abbrev length_fault : Fault
length_fault = record { cause = TooLong; index = 0; place = 0 }

fault_long : (job : List ℕ) → 65535 < length job → fault_of job ≡ Some length_fault
fault_long job long = (none_left (sym (too_long job long))).fault

text_long : (job : List ℕ) → 65535 < length job → job_text job ≡ fault_line (Some length_fault)
text_long job long = ap (opened_text job) (too_long job long) ∙ ap fault_line (fault_long job long)

complaint_long : (job : List ℕ) → 65535 < length job → complaint job ≡ complaint_text (Unread length_fault) ++ newline
complaint_long job long = ap (complaint_line job) (fault_long job long) ∙ ap (λ (c : Complaint). complaint_text c ++ newline) (about_long job length_fault long)

-- all that is said of two jobs is the same
record SaidAlike (a b : List ℕ) : Type 0 where
  lines : job_text a ≡ job_text b
  said : complaint a ≡ complaint b
  status : status a ≡ status b

long_alike : (a b : List ℕ) → 65535 < length a → 65535 < length b → SaidAlike a b
long_alike a b a_long b_long = record {
  lines = text_long a a_long ∙ sym (text_long b b_long);
  said = complaint_long a a_long ∙ sym (complaint_long b b_long);
  status = ap status_of (fault_long a a_long) ∙ sym (ap status_of (fault_long b b_long));
}

-- the whole input was read, or enough of it
alike_by : (all rest job : List ℕ) (b : Bool) → nat_lt (length job) 65536 ≡ b → all ≡ job ++ rest → (length job < 65536 → rest ≡ []) → SaidAlike job all
alike_by all rest job true e is end =
    let short : length job < 65536 = grind (arith, nat_tests) in
    subst (SaidAlike job) (sym (is ∙ ap (λ xs. job ++ xs) (end short) ∙ append-nil job)) (record { lines = refl; said = refl; status = refl })
alike_by all rest job false e is end =
    let long : 65535 < length job = grind (arith, nat_tests) in
    long_alike job all long (omega (arith, ap length is, length-append job rest))

alike : (old new : Option (List ℕ)) (job : List ℕ) → Consumes old new job → (length job < 65536 → IsAtEnd new) → IfSome old (λ all. SaidAlike job all)
alike None new job read end = tt
alike (Some all) None job read end = absurd read
alike (Some all) (Some rest) job read end = alike_by all rest job (nat_lt (length job) 65536) refl read end

-- what is said of the bytes that were read is said of the input
known : (old : Option (List ℕ)) (job : List ℕ) (P : List ℕ → Type 0) → IfSome old (λ all. SaidAlike job all) → ((all : List ℕ) → SaidAlike job all → P all) → IfSome old P
known None job P like each = tt
known (Some all) job P like each = each all like

module _ (old new : Option (List ℕ)) (job : List ℕ) (consumed : Consumes old new job) (ended : length job < 65536 → IsAtEnd new) where
  pub lines_known : (r : Result ExitCode Failure) (out to : Option (List ℕ)) → OnOk r (Appends out to (job_text job)) → OnOk r (IfSome old (λ all. Appends out to (job_text all)))
  lines_known (Ok code) out to of_job = known old job _ (alike old new job consumed ended) (λ all like. subst (Appends out to) like.lines of_job)
  lines_known (Err why) out to of_job = tt

  pub said_known : (r : Result ExitCode Failure) (out to : Option (List ℕ)) → OnOk r (Appends out to (complaint job)) → OnOk r (IfSome old (λ all. Appends out to (complaint all)))
  said_known (Ok code) out to of_job = known old job _ (alike old new job consumed ended) (λ all like. subst (Appends out to) like.said of_job)
  said_known (Err why) out to of_job = tt

  pub status_known : (r : Result ExitCode Failure) → IfOk r (λ code. exit_status code ≡ status job) → IfOk r (λ code. IfSome old (λ all. exit_status code ≡ status all))
  status_known (Ok code) of_job = known old job _ (alike old new job consumed ended) (λ all like. of_job ∙ like.status)
  status_known (Err why) of_job = tt

  pub failed_known : (r : Result ExitCode Failure) (unread unwritten : Type 0) (out to : Option (List ℕ)) → IfErr r (LeavesOut ⊥ unwritten (Some job) out to) → IfErr r (LeavesOut unread unwritten old out to)
  failed_known (Ok code) unread unwritten out to of_job = tt
  failed_known (Err (Unfetched why)) unread unwritten out to of_job = absurd of_job.0
  failed_known (Err (Unwritten why)) unread unwritten out to of_job = (of_job.0, known old job _ (alike old new job consumed ended) (λ all like. (of_job.1.0, subst (λ text. Appends out to (take of_job.1.0 text)) like.lines of_job.1.1)))
  failed_known (Err (Untold why)) unread unwritten out to of_job = known old job _ (alike old new job consumed ended) (λ all like. subst (Appends out to) like.lines of_job)
  failed_known (Err NoMemory) unread unwritten out to of_job = of_job

  pub memory_known : (r : Result ExitCode Failure) (said : Vec ℕ Global) → IfErr r (LacksRoom (Some job) said) → IfErr r (LacksRoom old said)
  memory_known (Ok code) said of_job = tt
  memory_known (Err (Unfetched why)) said of_job = tt
  memory_known (Err (Unwritten why)) said of_job = tt
  memory_known (Err (Untold why)) said of_job = tt
  memory_known (Err NoMemory) said of_job = known old job _ (alike old new job consumed ended) (λ all like. subst (λ text. vec_capacity said < length text) like.lines of_job)
