-- One piece, or one line, after another.
use Rattle.std.proofs.Common.{◌≡◌, ℕ, ◌+◌, ◌<◌, ◌≤◌, inl, inr, List, [], ◌++◌, length, get_or, take, drop, None, Some, Option, IfSome, Ok, sym, ap, subst, ◌∙◌, append_assoc, append-nil, take-append-drop, arith, length-take-le}
use Rattle.std.proofs.lemmas.Bool.{cases_lt}
use Rattle.std.proofs.lemmas.List.{flat_map_more, take_at, take_more}
use Rattle.std.proofs.lemmas.List.Concat.{flat_map-append}
use Rattle.std.specs.List.{flat_map}
use Rattle.std.specs.Io.KnownBytes.{Consumes, IsAtEnd}
use Rattle.job.proofs.Records.{same_job}
use Rattle.job.specs.Format.{Content}
use Rattle.job.specs.Reading.{Standing}
use Rattle.job.specs.Records.{Takes, fault_left, records_left}
use Rattle.lines.proofs.Appended.{appends_none, appends_then, appends_stop}
use Rattle.listing.specs.Left.{lines_left}
use Rattle.listing.specs.declared.whole.TheConstants.{MOST_READ}
use Rattle.listing.specs.Lines.{first_line, job_lines, last_line, record_line, record_lines}

pub ruleset appending = (appends_none, appends_then, appends_stop)

-- a list's text, by what stands before a place, at it and after it
pub text_at : {X : Type 0} (f : X → List ℕ) (xs : List X) (i : ℕ) (x : X) → i < length xs → x ≡ get_or xs i x → (flat_map f (take i xs) ++ f x) ++ flat_map f (drop (i + 1) xs) ≡ flat_map f xs
text_at f xs i x within is =
    ap (λ text. text ++ flat_map f (drop (i + 1) xs)) (ap (λ y. flat_map f (take i xs) ++ f y) is ∙ flat_map_more f [] (take i xs) (get_or xs i x) ∙ ap (flat_map f) (sym (take_more xs i x within)))
    ∙ sym (flat_map-append f (take (i + 1) xs) (drop (i + 1) xs))
    ∙ ap (flat_map f) (take-append-drop (i + 1) xs)

-- the lines that are left, by that of the record that was read
pub lines_step : (s t : Standing) (c : Content) → Takes s (Ok (Some c)) t → lines_left s ≡ record_line s.index c ++ lines_left t
lines_step s t c takes =
    (λ i. record_lines s.index (takes.records i) ++ last_line (takes.fault i))
    ∙ append_assoc (record_line s.index c) (record_lines (s.index + 1) (records_left t)) (last_line (fault_left t))
    ∙ ap (λ k. record_line s.index c ++ (record_lines k (records_left t) ++ last_line (fault_left t))) (sym takes.index)

-- a job that is cut off after as many bytes as it takes to refuse a longer one has the same lines
pub cut_lines : (bytes : List ℕ) → job_lines (take 65536 bytes) ≡ job_lines bytes
cut_lines bytes =
    let same = same_job bytes in
    (λ i. first_line (same.opens i) ++ (record_lines 0 (same.records i) ++ last_line (same.fault i)))

-- what was read has the lines of all that there was to read
pub read_lines : (known rest : Option (List ℕ)) (room : List ℕ) (n : ℕ) → length room ≡ MOST_READ → n ≤ length room → Consumes known rest (take n room) → (n < length room → IsAtEnd rest) → IfSome known (λ job. job_lines (take n room) ≡ job_lines job)
read_lines None rest room n size within read ends = tt
read_lines (Some job) None room n size within read ends = absurd read
read_lines (Some job) (Some xs) room n size within read ends =
    let part : length (take n room) ≡ n = length-take-le n room within in
    let cut : n ≡ 65536 → take 65536 job ≡ take n room = λ full. ap (take 65536) read ∙ take_at (take n room) xs 65536 (part ∙ full) in
    elim (cases_lt n 65536) as (λ _. job_lines (take n room) ≡ job_lines job) [
      | inl short ↦ ap job_lines (sym (read ∙ ap (λ ys. take n room ++ ys) (ends (omega (arith, size, short))) ∙ append-nil (take n room)))
      | inr long ↦ ap job_lines (sym (cut (omega (arith, size, long, within)))) ∙ cut_lines job
    ]

-- where the buffer had no room for the listing of what was read, it had none for the job's
pub room_lacks : (known : Option (List ℕ)) (read : List ℕ) (room : ℕ) → IfSome known (λ job. job_lines read ≡ job_lines job) → room < length (job_lines read) → IfSome known (λ job. room < length (job_lines job))
room_lacks None read room same few = tt
room_lacks (Some job) read room same few = omega (arith, few, ap length same)

-- what was written of the listing of what was read is of the job's
pub listed : (known : Option (List ℕ)) (read : List ℕ) (P : List ℕ → Type 0) → IfSome known (λ job. job_lines read ≡ job_lines job) → P (job_lines read) → IfSome known (λ job. P (job_lines job))
listed None read P same holds = tt
listed (Some job) read P same holds = subst P same holds
