use Rattle.std.proofs.Common.{◌≡◌, ℕ, ◌++◌, take, rules, ap, subst, ◌∙◌, arith, vec_capacity}
use Rattle.std.proofs.lemmas.Result.{err_from_is_err_and}
use Rattle.std.specs.Io.KnownBytes.{Appends}
use Rattle.listing.specs.Lines.{job_lines}
use Rattle.listing.proofs.Appending.{read_lines, room_lacks, listed}
use Rattle.listing.proofs.whole.list.Goals as goal

pub returns-in_err-put_job-clause-failure : goal.returns-in_err-put_job-clause-failure
returns-in_err-put_job-clause-failure g c =
    let p = err_from_is_err_and c.from_residual-in_err-put_job.result c.from_residual-in_err-put_job.ensures.1 in
    let fetched = c.in_ok-length.ensures.bytes.front in
    let read = take c.in_ok-length.length c.fetch.new.room in
    let same = read_lines (g.R.Source.remaining c.args.input.now) _ c.fetch.new.room c.in_ok-length.length (search rules) (search rules) fetched.0 fetched.1 in
    let lacks = room_lacks (g.R.Source.remaining c.args.input.now) read (vec_capacity c.args.listing.now) same (omega (arith, c.in_err-put_job.ensures.full)) in
    rw (p.1, p.2) (lacks, search rules)

pub returns-in_err-deliver-clause-failure : goal.returns-in_err-deliver-clause-failure
returns-in_err-deliver-clause-failure g c =
    let p = err_from_is_err_and c.from_residual-in_err-deliver.result c.from_residual-in_err-deliver.ensures.1 in
    let fetched = c.in_ok-length.ensures.bytes.front in
    let read = take c.in_ok-length.length c.fetch.new.room in
    let same = read_lines (g.R.Source.remaining c.args.input.now) _ c.fetch.new.room c.in_ok-length.length (search rules) (search rules) fetched.0 fetched.1 in
    let said : c.as_slice.result.now ≡ job_lines read = c.as_slice.ensures.value ∙ c.in_ok-put_job.ensures.added ∙ ap (λ xs. xs ++ job_lines read) c.clear.ensures.items in
    let halted = c.in_err-deliver.ensures.part in
    let out = g.W.Sink.contents c.args.output.now in
    let out_after = g.W.Sink.contents c.deliver.new.out in
    let written = listed (g.R.Source.remaining c.args.input.now) read (λ lines. (n : ℕ) × Appends out out_after (take n lines)) same (halted.1.0, subst (λ lines. Appends out out_after (take halted.1.0 lines)) said halted.1.1) in
    rw (p.1, p.2) (halted.0, written)

pub returns-clause-lines : goal.returns-clause-lines
returns-clause-lines g c =
    let fetched = c.in_ok-length.ensures.bytes.front in
    let read = take c.in_ok-length.length c.fetch.new.room in
    let same = read_lines (g.R.Source.remaining c.args.input.now) _ c.fetch.new.room c.in_ok-length.length (search rules) (search rules) fetched.0 fetched.1 in
    let said : c.as_slice.result.now ≡ job_lines read = c.as_slice.ensures.value ∙ c.in_ok-put_job.ensures.added ∙ ap (λ xs. xs ++ job_lines read) c.clear.ensures.items in
    let out = g.W.Sink.contents c.args.output.now in
    let out_after = g.W.Sink.contents c.deliver.new.out in
    listed (g.R.Source.remaining c.args.input.now) read (Appends out out_after) same (subst (Appends out out_after) said c.in_ok-deliver.ensures.whole)
