use Rattle.std.proofs.Common.{◌≡◌, ◌++◌, Err, refl, sym, ap, ◌∙◌, append_assoc}
use Rattle.std.proofs.lemmas.Result.{err_from_is_err_and}
use Rattle.job.specs.Reading.{standing}
use Rattle.job.specs.Reads.{content}
use Rattle.lines.proofs.Appended.{appends_then, appends_stop}
use Rattle.listing.proofs.Appending.{lines_step}
use Rattle.listing.specs.Left.{lines_left}
use Rattle.listing.specs.Lines.{record_line}
use Rattle.listing.proofs.listed.put_records.Goals as goal

pub loop-found-preserved : goal.loop-found-preserved
loop-found-preserved c =
    let inv = c.loop-found.invariant in
    let s = standing c.loop-found.reader in
    let t = standing c.next_record.new.self in
    let told = rw c.in-Ok-Some.field-0-is at c.in-Ok-Some.ensures in
    let read = content c.in-Ok-Some.found in
    let line = record_line c.index-index.result read in
    let step : lines_left s ≡ line ++ lines_left t = lines_step s t read told.takes ∙ ap (λ k. record_line k read ++ lines_left t) (sym c.index-index.ensures) in (
      inv.0 ++ line,
      appends_then _ inv.1 c.in_ok-put_record-in-Ok-Some.ensures,
      append_assoc inv.0 line (lines_left t) ∙ ap (λ text. inv.0 ++ text) (sym step) ∙ inv.2,
    )

pub returns-in_err-put_record-in-Ok-Some : goal.returns-in_err-put_record-in-Ok-Some
returns-in_err-put_record-in-Ok-Some c =
    let inv = c.loop-found.invariant in
    let s = standing c.loop-found.reader in
    let t = standing c.next_record.new.self in
    let told = rw c.in-Ok-Some.field-0-is at c.in-Ok-Some.ensures in
    let read = content c.in-Ok-Some.found in
    let line = record_line c.index-index.result read in
    let step : lines_left s ≡ line ++ lines_left t = lines_step s t read told.takes ∙ ap (λ k. record_line k read ++ lines_left t) (sym c.index-index.ensures) in
    let all : (inv.0 ++ line) ++ lines_left t ≡ lines_left (standing c.args.reader) = append_assoc inv.0 line (lines_left t) ∙ ap (λ text. inv.0 ++ text) (sym step) ∙ inv.2 in
    let p = err_from_is_err_and c.from_residual.result c.from_residual.ensures.1 in
    rw (p.1, ← all) (appends_stop (lines_left t) (Err p.0) refl (appends_then _ inv.1 c.in_err-put_record-in-Ok-Some.ensures))
