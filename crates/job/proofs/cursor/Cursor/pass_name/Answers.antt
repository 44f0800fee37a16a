use Rattle.std.proofs.Common.{◌<◌, ap, sym, ◌∙◌, arith}
use Rattle.std.proofs.lemmas.Result.{err_from_is_err_and}
use Rattle.job.specs.Parts.{byte}
use Rattle.job.proofs.Moves.{moved_on}
use Rattle.job.proofs.Names.{good_next, good_not, good_end, good_on, byte_ends}
use Rattle.job.proofs.cursor.Cursor.pass_name.Goals as goal

pub returns-in_err-take_byte-clause-reads : goal.returns-in_err-take_byte-clause-reads
returns-in_err-take_byte-clause-reads c =
    let p = err_from_is_err_and c.from_residual.result c.from_residual.ensures.1 in
    let told = c.in_err-take_byte.ensures in
    let more : c.loop.counter < c.args.size = omega arith in
    rw (p.1, p.2)
    (record {
      reads = sym (good_end c.args.size c.loop.counter _ _ more c.in_err-take_byte.field-0.0 (sym told.reads)) ∙ c.loop.invariant.0;
      moved = moved_on c.loop.invariant.1 told.moved;
    })

pub returns-then-not-is_printable-clause-reads : goal.returns-then-not-is_printable-clause-reads
returns-then-not-is_printable-clause-reads c =
    let told = c.in_ok-take_byte.ensures in
    let more : c.loop.counter < c.args.size = omega arith in
    rw c.at.ensures (record {
      reads = sym (good_not c.args.size c.loop.counter _ _ more _ _ (sym told.reads) (sym c.if-not-is_printable.ensures)) ∙ c.loop.invariant.0;
      moved = moved_on c.loop.invariant.1 told.moved;
    })

pub loop-preserved : goal.loop-preserved
loop-preserved c =
    let told = c.in_ok-take_byte.ensures in
    let more : c.loop.counter < c.args.size = omega arith in (
      rw told.moved.same (sym (good_next c.args.size c.loop.counter _ _ more _ _ (sym told.reads) (sym c.if-not-is_printable.ensures)) ∙ c.loop.invariant.0),
      moved_on c.loop.invariant.1 told.moved,
      (let step = byte_ends _ _ _ _ told.reads in omega arith),
      good_on _ _ _ _ _ (omega arith) (told.reads ∙ ap (λ job. byte job c.loop.self.at) c.loop.invariant.1.same) (sym c.if-not-is_printable.ensures) c.loop.invariant.3,
    )
