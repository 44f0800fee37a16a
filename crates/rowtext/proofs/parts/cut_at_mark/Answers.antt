use Rattle.std.proofs.Common.{◌+◌, length, take, drop, sym, ap, ◌∙◌, arith}
use Rattle.std.specs.List.{position_or_len}
use Rattle.std.proofs.lemmas.List.{take_all, take_rest, drop_all}
use Rattle.rowtext.specs.Parts.{marks_of}
use Rattle.rowtext.specs.Text.{among}
use Rattle.rowtext.proofs.Parted.{at_mark, no_mark}
use Rattle.rowtext.proofs.parts.cut_at_mark.Goals as goal

pub returns-in-Some : goal.returns-in-Some
returns-in-Some c =
    let bytes = c.args.bytes.now in
    let marks = marks_of c.args.marks in
    let mark = c.in-Some.mark in
    let found = sym c.in-Some.is ∙ c.first_in.ensures in
    let at = at_mark (position_or_len (among marks) bytes) (length bytes) mark (sym found) in
    record {
      before = sym (ap (λ n. take n bytes) at.0);
      after = take_rest bytes (mark + 1) ∙ sym (ap (λ n. drop (n + 1) bytes) at.0);
    }

pub returns-in-None : goal.returns-in-None
returns-in-None c =
    let bytes = c.args.bytes.now in
    let marks = marks_of c.args.marks in
    let length_before = position_or_len (among marks) bytes in
    let found = sym c.in-None.is ∙ c.first_in.ensures in
    let past = no_mark length_before (length bytes) (sym found) in
    record {
      before = sym (take_all length_before bytes past);
      after = sym (drop_all (length_before + 1) bytes (omega (arith, past)));
    }
