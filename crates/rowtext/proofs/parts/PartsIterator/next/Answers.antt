use Rattle.std.proofs.Common.{◌≡◌, ◌<◌, ◌∷◌, Some, length, arith, false-eqb}
use Rattle.rowtext.specs.Text.{parts}
use Rattle.rowtext.specs.Parts.{marks_of, parts_left}
use Rattle.rowtext.proofs.Parted.{first_cut}
use Rattle.rowtext.proofs.Yielded.{nearer}
use Rattle.rowtext.proofs.parts.PartsIterator.next.Goals as goal

pub returns : goal.returns
returns c =
    let rest = c.args.self.now.rest.now in
    let marks = marks_of c.args.self.now.marks in
    let some : 0 < length rest = omega (arith, false-eqb _ 0 c.if-is_empty.ensures) in
    let told = first_cut marks rest some in
    let e : parts marks rest ≡ c.cut_at_mark.result.0.now ∷ parts marks c.cut_at_mark.result.1.now = cc in
    record { steps = e; goes = nearer (λ x. x.now) parts_left _ (Some _) _ e }
