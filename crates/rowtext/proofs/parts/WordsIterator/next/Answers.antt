use Rattle.std.proofs.Common.{rules, tests}
use Rattle.rowtext.specs.Parts.{words_left}
use Rattle.rowtext.proofs.Yielded.{nearer, first_filled}
use Rattle.rowtext.proofs.parts.WordsIterator.next.Goals as goal

pub returns : goal.returns
returns c =
    let e = first_filled _ (λ f x b q k. search (rules, tests)) c.args.self.now.0 c.find.new.self _ c.find.result c.find.ensures.ran in
    record { steps = e; goes = nearer (λ x. x.now) words_left c.args.self.now c.find.result (record { 0 = c.find.new.self }) e }
