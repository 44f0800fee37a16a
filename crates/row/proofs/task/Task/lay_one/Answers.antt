use Rattle.std.proofs.Common.{◌≡◌, ◌-◌, ◌++◌, take, drop, ap, ◌∙◌, arith}
use borrow.Rule.Slice.PartMut.{put_mid}
use Rattle.std.proofs.lemmas.List.{drop-drop}
use Rattle.row.specs.Sites.{abut}
use Rattle.row.specs.Stack.{part}
use Rattle.row.proofs.task.Task.lay_one.Goals as goal

pub returns : goal.returns
returns g c =
    let k = c.args.cluster in
    let sites = c.args.sites.now in
    let starts = c.requires.spans.starts in
    let behind : drop (k.past - k.first) (drop k.first sites) ≡ drop k.past sites = drop-drop (k.past - k.first) k.first sites ∙ ap (λ n. drop n sites) (omega arith) in
    let known = rw (c.part.ensures.measure, c.part.ensures.cells) at c.abut_from.ensures in
    record {
      answer = known.answer;
      after =
          ap (put_mid k.first (k.past - k.first) sites) known.after
          ∙ ap (λ l. take k.first sites ++ (abut (part c.args.self.now.cells.now k) k.site ++ l)) behind;
    }
