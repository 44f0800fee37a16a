use Rattle.std.proofs.Common.{Ok, sym, ap, ◌∙◌, subst}
use Rattle.row.specs.Refusals.{set_refusal}
use Rattle.row.specs.Settings.{Cheapest}
use Rattle.row.specs.Costs.{sites_cost}
use Rattle.row.specs.Sites.{row_sites}
use Rattle.row.specs.Task.{granted, changed}
use Rattle.row.proofs.Accepted.{ready_known}
use Rattle.row.proofs.Subject.{row_cheapest}
use Rattle.row.proofs.task.Task.set.Goals as goal

pub returns : goal.returns
returns g c =
    let task = c.args.self.now in
    let cells = task.cells.now in
    let row = task.row in
    let none = ap (set_refusal row cells) c.if-sites-self.false ∙ task.ready in
    let f = g.M.Measure.price task.measure.now in
    let written = c.fill.ensures.after in
    let cost = c.fill.ensures.answer in
    record {
      answer = ap Ok cost ∙ ap (λ refused. granted refused (sites_cost f cells (row_sites f row cells))) (sym none);
      after = written ∙ ap (λ refused. changed refused (row_sites f row cells) c.args.sites.now) (sym none);
      cheapest = (
        subst (Cheapest f row cells) (sym written) (row_cheapest f row (g.met.M.Measure.fair task.measure.now) cells _ (ready_known row cells task.ready)),
        cost ∙ sym (ap (sites_cost f cells) written),
      );
    }
