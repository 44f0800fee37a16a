use Rattle.std.proofs.Common.{◌≡◌, [], ◌++◌, Ok, sym, ap, subst, ◌∙◌}
use Rattle.job.specs.Opening.{opening}
use Rattle.floor.specs.Tables.{no_tables}
use Rattle.lines.specs.Appended.{Appends}
use Rattle.measure.specs.Names.{named_price}
use Rattle.run.specs.Parts.{rest_events, rest_lines}
use Rattle.run.specs.Started.{started}
use Rattle.run.specs.State.{price_in, state}
use Rattle.run.specs.Texts.{cell_lines, lines_with}
use Rattle.run.proofs.Jobs.{all_put, job_law, job_says}
use Rattle.run.proofs.whole.carry_out.Goals as goal

-- the job is opened with its measure
opens : (c : goal.After-into_floor) → opening c.args.bytes.now ≡ Ok c.in-Ok.job.measure
opens c = ap opening (sym c.in-Ok.ensures.same) ∙ c.in-Ok.job.opens

-- the run begins with all records of the job
starts : (c : goal.After-into_floor) → state c.new-run.result ≡ started c.args.bytes.now no_tables
starts c = c.new-run.ensures.state ∙ ap (λ bytes. started bytes no_tables) c.in-Ok.ensures.same

pub returns-in-Ok-clause-lines : goal.returns-in-Ok-clause-lines
returns-in-Ok-clause-lines c =
    let run = c.new-run.result in
    let last = c.put_records-added.new.run in
    let out = c.args.out.now in
    let records = rest_lines (price_in run) (state run) in
    let cells = records ++ cell_lines (state last).tables.seats in
    let put = c.put_cost-added.ensures out cells (c.put_cells-added.ensures out records c.put_records-added.ensures.lines) in
    let priced : price_in last ≡ price_in run = ap named_price c.put_records-added.ensures.same in
    let tables = c.put_records-added.ensures.tables in
    subst (λ text. Appends out c.put_cost-added.result text c.put_cost-added.new.out)
    ((λ i. lines_with (priced i) c.args.bytes.now (rest_events (price_in run) (state run)) (tables i))
    ∙ sym (job_says c.args.bytes.now c.in-Ok.job.measure (state run) (price_in run) (opens c) (starts c) (ap named_price c.new-run.ensures.measure)))
    (all_put c.args.bytes.now out c.put_cost-added.new.out c.put_cost-added.result run last (starts c) put)

pub returns-in-Ok-clause-law : goal.returns-in-Ok-clause-law
returns-in-Ok-clause-law c =
    let run = c.new-run.result in
    let last = c.put_records-added.new.run in
    let out = c.args.out.now in
    let records = rest_lines (price_in run) (state run) in
    let cells = records ++ cell_lines (state last).tables.seats in
    let put = c.put_cost-added.ensures out cells (c.put_cells-added.ensures out records c.put_records-added.ensures.lines) in
    job_law c.args.bytes.now out c.put_cost-added.new.out c.put_cost-added.result run last c.into_floor.result c.into_floor.ensures (starts c) c.put_records-added.ensures.same
    (opens c ∙ ap Ok (sym c.new-run.ensures.measure)) put (c.put_records-added.ensures.law [] c.new-run.ensures.law)
