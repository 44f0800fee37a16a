use Rattle.std.proofs.Common.{rules}
use Rattle.std.proofs.lemmas.List.Sorted.{IsPartitionPoint-from_clause}
use Rattle.table.proofs.Halving.{ordered_splits, rank_at_point}
use Rattle.table.proofs.place_of.Goals as goal

pub returns-clause-finds : goal.returns-clause-finds
returns-clause-finds g c ordered =
    let ahead = g.R.Ranked.ahead in
    let key = c.args.key.now in
    let xs = c.args.table.now in
    let at = c.partition_point.result in
    rank_at_point ahead key xs at c.partition_point.ensures.bound
    (IsPartitionPoint-from_clause (λ x. ahead x key) xs at c.partition_point.ensures.partitioned (ordered_splits ahead g.met.R.Ranked.chain key xs ordered) (λ a r f' e. search rules))
