use Rattle.std.proofs.lemmas.List.{take_rest}
use Rattle.streams.proofs.Copied.{delivered_more}
use Rattle.streams.proofs.sink.deliver.Goals as goal

pub loop-done-preserved : goal.loop-done-preserved
loop-done-preserved g c =
    delivered_more _ _ _ c.args.bytes.now _ c.loop-done.done c.in-Ok.count c.loop-done.invariant (take_rest c.args.bytes.now c.loop-done.done) c.in-Ok.ensures.bound c.in-Ok.ensures.bytes
