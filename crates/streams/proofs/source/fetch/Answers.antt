use Rattle.std.proofs.Common.{rules}
use Rattle.streams.proofs.Copied.{filled_more}
use Rattle.streams.proofs.source.fetch.Goals as goal

pub loop-filled-preserved : goal.loop-filled-preserved
loop-filled-preserved g c =
    let so_far = c.loop-filled.invariant in
    let read = c.in-Ok.ensures in (
      search rules,
      search rules,
      filled_more _ _ _ c.loop-filled.filled c.in-Ok.count _ c.loop-filled.room c.fetch_again.new.room so_far.1 read.bound.0 so_far.2 read.bytes.0,
    )
