use Rattle.std.proofs.Common.{◌-◌, length, vec_capacity}
use Rattle.rowtext.specs.declared.TheConstants.{MOST_BYTES}
use Rattle.rowtext.proofs.Fetching.{Fetching}
use Rattle.rowtext.proofs.fetch.fetch_text.Given as goal

abbrev pub invariant-loop-count : goal.invariant-loop-count
invariant-loop-count g l =
    Fetching (g.R.Source.remaining l.fn.input) (g.R.Source.remaining l.input) (vec_capacity l.fn.text) (vec_capacity l.text) l.text.items

abbrev pub decreases-loop-count : goal.decreases-loop-count
decreases-loop-count g l = MOST_BYTES - length l.text.items
