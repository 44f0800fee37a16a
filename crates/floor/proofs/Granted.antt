-- What `set` gives where it refuses nothing.
use Rattle.std.proofs.Common.{◌≡◌, List, length}
use Rattle.row.specs.Sites.{row_sites}
use Rattle.row.specs.Stack.{Ready}
use Rattle.row.specs.declared.Cell.{Cell}
use Rattle.row.specs.declared.Row.{Row}
use Rattle.measure.specs.Costs.{Fair, Price}
use Rattle.row.proofs.Accepted.{accepted}
use Rattle.row.proofs.Finished.{row_each}

-- as many sites as cells
pub sites_each : {f : Price} → Fair f → (row : Row) (cs : List Cell) → Ready row cs → length (row_sites f row cs) ≡ length cs
sites_each {f} fair row cs ready = row_each f row cs (length cs) fair (accepted row cs (length cs) ready)
