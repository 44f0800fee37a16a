-- The rows of a floor: which are the same, and which have a site in common.
use Rattle.std.specs.Prelude.{Bool, ◌&&◌, ◌==◌, nat_lt}
use Rattle.row.specs.declared.Row.{Row}

-- whether two rows are the same: no two rows of a floor have one line and one left
abbrev pub same_row : Row → Row → Bool
same_row a b = a.line == b.line && a.left == b.left

-- whether two rows have a site in common
abbrev pub share : Row → Row → Bool
share a b = a.line == b.line && (nat_lt a.left b.right && nat_lt b.left a.right)
