use Rattle.std.proofs.Common.{Ok, take}
use Rattle.std.specs.List.{flat_map}
use Rattle.lines.specs.Appended.{Appends}
use Rattle.std.specs.declared.alloc.AllocError.{AllocError}
use Rattle.listing.specs.Pieces.{piece_text}
use Rattle.listing.proofs.pieces.put_pieces.Given as goal

-- the pieces so far are added
abbrev pub invariant-loop-piece : goal.invariant-loop-piece
invariant-loop-piece l = Appends {X = Unit {0}} {E = AllocError} l.initial.out (Ok tt) (flat_map piece_text (take l.piece-index l.pieces)) l.out
