-- The pieces that the program puts a line together from.
use Rattle.std.specs.Prelude.{ℕ, List, decimal}
use Rattle.std.specs.Option.{option_map}
use Rattle.job.specs.Reads.{named}
use Rattle.listing.specs.Lines.{name_text}
use Rattle.listing.specs.declared.pieces.Piece.{Piece}
use Rattle.listing.specs.declared.pieces.Piece.TheVariants.{Bytes, Number, Name}

-- the text of a piece
abbrev pub piece_text : Piece → List ℕ
piece_text (Bytes bytes) = bytes.now
piece_text (Number number) = decimal number
piece_text (Name name) = name_text (option_map named name)
