use Rattle.std.proofs.Common.{◌+◌, drop, Err, refl}
use Rattle.std.proofs.lemmas.Result.{err_from_is_err_and}
use Rattle.std.specs.List.{flat_map}
use Rattle.lines.proofs.Appended.{appends_then, appends_stop}
use Rattle.listing.proofs.Appending.{text_at}
use Rattle.listing.specs.Pieces.{piece_text}
use Rattle.listing.proofs.pieces.put_pieces.Goals as goal

pub returns-in_err-put_piece : goal.returns-in_err-put_piece
returns-in_err-put_piece c =
    let p = err_from_is_err_and c.from_residual.result c.from_residual.ensures.1 in
    let rest = flat_map piece_text (drop (c.loop-piece.piece-index + 1) c.args.pieces.now) in
    rw (p.1, ← text_at piece_text c.args.pieces.now c.loop-piece.piece-index c.piece-item.result c.loop-piece-test.true c.piece-item.is)
    (appends_stop rest (Err p.0) refl (appends_then _ c.loop-piece.invariant c.in_err-put_piece.ensures))
