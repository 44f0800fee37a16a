-- One move of a cursor after another.
use Rattle.std.proofs.Common.{◌∙◌, arith}
use Rattle.job.specs.Reads.{Moved}
use Rattle.job.specs.declared.cursor.Cursor.{Cursor}

pub moved_on : {a b c : Cursor} → Moved a b → Moved b c → Moved a c
moved_on {a} {b} {c} ab bc = record { same = bc.same ∙ ab.same; forth = omega (arith, ab.forth, bc.forth) }
