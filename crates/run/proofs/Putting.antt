-- Bytes that are put behind those before them, unless these could not be added.
use Rattle.std.proofs.Common.{ℕ, List, ◌++◌, Ok, Err, Result, Vec, refl}
use Rattle.std.specs.declared.alloc.AllocError.{AllocError}
use Rattle.std.specs.declared.alloc.Global.{Global}
use Rattle.lines.proofs.Appended.{appends_stop, appends_then}
use Rattle.lines.specs.Appended.{Appends}

-- what an adding answers
abbrev Answer : Type 0
Answer = Result (Unit {0}) AllocError

-- nothing more is put where those before could not be
pub put_none : (from to : Vec ℕ Global) (why : AllocError) (said bytes : List ℕ) → Appends {X = Unit {0}} from (Err why) said to → Appends {X = Unit {0}} from (Err why) (said ++ bytes) to
put_none from to why said bytes = appends_stop bytes (Err why) refl

-- others are put behind those before
pub put_more : (from mid to : Vec ℕ Global) (answer : Answer) (said bytes : List ℕ) → Appends {X = Unit {0}} {E = AllocError} from (Ok tt) said mid → Appends mid answer bytes to → Appends from answer (said ++ bytes) to
put_more from mid to answer said bytes = appends_then answer
