use Rattle.std.proofs.Common.{◌≡◌, ◌+◌, ◌-◌, true}
use Rattle.std.specs.List.{between, list_all}
use Rattle.job.specs.Format.{good_bytes}
use Rattle.job.specs.Names.{printable}
use Rattle.job.specs.Reads.{Moved}
use Rattle.job.proofs.cursor.Cursor.pass_name.Given as goal

-- the bytes that are left are read from here as all of them are from the start, and those so far are good
abbrev pub invariant-loop : goal.invariant-loop
invariant-loop l =
    (good_bytes (l.size - l.counter) l.self.job.now l.self.at ≡ good_bytes l.size l.initial.self.job.now l.initial.self.at)
    × Moved l.initial.self l.self
    × (l.self.at ≡ l.initial.self.at + l.counter)
    × (list_all printable (between l.initial.self.at l.self.at l.initial.self.job.now) ≡ true)
