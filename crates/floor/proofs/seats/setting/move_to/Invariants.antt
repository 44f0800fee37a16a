use Rattle.std.proofs.Common.{◌≡◌, ◌++◌, drop, take}
use Rattle.floor.specs.Seats.{moved_all}
use Rattle.floor.proofs.seats.setting.move_to.Given as goal

-- what is moved and what is still to be moved make the whole
abbrev pub invariant-loop-k : goal.invariant-loop-k
invariant-loop-k l = take l.k l.seats ++ moved_all (drop l.k l.sites) (drop l.k l.seats) ≡ moved_all l.sites l.initial.seats
