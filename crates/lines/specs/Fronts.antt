-- Bytes put into the front of a lent buffer.
use Rattle.std.specs.Prelude.{◌≡◌, ℕ, ◌+◌, ◌≤◌, List, ◌++◌, length, take, drop}
use Rattle.lines.specs.declared.front.Front.{Front}

-- the bytes before the end
abbrev pub so_far : Front → List ℕ
so_far front = take front.end front.buffer.now

-- the bytes end within the buffer
abbrev pub HasRoom : Front → List ℕ → Type 0
HasRoom front bytes = front.end + length bytes ≤ length front.buffer.now

-- the same buffer, with bytes behind those before and nothing changed past them
pub record Puts (before : Front) (bytes : List ℕ) (after : Front) : Type 0 where
  pub same_reference : after.buffer.ghost_name ≡ before.buffer.ghost_name
  pub long : length after.buffer.now ≡ length before.buffer.now
  pub ends : after.end ≡ before.end + length bytes
  pub front : so_far after ≡ so_far before ++ bytes
  pub rest : drop after.end after.buffer.now ≡ drop after.end before.buffer.now
