-- What a call that adds bytes to a growing buffer leaves in it.
use Rattle.std.specs.Prelude.{◌≡◌, ℕ, ◌+◌, ◌<◌, ◌≤◌, List, ◌++◌, length, take, vec_capacity, vec_items, vec_len, OnOk, OnErr, Result, Vec}
use Rattle.std.specs.declared.alloc.Global.{Global}

-- a buffer holds what it held, and behind it at most a first part of these bytes
pub record HasBegun (from : Vec ℕ Global) (bytes : List ℕ) (to : Vec ℕ Global) : Type 0 where
  pub kept : vec_len from ≤ vec_len to
  pub holds : vec_items to ≡ take (vec_len to) (vec_items from ++ bytes)

-- The call has added these bytes. It fails only where the buffer had no room for all of them, and
-- then what it held stands, with at most a first part of them behind it. Its room does not shrink.
pub record Appends {X E : Type 0} (from : Vec ℕ Global) (r : Result X E) (bytes : List ℕ) (to : Vec ℕ Global) : Type 0 where
  pub added : OnOk r (vec_items to ≡ vec_items from ++ bytes)
  pub full : OnErr r (vec_capacity from < vec_len from + length bytes)
  pub begun : OnErr r (HasBegun from bytes to)
  pub room : vec_capacity from ≤ vec_capacity to
