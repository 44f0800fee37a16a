-- What a fetch takes from where bytes come from, and a delivery brings to where they go.
use Rattle.std.specs.Prelude.{ℕ, ◌<◌, ◌≤◌, List, length, take, Option, Result, IfOk, OnOk, OnErr}
use Rattle.std.specs.Io.KnownBytes.{Appends, Consumes, IsAtEnd}

-- A fetch into a room has filled the room's front, and that is less than all only at the end of what
-- there is. Where it fails, the source failed, and what it had read by then stands at the front.
pub record Fetched {E : Type 0} (before after : Option (List ℕ)) (failed : Type 0)
    (room : List ℕ) (r : Result ℕ E) : Type 0 where
  pub front : IfOk r (λ n.
      Consumes before after (take n room) × (n < length room → IsAtEnd after))
  pub part : OnErr r (failed
      × ((n : ℕ) × (n ≤ length room) × Consumes before after (take n room)))

-- at most so many bytes were read
pub record ReadsUpTo (most : ℕ) (before after : Option (List ℕ)) : Type 0 where
  pub read : List ℕ
  pub consumed : Consumes before after read
  pub few : length read ≤ most

-- A delivery has put out these bytes. Where it fails, the sink failed, and a first part of them is out.
pub record Delivered {E : Type 0} (before after : Option (List ℕ)) (failed : Type 0)
    (bytes : List ℕ) (r : Result (Unit {0}) E) : Type 0 where
  pub whole : OnOk r (Appends before after bytes)
  pub part : OnErr r (failed × ((n : ℕ) × Appends before after (take n bytes)))
