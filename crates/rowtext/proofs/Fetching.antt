-- A text that is fetched piece by piece.
use Rattle.std.proofs.Common.{◌≡◌, ℕ, ◌+◌, ◌<◌, ◌≤◌, List, ◌++◌, length, take, Option, Err, Result, sym, subst, arith, length-append, length-take-le}
use Rattle.std.specs.Io.KnownBytes.{Consumes, IsAtEnd}
use Rattle.std.proofs.KnownBytes.{Consumes-trans}
use Rattle.rowtext.specs.declared.TheConstants.{CHUNK_BYTES, MOST_BYTES}
use Rattle.rowtext.specs.declared.trouble.Trouble.{Trouble}
use Rattle.rowtext.specs.declared.trouble.Trouble.TheVariants.{NoMemory, NotRead}
use Rattle.rowtext.specs.Fetching.{FetchedText, FetchEnds}

-- what was read so far, and the buffer's room
pub record Fetching (before now : Option (List ℕ)) (capacity_before capacity : ℕ) (text : List ℕ) : Type 0 where
  pub consumed : Consumes before now text
  pub little : length text ≤ MOST_BYTES
  pub room : capacity_before ≤ capacity

-- a fetch whose last piece was not read to its end
pub fetch_unread : (a b c : Option (List ℕ)) (failed : Type 0) (capacity_before capacity : ℕ) (text chunk after : List ℕ) (n : ℕ) (r : Result (Unit {0}) Trouble) → Fetching a b capacity_before capacity text
    → failed → n ≤ length chunk → Consumes b c (take n chunk) → length chunk ≤ CHUNK_BYTES → r ≡ Err NotRead → FetchedText a c failed capacity_before after r
fetch_unread a b c failed capacity_before capacity text chunk after n r so_far halted within read small e =
    let count = length-append text (take n chunk) in
    let part = length-take-le n chunk within in
    record {
      read = text ++ take n chunk;
      consumed = Consumes-trans a b c text (take n chunk) so_far.consumed read;
      little = omega (arith, count, part, so_far.little, within, small);
      ends = subst (FetchEnds (IsAtEnd c) failed capacity_before (text ++ take n chunk) after) (sym e) halted;
    }

-- a fetch that found no room for what it read last
pub fetch_full : (a b c : Option (List ℕ)) (failed : Type 0) (capacity_before capacity : ℕ) (text part after : List ℕ) (r : Result (Unit {0}) Trouble) → Fetching a b capacity_before capacity text
    → Consumes b c part → length part ≤ CHUNK_BYTES → capacity < length text + length part → r ≡ Err NoMemory → FetchedText a c failed capacity_before after r
fetch_full a b c failed capacity_before capacity text part after r so_far read small full e =
    let count = length-append text part in
    record {
      read = text ++ part;
      consumed = Consumes-trans a b c text part so_far.consumed read;
      little = omega (arith, count, small, so_far.little);
      ends = subst (FetchEnds (IsAtEnd c) failed capacity_before (text ++ part) after) (sym e) (omega (arith, count, so_far.room, full));
    }
