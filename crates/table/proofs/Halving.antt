-- Where a key stands in an ordered table, and what stands on its two sides.
use Rattle.std.proofs.Common.{◌≡◌, ℕ, zero, suc, ◌+◌, ◌<◌, ◌≤◌, Bool, true, false, cond, List, [], ◌∷◌, length, get_or, sym, refl, arith}
use Rattle.std.proofs.ByRecursion.{All-get_or}
use Rattle.std.proofs.lemmas.Bool.{both_ways}
use Rattle.std.proofs.lemmas.List.Sums.{prefix_len_passes, prefix_len_is}
use Rattle.std.specs.List.{AllByRecursion}
use Rattle.std.specs.List.Sorted.{IsPartitionedBy, IsPartitionPoint}
use Rattle.table.specs.Order.{Ordered, rank_of}

module _ {X : Type 0} (ahead : X → X → Bool) (chain : (a b c : X) → ahead a b ≡ true → ahead b c ≡ true → ahead a c ≡ true) (key : X) where
  -- where a record is not ahead of the key, those behind it are not
  behind : (x : X) (xs : List X) → AllByRecursion (λ y. ahead x y ≡ true) xs → ahead x key ≡ false → (i : ℕ) (d : X) → i < length xs → ahead (get_or xs i d) key ≡ false
  behind x xs after fails i d within = go (ahead (get_or xs i d) key) refl
    where
      go : (b : Bool) → ahead (get_or xs i d) key ≡ b → ahead (get_or xs i d) key ≡ false
      go false e = e
      go true e = absurd (both_ways (ahead x key) fails (chain x (get_or xs i d) key (All-get_or (λ y. ahead x y ≡ true) xs i d within after) e))

  above : (x : X) (xs : List X) (i : ℕ) (d : X) (b : Bool) → ahead x key ≡ b → AllByRecursion (λ y. ahead x y ≡ true) xs → i < length xs → ahead (get_or xs i d) key ≡ true → i < rank_of ahead xs key → suc i < cond b (1 + rank_of ahead xs key) 0
  above x xs i d true e after within passes more = omega arith
  above x xs i d false e after within passes more = absurd (both_ways (ahead (get_or xs i d) key) (behind x xs after e i d within) passes)

  -- a record ahead of the key stands before the key's place
  pub rank_above : (xs : List X) → Ordered ahead xs → (i : ℕ) (d : X) → i < length xs → ahead (get_or xs i d) key ≡ true → i < rank_of ahead xs key
  rank_above [] ordered i d within passes = omega arith
  rank_above (x ∷ xs) ordered zero d within passes = rw passes (omega arith)
  rank_above (x ∷ xs) ordered (suc i) d within passes =
      above x xs i d (ahead x key) refl ordered.0 (omega arith) passes (rank_above xs ordered.1 i d (omega arith) passes)

  below : (b : Bool) (i n : ℕ) → n ≤ i → cond b (1 + n) 0 ≤ suc i
  below true i n more = omega arith
  below false i n more = omega arith

  -- one that is not ahead of it stands at or behind it
  pub rank_below : (xs : List X) → (i : ℕ) (d : X) → i < length xs → ahead (get_or xs i d) key ≡ false → rank_of ahead xs key ≤ i
  rank_below [] i d within fails = omega arith
  rank_below (x ∷ xs) zero d within fails = rw fails (omega arith)
  rank_below (x ∷ xs) (suc i) d within fails = below (ahead x key) i (rank_of ahead xs key) (rank_below xs i d (omega arith) fails)

  -- an ordered table is split by its key: where a record is ahead of the key, those before it are
  pub ordered_splits : (xs : List X) → Ordered ahead xs → IsPartitionedBy (λ x. ahead x key) xs
  ordered_splits xs ordered i j d before within passes =
      let later = rank_above xs ordered j d within passes in
      prefix_len_passes (λ x. ahead x key) xs i d (omega arith)

-- the place that splits a table in records ahead of the key and others is the key's place
pub rank_at_point : {X : Type 0} (ahead : X → X → Bool) (key : X) (xs : List X) (i : ℕ) → i ≤ length xs → IsPartitionPoint (λ x. ahead x key ≡ true) (λ x. ahead x key ≡ false) xs i → i ≡ rank_of ahead xs key
rank_at_point ahead key xs i bound point =
    sym (prefix_len_is (λ x. ahead x key) xs i key bound (λ k within. point.0 k key (omega arith) within) (λ within. point.1 i key (omega arith) within))
