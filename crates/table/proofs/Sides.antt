-- The two sides of a key's place in an ordered table.
use Rattle.std.proofs.Common.{◌≡◌, ℕ, ◌+◌, ◌<◌, ◌≤◌, Bool, true, false, List, length, get_or, take, drop, ap, ◌∙◌, ⊎_elim, arith}
use Rattle.std.proofs.ByRecursion.{All-from_get_or}
use Rattle.std.proofs.lemmas.List.{get_or-take, get_or-drop, length-take, length-drop}
use Rattle.std.proofs.lemmas.List.Sums.{prefix_len-le-length}
use Rattle.std.proofs.lemmas.Bool.{cases_Bool}
use Rattle.std.specs.List.{AllByRecursion}
use Rattle.table.specs.Order.{Ordered, rank_of}
use Rattle.table.proofs.Halving.{rank_above, rank_below}

module _ {X : Type 0} (ahead : X → X → Bool) (chain : (a b c : X) → ahead a b ≡ true → ahead b c ≡ true → ahead a c ≡ true) (key d : X) (xs : List X) (ordered : Ordered ahead xs) where
  pub rank_within : rank_of ahead xs key ≤ length xs
  rank_within = prefix_len-le-length (λ x. ahead x key) xs

  one_front : (i : ℕ) → i < length xs → i < rank_of ahead xs key → ahead (get_or xs i d) key ≡ true
  one_front i within below =
      ⊎_elim (λ yes. yes) (λ fails. let past = rank_below ahead chain key xs i d within fails in absurd (omega arith)) (cases_Bool (ahead (get_or xs i d) key))

  one_back : (i : ℕ) → i < length xs → rank_of ahead xs key ≤ i → ahead (get_or xs i d) key ≡ false
  one_back i within above =
      ⊎_elim (λ passes. let before = rank_above ahead chain key xs ordered i d within passes in absurd (omega arith)) (λ no. no) (cases_Bool (ahead (get_or xs i d) key))

  -- the records before the place are ahead of the key
  pub rank_front : AllByRecursion (λ x. ahead x key ≡ true) (take (rank_of ahead xs key) xs)
  rank_front =
      let r = rank_of ahead xs key in
      let short = length-take r xs in
      let bound = rank_within in
      All-from_get_or (λ x. ahead x key ≡ true) (take r xs) d
      (λ i within. ap (λ x. ahead x key) (get_or-take r xs i d (omega arith)) ∙ one_front i (omega arith) (omega arith))

  -- those from it on are not
  pub rank_back : AllByRecursion (λ x. ahead x key ≡ false) (drop (rank_of ahead xs key) xs)
  rank_back =
      let r = rank_of ahead xs key in
      let short = length-drop r xs in
      let bound = rank_within in
      All-from_get_or (λ x. ahead x key ≡ false) (drop r xs) d
      (λ i within. ap (λ x. ahead x key) (get_or-drop r xs i d) ∙ one_back (r + i) (omega arith) (omega arith))
