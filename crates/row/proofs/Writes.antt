-- One turn of the loop that writes sites, and its end.
use Rattle.std.proofs.Common.{◌≡◌, ℕ, ◌+◌, ◌<◌, ◌≤◌, List, [], ◌∷◌, ◌++◌, length, get_or, take, drop, set, sym, ap, ◌∙◌, append_assoc, append-nil, arith}
use Rattle.std.proofs.lemmas.List.{at_drop_more, at_drop_all, take_more_set, take_all}
use Rattle.row.specs.Sites.{abut}
use Rattle.row.specs.declared.Cell.{Cell}
use Rattle.row.proofs.Defaults.{no_cell}

module _ (cells : List Cell) (sites : List ℕ) (i : ℕ) (each : length sites ≡ length cells) where
  -- a site more is written
  pub abut_more : (x : ℕ) → i < length cells → take (i + 1) (set sites i x) ++ abut (drop (i + 1) cells) (x + (get_or cells i no_cell).width) ≡ take i sites ++ abut (drop i cells) x
  abut_more x within =
      let rest : List ℕ = abut (drop (i + 1) cells) (x + (get_or cells i no_cell).width) in
      let under : i < length sites = omega arith in
      ap (λ l. l ++ rest) (take_more_set sites i x under) ∙ append_assoc (take i sites) (x ∷ []) rest
      ∙ ap (λ l. take i sites ++ l) (sym (at_drop_more (λ cs. abut cs x) cells i no_cell within))

  -- all sites are written
  pub abut_all : (x : ℕ) → length cells ≤ i → sites ≡ take i sites ++ abut (drop i cells) x
  abut_all x past =
      let over : length sites ≤ i = omega arith in
      sym (ap (λ l. take i sites ++ l) (at_drop_all (λ cs. abut cs x) cells i past) ∙ append-nil (take i sites) ∙ take_all i sites over)
