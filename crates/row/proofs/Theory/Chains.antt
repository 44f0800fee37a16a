-- Legal chains: what holds of every chain, how one is cut, and how two are put together.
use Rattle.std.proofs.Common.{◌≡◌, ℕ, ◌+◌, ◌≤◌, List, [], ◌∷◌, ◌++◌, refl, ap, append-nil, arith}
use Rattle.row.proofs.Theory.Packed.{Lane, NonEmpty, NotRight, next, span, reach, sites, cost, Chain, Tight, next_longer}

module _ {A : Type 0} (R : Lane A) where
  -- a chain may start as far left as one likes
  pub chain_lower : (cs : List A) (ys : List ℕ) (from to : ℕ) → to ≤ from → Chain R from cs ys → Chain R to cs ys
  chain_lower [] [] from to less chain = tt
  chain_lower [] (y ∷ ys) from to less chain = chain
  chain_lower (c ∷ cs) [] from to less chain = chain
  chain_lower (c ∷ cs) (y ∷ ys) from to less chain = (omega arith, chain.1, chain.2)

  -- the cells of a chain would have room if they abutted
  pub chain_room : (c : A) (cs : List A) (y : ℕ) (ys : List ℕ) (from : ℕ) → Chain R from (c ∷ cs) (y ∷ ys) → y + span R (c ∷ cs) ≤ R.high
  chain_room c [] y ys from chain = omega arith
  chain_room c (d ∷ ds) y [] from chain = absurd chain.2
  chain_room c (d ∷ ds) y (z ∷ zs) from chain = let rest = chain_room d ds z zs (y + R.apart c d) chain.2 in omega arith

  -- and from that start they do have it
  pub room_of_chain : (cs : List A) (ys : List ℕ) (lo : ℕ) → NonEmpty cs → Chain R lo cs ys → lo + span R cs ≤ R.high
  room_of_chain [] ys lo some chain = absurd some
  room_of_chain (c ∷ cs) [] lo some chain = absurd chain
  room_of_chain (c ∷ cs) (y ∷ ys) lo some chain = let room = chain_room c cs y ys lo chain in omega arith

  -- a chain is nowhere left of the cells that abut from its start
  pub chain_forces : (cs : List A) (ys : List ℕ) (x : ℕ) → Chain R x cs ys → NotRight (sites R cs x) ys
  chain_forces [] ys x chain = tt
  chain_forces (c ∷ cs) [] x chain = tt
  chain_forces (c ∷ cs) (y ∷ ys) x chain =
      let first = chain.0 in
      (first, chain_forces cs ys (x + next R c cs) (chain_lower cs ys (y + next R c cs) (x + next R c cs) (omega arith) chain.2))

  -- cells that abut from x and a chain behind them are a chain
  pub abut_chain : Tight R → (cs ds : List A) (zs : List ℕ) (lo x : ℕ) → NonEmpty cs → lo ≤ x → x + span R cs ≤ R.high → Chain R (x + reach R cs ds) ds zs → Chain R lo (cs ++ ds) (sites R cs x ++ zs)
  abut_chain tight [] ds zs lo x some from to chain = absurd some
  abut_chain tight (c ∷ []) ds zs lo x some from to chain =
      (from, omega arith, chain_lower ds zs (x + reach R (c ∷ []) ds) (x + next R c ds) (omega arith) chain)
  abut_chain tight (c ∷ d ∷ cs) ds zs lo x some from to chain =
      let wide = tight c d in
      let n : ℕ = x + R.apart c d in
      let rest : Chain R (n + reach R (d ∷ cs) ds) ds zs = chain_lower ds zs (x + reach R (c ∷ d ∷ cs) ds) (n + reach R (d ∷ cs) ds) (omega arith) chain in
      (from, omega arith, abut_chain tight (d ∷ cs) ds zs n n tt (omega arith) (omega arith) rest)

  -- cells that abut within the row are a chain
  pub abut_legal : Tight R → (cs : List A) (lo x : ℕ) → lo ≤ x → x + span R cs ≤ R.high → Chain R lo cs (sites R cs x)
  abut_legal tight [] lo x from to = tt
  abut_legal tight (c ∷ cs) lo x from to =
      let all = abut_chain tight (c ∷ cs) [] [] lo x tt from to tt in
      rw (append-nil cs, append-nil (sites R cs (x + next R c cs))) at all

  -- the sites of cells cut in two
  pub record Halves (lo : ℕ) (ps ss : List A) (zs : List ℕ) : Type 0 where
    pub first : List ℕ
    pub second : List ℕ
    pub parts : zs ≡ first ++ second
    pub one : Chain R lo ps first
    pub two : Chain R lo ss second

  -- a chain of cells cut in two is a chain of each part
  pub halves : Tight R → (ps ss : List A) (lo : ℕ) (zs : List ℕ) → Chain R lo (ps ++ ss) zs → Halves lo ps ss zs
  halves tight [] ss lo zs chain = record { first = []; second = zs; parts = refl; one = tt; two = chain }
  halves tight (p ∷ ps) ss lo [] chain = absurd chain
  halves tight (p ∷ ps) ss lo (z ∷ zs) chain =
      let n : ℕ = z + next R p (ps ++ ss) in
      let h : Halves n ps ss zs = halves tight ps ss n zs chain.2 in
      let start = chain.0 in
      let wider = next_longer R tight p ps ss in
      record {
        first = z ∷ h.first;
        second = h.second;
        parts = ap (λ l. z ∷ l) h.parts;
        one = (start, chain.1, chain_lower ps h.first n (z + next R p ps) (omega arith) h.one);
        two = chain_lower ss h.second n lo (omega arith) h.two;
      }

  -- the cost of two parts
  pub cost-append : (ps ss : List A) (ys zs : List ℕ) (lo : ℕ) → Chain R lo ps ys → cost R (ps ++ ss) (ys ++ zs) ≡ cost R ps ys + cost R ss zs
  cost-append [] ss [] zs lo chain = omega arith
  cost-append [] ss (y ∷ ys) zs lo chain = absurd chain
  cost-append (p ∷ ps) ss [] zs lo chain = absurd chain
  cost-append (p ∷ ps) ss (y ∷ ys) zs lo chain = let rest = cost-append ps ss ys zs (y + next R p ps) chain.2 in omega arith

  -- what is nowhere right in both parts is nowhere right
  pub not_right-append : (ps : List A) (ys zs ys' zs' : List ℕ) (lo hi : ℕ) → Chain R lo ps ys → Chain R hi ps zs → NotRight ys zs → NotRight ys' zs' → NotRight (ys ++ ys') (zs ++ zs')
  not_right-append [] [] [] ys' zs' lo hi one two left more = more
  not_right-append [] [] (z ∷ zs) ys' zs' lo hi one two left more = absurd two
  not_right-append [] (y ∷ ys) zs ys' zs' lo hi one two left more = absurd one
  not_right-append (p ∷ ps) [] zs ys' zs' lo hi one two left more = absurd one
  not_right-append (p ∷ ps) (y ∷ ys) [] ys' zs' lo hi one two left more = absurd two
  not_right-append (p ∷ ps) (y ∷ ys) (z ∷ zs) ys' zs' lo hi one two left more =
      (left.0, not_right-append ps ys zs ys' zs' (y + next R p ps) (z + next R p ps) one.2 two.2 left.1 more)

  -- two chains of the same cells, neither right of the other, are equal
  pub not_right_both : (cs : List A) (ys zs : List ℕ) (lo hi : ℕ) → Chain R lo cs ys → Chain R hi cs zs → NotRight ys zs → NotRight zs ys → ys ≡ zs
  not_right_both [] [] [] lo hi one two left right = refl
  not_right_both [] [] (z ∷ zs) lo hi one two left right = absurd two
  not_right_both [] (y ∷ ys) zs lo hi one two left right = absurd one
  not_right_both (c ∷ cs) [] zs lo hi one two left right = absurd one
  not_right_both (c ∷ cs) (y ∷ ys) [] lo hi one two left right = absurd two
  not_right_both (c ∷ cs) (y ∷ ys) (z ∷ zs) lo hi one two left right =
      let same : y ≡ z = omega arith in
      let rest = not_right_both cs ys zs (y + next R c cs) (z + next R c cs) one.2 two.2 left.1 right.1 in
      cc
