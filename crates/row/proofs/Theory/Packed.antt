-- Cells that abut: what they cover, what they cost, where they stand.
use Rattle.std.proofs.Common.{◌≡◌, ℕ, ◌+◌, ◌<◌, ◌≤◌, List, [], ◌∷◌, ◌++◌, refl, ap, append_assoc, arith}

-- What the theory needs to know of a row and its cells. `apart c d` is the least distance from the start of c to the start of its
-- right neighbour d; tie is 0 where a cluster takes its first best site, 1 where it takes its last.
pub record Lane (A : Type 0) : Type 0 where
  pub width : A → ℕ
  pub apart : A → A → ℕ
  pub price : A → ℕ → ℕ
  pub low : ℕ
  pub high : ℕ
  pub tie : ℕ

-- there is a cell in the list
abbrev pub NonEmpty : {A : Type 0} → List A → Type 0
NonEmpty [] = ⊥
NonEmpty (c ∷ cs) = Unit {0}

-- what is not empty stays so with more behind it
pub some_append : {A : Type 0} (ps ss : List A) → NonEmpty ps → NonEmpty (ps ++ ss)
some_append [] ss some = absurd some
some_append (p ∷ ps) ss some = tt

-- ys is nowhere to the right of zs
abbrev pub NotRight : List ℕ → List ℕ → Type 0
NotRight [] zs = Unit {0}
NotRight (y ∷ ys) [] = Unit {0}
NotRight (y ∷ ys) (z ∷ zs) = (y ≤ z) × NotRight ys zs

module _ {A : Type 0} (R : Lane A) where
  -- from the start of a cell to where what follows it may start
  abbrev pub next : A → List A → ℕ
  next c [] = R.width c
  next c (d ∷ ds) = R.apart c d

  -- how far cells that abut reach
  abbrev pub span : List A → ℕ
  span [] = 0
  span (c ∷ cs) = next c cs + span cs

  -- the cost of cells that abut from x
  abbrev pub packed : List A → ℕ → ℕ
  packed [] x = 0
  packed (c ∷ cs) x = R.price c x + packed cs (x + next c cs)

  -- from the start of the cells ps to that of the cells ss where ps ++ ss abut
  abbrev pub reach : List A → List A → ℕ
  reach [] ss = 0
  reach (c ∷ ps) ss = next c (ps ++ ss) + reach ps ss

  -- the sites of cells that abut from x
  abbrev pub sites : List A → ℕ → List ℕ
  sites [] x = []
  sites (c ∷ cs) x = x ∷ sites cs (x + next c cs)

  -- the cost of cells at sites
  abbrev pub cost : List A → List ℕ → ℕ
  cost [] ys = 0
  cost (c ∷ cs) [] = 0
  cost (c ∷ cs) (y ∷ ys) = R.price c y + cost cs ys

  -- sites from lo on, each cell within the row and clear of the next
  abbrev pub Chain : ℕ → List A → List ℕ → Type 0
  Chain lo [] [] = Unit {0}
  Chain lo [] (y ∷ ys) = ⊥
  Chain lo (c ∷ cs) [] = ⊥
  Chain lo (c ∷ cs) (y ∷ ys) = (lo ≤ y) × (y + R.width c ≤ R.high) × Chain (y + next c cs) cs ys

  -- the one law of the costs that is used: inside the row the rise of a cell's cost never falls
  abbrev pub Bends : A → Type 0
  Bends c = (p q : ℕ) → R.low ≤ p → p ≤ q → q + R.width c < R.high → R.price c (p + 1) + R.price c q ≤ R.price c p + R.price c (q + 1)

  -- each cell of a list bends
  abbrev pub AllBend : List A → Type 0
  AllBend [] = Unit {0}
  AllBend (c ∷ cs) = Bends c × AllBend cs

  -- neighbours are at least a width apart
  abbrev pub Tight : Type 0
  Tight = (c d : A) → R.width c ≤ R.apart c d

  -- a front part of cells that bend bends ..
  pub bend_front : (ps ss : List A) → AllBend (ps ++ ss) → AllBend ps
  bend_front [] ss bend = tt
  bend_front (p ∷ ps) ss bend = (bend.0, bend_front ps ss bend.1)

  -- .. and so does a back part
  pub bend_back : (ps ss : List A) → AllBend (ps ++ ss) → AllBend ss
  bend_back [] ss bend = bend
  bend_back (p ∷ ps) ss bend = bend_back ps ss bend.1

  -- cells that abut cost what their sites cost
  pub cost_sites : (cs : List A) (x : ℕ) → cost cs (sites cs x) ≡ packed cs x
  cost_sites [] x = refl
  cost_sites (c ∷ cs) x = ap (λ n. R.price c x + n) (cost_sites cs (x + next c cs))

  -- what follows does not change where the cells of a list stand
  packed_before : (c : A) (ps ss : List A) (x : ℕ) → packed ps (x + next c (ps ++ ss)) ≡ packed ps (x + next c ps)
  packed_before c [] ss x = refl
  packed_before c (p ∷ ps) ss x = refl

  -- `packed` of a list cut in two; s is where the second part starts
  pub packed-append : (ps ss : List A) (x s : ℕ) → s ≡ x + reach ps ss → packed (ps ++ ss) x ≡ packed ps x + packed ss s
  packed-append [] ss x s e =
      let here : x ≡ s = omega arith in
      let same = ap (packed ss) here in
      omega arith
  packed-append (p ∷ ps) ss x s e =
      let rest = packed-append ps ss (x + next p (ps ++ ss)) s (omega arith) in
      let front = packed_before p ps ss x in
      omega arith

  -- `span` of a list cut in two
  pub span-append : (ps ss : List A) → span (ps ++ ss) ≡ reach ps ss + span ss
  span-append [] ss = omega arith
  span-append (p ∷ ps) ss = let rest = span-append ps ss in omega arith

  -- `reach` over two parts
  pub reach-append : (ps qs ss : List A) → reach (ps ++ qs) ss ≡ reach ps (qs ++ ss) + reach qs ss
  reach-append [] qs ss = omega arith
  reach-append (p ∷ ps) qs ss =
      let rest = reach-append ps qs ss in
      let first = ap (next p) (append_assoc ps qs ss) in
      omega arith

  -- where a part starts depends on its first cell only: one step ..
  next_front : (c : A) (ps ss ts : List A) → NonEmpty ss → next c (ps ++ (ss ++ ts)) ≡ next c (ps ++ ss)
  next_front c [] [] ts some = absurd some
  next_front c [] (s ∷ ss) ts some = refl
  next_front c (p ∷ ps) ss ts some = refl

  -- .. and all of them
  pub reach_front : (ps ss ts : List A) → NonEmpty ss → reach ps (ss ++ ts) ≡ reach ps ss
  reach_front [] ss ts some = refl
  reach_front (p ∷ ps) ss ts some =
      let rest = reach_front ps ss ts some in
      let first = next_front p ps ss ts some in
      omega arith

  -- `packed` of a front part cut in two; s is where its second part starts
  pub packed_part : (ps ms ss : List A) (x s : ℕ) → s ≡ x + reach ps (ms ++ ss) → packed (ps ++ ms) x ≡ packed ps x + packed ms s
  packed_part ps [] ss x s e = packed-append ps [] x (x + reach ps []) refl
  packed_part ps (m ∷ ms) ss x s e = let same = reach_front ps (m ∷ ms) ss tt in packed-append ps (m ∷ ms) x s (omega arith)

  module _ (tight : Tight) where
    -- a cell alone needs no more than a cell with others behind it
    pub width_next : (c : A) (cs : List A) → R.width c ≤ next c cs
    width_next c [] = omega arith
    width_next c (d ∷ ds) = tight c d

    -- with more behind, what follows a cell starts no earlier
    pub next_longer : (c : A) (ps ss : List A) → next c ps ≤ next c (ps ++ ss)
    next_longer c [] ss = width_next c ss
    next_longer c (p ∷ ps) ss = omega arith

    -- a front part covers no more than the whole
    pub span_front : (ps ss : List A) → span ps ≤ span (ps ++ ss)
    span_front [] ss = omega arith
    span_front (p ∷ ps) ss =
        let rest = span_front ps ss in
        let first = next_longer p ps ss in
        omega arith

    -- the rise of cells that abut never falls, as that of each
    pub packed_bends : (cs : List A) → AllBend cs → (p q p' q' : ℕ) → R.low ≤ p → p ≤ q → q + span cs < R.high → p' ≡ p + 1 → q' ≡ q + 1 → packed cs p' + packed cs q ≤ packed cs p + packed cs q'
    packed_bends [] bend p q p' q' from up room ep eq = omega arith
    packed_bends (c ∷ cs) bend p q p' q' from up room ep eq =
        let wide = width_next c cs in
        let n : ℕ = next c cs in
        let rest = packed_bends cs bend.1 (p + n) (q + n) (p' + n) (q' + n) (omega arith) (omega arith) (omega arith) (omega arith) (omega arith) in
        let first = bend.0 p q from up (omega arith) in
        let at_p = ap (R.price c) ep in
        let at_q = ap (R.price c) eq in
        omega arith

    -- so a climb never becomes a fall further on
    pub climbs_on : (cs : List A) → AllBend cs → (t u t' u' : ℕ) → R.low ≤ t → t ≤ t' → t' + span cs < R.high → u ≡ t + 1 → u' ≡ t' + 1 → packed cs t + R.tie ≤ packed cs u → packed cs t' + R.tie ≤ packed cs u'
    climbs_on cs bend t u t' u' from up room e e' climb =
        let bent = packed_bends cs bend t t' u u' from up room e e' in
        omega arith

    -- nor a fall a climb further back
    pub falls_back : (cs : List A) → AllBend cs → (t u t' u' : ℕ) → R.low ≤ t' → t' ≤ t → t + span cs < R.high → u ≡ t + 1 → u' ≡ t' + 1 → packed cs u + 1 ≤ packed cs t + R.tie → packed cs u' + 1 ≤ packed cs t' + R.tie
    falls_back cs bend t u t' u' from back room e e' fall =
        let bent = packed_bends cs bend t' t u' u from back room e' e in
        omega arith
