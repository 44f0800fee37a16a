-- What a cluster shows of itself: no front part gains by moving left, no back part by moving right. Two that overlap are joined.
use Rattle.std.proofs.Common.{◌≡◌, ℕ, ◌+◌, ◌-◌, ◌<◌, ◌≤◌, ◌⊎◌, List, [], ◌∷◌, ◌++◌, sym, refl, ap, ◌∙◌, inl, inr, append-nil, arith}
use Rattle.std.proofs.lemmas.Bool.{cases_lt}
use Rattle.row.proofs.Theory.Packed.{Lane, NonEmpty, span, packed, reach, Bends, AllBend, Tight, packed-append, span-append, reach-append, reach_front, packed_part, span_front, climbs_on, falls_back}

-- ps goes on where xs ends: a list cut as xs and ys, and as ps and ss
pub record Longer {A : Type 0} (xs ys ps ss : List A) : Type 0 where
  pub between : List A
  pub front : ps ≡ xs ++ between
  pub back : ys ≡ between ++ ss

-- of two cuts of one list, one is the longer
pub longer : {A : Type 0} (xs ys ps ss : List A) → xs ++ ys ≡ ps ++ ss → Longer xs ys ps ss ⊎ Longer ps ss xs ys
longer [] ys ps ss e = inl (record { between = ps; front = refl; back = e })
longer (x ∷ xs) ys [] ss e = inr (record { between = x ∷ xs; front = refl; back = sym e })
longer (x ∷ xs) ys (p ∷ ps) ss e =
    let tails : xs ++ ys ≡ ps ++ ss = cc in
    elim (longer xs ys ps ss tails) [
      | inl h ↦ let front = h.front in inl (record { between = h.between; front = cc; back = h.back })
      | inr h ↦ let front = h.front in inr (record { between = h.between; front = cc; back = h.back })
    ]

-- a list of one has itself as its one front part ..
one_front : {A : Type 0} (c : A) (ps ss : List A) → c ∷ [] ≡ ps ++ ss → NonEmpty ps → ps ≡ c ∷ []
one_front c [] ss e some = absurd some
one_front c (p ∷ []) ss e some = cc
one_front c (p ∷ q ∷ ps) ss e some = cc

-- .. and nothing before its one back part
one_back : {A : Type 0} (c : A) (ps ss : List A) → c ∷ [] ≡ ps ++ ss → NonEmpty ss → ps ≡ []
one_back c [] ss e some = refl
one_back c (p ∷ []) [] e some = absurd some
one_back c (p ∷ []) (s ∷ ss) e some = cc
one_back c (p ∷ q ∷ ps) ss e some = cc

module _ {A : Type 0} (R : Lane A) where
  -- z is the best site of the cells cs as one cluster: they fall before it and climb from it on
  pub record IsBest (cs : List A) (z : ℕ) : Type 0 where
    pub from : R.low ≤ z
    pub to : z + span R cs ≤ R.high
    pub falls : (t u : ℕ) → R.low ≤ t → t < z → u ≡ t + 1 → packed R cs u + 1 ≤ packed R cs t + R.tie
    pub climbs : (u : ℕ) → z + span R cs < R.high → u ≡ z + 1 → packed R cs z + R.tie ≤ packed R cs u

  -- the cells xs from x on: each front part falls before x, each back part climbs from its place on
  pub record Certified (xs : List A) (x : ℕ) : Type 0 where
    pub from : R.low ≤ x
    pub to : x + span R xs ≤ R.high
    pub falls : (ps ss : List A) → xs ≡ ps ++ ss → NonEmpty ps → (t u : ℕ) → R.low ≤ t → t < x → u ≡ t + 1 → packed R ps u + 1 ≤ packed R ps t + R.tie
    pub climbs : (ps ss : List A) → xs ≡ ps ++ ss → NonEmpty ss → (t v w : ℕ) → x ≤ t → t + span R xs < R.high → v ≡ t + reach R ps ss → w ≡ v + 1 → packed R ss v + R.tie ≤ packed R ss w

  -- the whole is a front part ..
  pub whole_falls : {xs : List A} {x : ℕ} → Certified xs x → NonEmpty xs → (t u : ℕ) → R.low ≤ t → t < x → u ≡ t + 1 → packed R xs u + 1 ≤ packed R xs t + R.tie
  whole_falls {xs} sure some = sure.falls xs [] (sym (append-nil xs)) some

  -- .. and a back part
  pub whole_climbs : {xs : List A} {x : ℕ} → Certified xs x → NonEmpty xs → (t u : ℕ) → x ≤ t → t + span R xs < R.high → u ≡ t + 1 → packed R xs t + R.tie ≤ packed R xs u
  whole_climbs {xs} sure some t u after room e = sure.climbs [] xs refl some t t u after room (omega arith) e

  -- a front part, also an empty one, does not gain by a step to the left ..
  pub front_rests : R.tie ≤ 1 → {xs : List A} {x : ℕ} → Certified xs x → (ps ss : List A) → xs ≡ ps ++ ss → (t u : ℕ) → R.low ≤ t → t < x → u ≡ t + 1 → packed R ps u ≤ packed R ps t
  front_rests small sure [] ss e t u from before step = omega arith
  front_rests small sure (p ∷ ps) ss e t u from before step = let fall = sure.falls (p ∷ ps) ss e tt t u from before step in omega arith

  -- .. nor a back part by one to the right
  pub back_rests : {xs : List A} {x : ℕ} → Certified xs x → (ps ss : List A) → xs ≡ ps ++ ss → (t v w : ℕ) → x ≤ t → t + span R xs < R.high → (NonEmpty ss → v ≡ t + reach R ps ss) → w ≡ v + 1 → packed R ss v ≤ packed R ss w
  back_rests sure ps [] e t v w after room place step = omega arith
  back_rests sure ps (s ∷ ss) e t v w after room place step = let climb = sure.climbs ps (s ∷ ss) e tt t v w after room (place tt) step in omega arith

  -- from their best site on the cells climb
  pub best_climbs : Tight R → {cs : List A} {z : ℕ} → AllBend R cs → IsBest cs z → (t u : ℕ) → z ≤ t → t + span R cs < R.high → u ≡ t + 1 → packed R cs t + R.tie ≤ packed R cs u
  best_climbs tight {cs} {z} bend best t u after room e =
      climbs_on R tight cs bend z (z + 1) t u best.from after room refl e (best.climbs (z + 1) (omega arith) refl)

  -- one cell at its best site is certified
  pub one_cell : Tight R → {c : A} {z : ℕ} → Bends R c → IsBest (c ∷ []) z → Certified (c ∷ []) z
  one_cell tight {c} {z} bend best = record {
    from = best.from;
    to = best.to;
    falls = λ ps ss e some t u from before step.
        let all = one_front c ps ss e some in
        let fall = best.falls t u from before step in
        rw all fall;
    climbs = λ ps ss e some t v w after room ev ew.
        let none = one_back c ps ss e some in
        let all : c ∷ [] ≡ ss = e ∙ ap (λ l. l ++ ss) none in
        let still = ap (λ l. reach R l ss) none in
        let here : t ≡ v = omega arith in
        let climb = best_climbs tight (bend, tt) best v w (omega arith) (omega arith) ew in
        rw (← all) climb;
  }

  -- of two best sites neither is right of the other ..
  best_order : {cs : List A} {y z : ℕ} → IsBest cs y → IsBest cs z → z ≤ y
  best_order {cs} {y} {z} a b =
      let to_z = b.to in
      elim (cases_lt y z) [
        | inl less ↦
            let fall = b.falls y (y + 1) a.from less refl in
            let climb = a.climbs (y + 1) (omega arith) refl in
            omega arith
        | inr more ↦ more
      ]

  -- .. so cells have one best site
  pub one_best : {cs : List A} {y z : ℕ} → IsBest cs y → IsBest cs z → y ≡ z
  one_best a b = let down = best_order a b in let up = best_order b a in omega arith

  -- a site is the best if the cells fall just before it and climb at it
  pub is_best : Tight R → (cs : List A) → AllBend R cs → (z : ℕ) → R.low ≤ z → z + span R cs ≤ R.high → ((t : ℕ) → R.low ≤ t → z ≡ t + 1 → packed R cs z + 1 ≤ packed R cs t + R.tie) → ((u : ℕ) → z + span R cs < R.high → u ≡ z + 1 → packed R cs z + R.tie ≤ packed R cs u) → IsBest cs z
  is_best tight cs bend z from to fall climb = record {
    from = from;
    to = to;
    falls = λ t u start before step. falls_back R tight cs bend (z - 1) z t u start (omega arith) (omega arith) (omega arith) step (fall (z - 1) (omega arith) (omega arith));
    climbs = climb;
  }

  module _ {xs ys : List A} {x y z : ℕ} (some_x : NonEmpty xs) (some_y : NonEmpty ys) (sure_x : Certified xs x) (sure_y : Certified ys y) (touch : y ≤ x + reach R xs ys) (best : IsBest (xs ++ ys) z) where
    -- the best site of two clusters that overlap or touch is not right of the first ..
    pub join_left : Tight R → z ≤ x
    join_left tight =
        let length = span-append R xs ys in
        let shorter = span_front R tight xs ys in
        let from_x = sure_x.from in
        let to_z = best.to in
        elim (cases_lt x z) [
          | inl right ↦
              let fall = best.falls x (x + 1) from_x right refl in
              let climb_x = whole_climbs sure_x some_x x (x + 1) (omega arith) (omega arith) refl in
              let r : ℕ = x + reach R xs ys in
              let climb_y = whole_climbs sure_y some_y r (r + 1) touch (omega arith) refl in
              let before = packed-append R xs ys x r refl in
              let after = packed-append R xs ys (x + 1) (r + 1) (omega arith) in
              omega arith
          | inr left ↦ left
        ]

    -- .. and does not leave the second left of its own site
    pub join_right : Tight R → R.tie ≤ 1 → y ≤ z + reach R xs ys
    join_right tight small =
        let length = span-append R xs ys in
        let left = join_left tight in
        let from_z = best.from in
        let to_y = sure_y.to in
        let r : ℕ = z + reach R xs ys in
        elim (cases_lt r y) [
          | inl short ↦
              let climb = best.climbs (z + 1) (omega arith) refl in
              let fall_x = whole_falls sure_x some_x z (z + 1) from_z (omega arith) refl in
              let fall_y = whole_falls sure_y some_y r (r + 1) (omega arith) short refl in
              let before = packed-append R xs ys z r refl in
              let after = packed-append R xs ys (z + 1) (r + 1) (omega arith) in
              omega arith
          | inr long ↦ long
        ]

    -- the front parts of the two together fall
    join_falls : Tight R → R.tie ≤ 1 → (ps ss : List A) → xs ++ ys ≡ ps ++ ss → NonEmpty ps → (t u : ℕ) → R.low ≤ t → t < z → u ≡ t + 1 → packed R ps u + 1 ≤ packed R ps t + R.tie
    join_falls tight small ps ss e some t u from before step =
        let left = join_left tight in
        let to_z = best.to in
        let r : ℕ = t + reach R xs ys in
        let behind : Longer xs ys ps ss → packed R ps u + 1 ≤ packed R ps t + R.tie = λ h.
        let ms : List A = h.between in
        let same = ap (reach R xs) h.back in
        elim (cases_lt r y) [
          | inl short ↦
              let fall = whole_falls sure_x some_x t u from (omega arith) step in
              let rest = front_rests small sure_y ms ss h.back r (r + 1) (omega arith) short refl in
              let at_t = packed_part R xs ms ss t r (omega arith) in
              let at_u = packed_part R xs ms ss u (r + 1) (omega arith) in
              rw h.front (omega arith)
          | inr long ↦
              let length = span-append R xs ys in
              let further = reach-append R xs ms ss in
              let same_ps = ap (λ l. reach R l ss) h.front in
              let v : ℕ = t + reach R ps ss in
              let fall = best.falls t u from before step in
              let rest = back_rests sure_y ms ss h.back r v (v + 1) long (omega arith) (λ _. omega arith) refl in
              let all_t = ap (λ l. packed R l t) e in
              let all_u = ap (λ l. packed R l u) e in
              let at_t = packed-append R ps ss t v refl in
              let at_u = packed-append R ps ss u (v + 1) (omega arith) in
              omega arith
        ] in
        elim (longer xs ys ps ss e) [
          | inl h ↦ behind h
          | inr h ↦ sure_x.falls ps h.between h.front some t u from (omega arith) step
        ]

    -- the back parts of the two together climb
    join_climbs : Tight R → R.tie ≤ 1 → AllBend R (xs ++ ys) → (ps ss : List A) → xs ++ ys ≡ ps ++ ss → NonEmpty ss → (t v w : ℕ) → z ≤ t → t + span R (xs ++ ys) < R.high → v ≡ t + reach R ps ss → w ≡ v + 1 → packed R ss v + R.tie ≤ packed R ss w
    join_climbs tight small bend ps ss e some t v w after room place step =
        let length = span-append R xs ys in
        let shorter = span_front R tight xs ys in
        let right = join_right tight small in
        let from_z = best.from in
        let r : ℕ = t + reach R xs ys in
        let inside : Longer ps ss xs ys → packed R ss v + R.tie ≤ packed R ss w = λ h.
        let ms : List A = h.between in
        elim (cases_lt t x) [
          | inl early ↦
              let climb = best_climbs tight bend best t (t + 1) after room refl in
              let rest = front_rests small sure_x ps ms h.front t (t + 1) (omega arith) early refl in
              let all_t = ap (λ l. packed R l t) e in
              let all_u = ap (λ l. packed R l (t + 1)) e in
              let at_t = packed-append R ps ss t v place in
              let at_u = packed-append R ps ss (t + 1) w (omega arith) in
              omega arith
          | inr late ↦
              let same = ap (reach R ps) h.back in
              let same_xs = ap (λ l. reach R l ys) h.front in
              let further = reach-append R ps ms ys in
              let climb = whole_climbs sure_y some_y r (r + 1) (omega arith) (omega arith) refl in
              let rest = back_rests sure_x ps ms h.front t v w late (omega arith) (λ more. let front = reach_front R ps ms ys more in omega arith) step in
              let at_v = packed-append R ms ys v r (omega arith) in
              let at_w = packed-append R ms ys w (r + 1) (omega arith) in
              rw h.back (omega arith)
        ] in
        elim (longer xs ys ps ss e) [
          | inl h ↦
              let same = ap (reach R xs) h.back in
              let same_ps = ap (λ l. reach R l ss) h.front in
              let further = reach-append R xs h.between ss in
              sure_y.climbs h.between ss h.back some r v w (omega arith) (omega arith) (omega arith) step
          | inr h ↦ inside h
        ]

    -- the two joined at their best site are certified
    pub join : Tight R → R.tie ≤ 1 → AllBend R (xs ++ ys) → Certified (xs ++ ys) z
    join tight small bend = record { from = best.from; to = best.to; falls = join_falls tight small; climbs = join_climbs tight small bend }
