-- A certified cluster against every legal chain of its own cells: none is cheaper, and none as cheap is further left.
use Rattle.std.proofs.Common.{◌≡◌, ℕ, zero, suc, ◌+◌, ◌-◌, ◌<◌, ◌≤◌, List, [], ◌∷◌, ◌++◌, sym, refl, ap, ◌∙◌, inl, inr, append_assoc, arith}
use Rattle.std.proofs.lemmas.Bool.{cases_lt}
use Rattle.row.proofs.Theory.Packed.{Lane, NonEmpty, NotRight, some_append, next, span, packed, reach, sites, cost, Chain, packed-append, span-append, reach-append, packed_part}
use Rattle.row.proofs.Theory.Certificates.{Certified, front_rests, back_rests}
use Rattle.row.proofs.Theory.Chains.{chain_room, chain_forces}

module _ {A : Type 0} (R : Lane A) where
  module _ {xs : List A} {x : ℕ} (sure : Certified R xs x) where
    -- a back part does not gain by moving right
    back_slide : (ps ss : List A) → xs ≡ ps ++ ss → (d t v w : ℕ) → x ≤ t → t + d + span R xs ≤ R.high → v ≡ t + reach R ps ss → w ≡ v + d → packed R ss v ≤ packed R ss w
    back_slide ps ss e zero t v w after room place far =
        let here : v ≡ w = omega arith in
        let same = ap (packed R ss) here in
        omega arith
    back_slide ps ss e (suc d) t v w after room place far =
        let step = back_rests R sure ps ss e t v (v + 1) after (omega arith) (λ _. place) refl in
        let rest = back_slide ps ss e d (t + 1) (v + 1) w (omega arith) (omega arith) (omega arith) (omega arith) in
        omega arith

    -- a chain of a back part that starts at or right of its place is not cheaper
    back_walk : (ps ss : List A) → xs ≡ ps ++ ss → (ys : List ℕ) (t v : ℕ) → x ≤ t → v ≡ t + reach R ps ss → Chain R v ss ys → packed R ss v ≤ cost R ss ys
    back_walk ps [] e ys t v after place chain = omega arith
    back_walk ps (s ∷ ss) e [] t v after place chain = absurd chain
    back_walk ps (s ∷ ss) e (y ∷ ys) t v after place chain =
        let room = chain_room R s ss y ys v chain in
        let length = span-append R ps (s ∷ ss) in
        let whole = ap (span R) e in
        let start = chain.0 in
        let slide = back_slide ps (s ∷ ss) e (y - v) t v y after (omega arith) place (omega arith) in
        let further = reach-append R ps (s ∷ []) ss in
        let parts : xs ≡ (ps ++ (s ∷ [])) ++ ss = e ∙ sym (append_assoc ps (s ∷ []) ss) in
        let rest = back_walk (ps ++ (s ∷ [])) ss parts ys (t + (y - v)) (y + next R s ss) (omega arith) (omega arith) chain.2 in
        omega arith

    module _ (small : R.tie ≤ 1) where
      -- a front part does not gain by moving left
      front_slide : (ps ss : List A) → xs ≡ ps ++ ss → (d t u : ℕ) → R.low ≤ t → u ≤ x → u ≡ t + d → packed R ps u ≤ packed R ps t
      front_slide ps ss e zero t u from before far =
          let here : t ≡ u = omega arith in
          let same = ap (packed R ps) here in
          omega arith
      front_slide ps ss e (suc d) t u from before far =
          let step = front_rests R small sure ps ss e t (t + 1) from (omega arith) refl in
          let rest = front_slide ps ss e d (t + 1) u (omega arith) before (omega arith) in
          omega arith

      -- it loses by it, where the first best site is taken
      front_loses : (ps ss : List A) → xs ≡ ps ++ ss → NonEmpty ps → (t : ℕ) → R.low ≤ t → t < x → packed R ps x + 1 ≤ packed R ps t + R.tie
      front_loses ps ss e some t from before =
          let step = sure.falls ps ss e some t (t + 1) from before refl in
          let rest = front_slide ps ss e (x - (t + 1)) (t + 1) x (omega arith) (omega arith) (omega arith) in
          omega arith

      -- a chain that begins with a front part left of its place costs more, where the first best site is taken
      front_walk : (ps ss : List A) → xs ≡ ps ++ ss → NonEmpty ps → (ys : List ℕ) (t v : ℕ) → R.low ≤ t → t < x → v ≡ t + reach R ps ss → Chain R v ss ys → packed R xs x + 1 ≤ packed R ps t + cost R ss ys + R.tie
      front_walk ps [] e some ys t v from before place chain =
          let lose = front_loses ps [] e some t from before in
          let whole = ap (λ l. packed R l x) e in
          let parts = packed-append R ps [] x (x + reach R ps []) refl in
          omega arith
      front_walk ps (s ∷ ss) e some [] t v from before place chain = absurd chain
      front_walk ps (s ∷ ss) e some (y ∷ ys) t v from before place chain =
          let start = chain.0 in
          let w : ℕ = x + reach R ps (s ∷ ss) in
          let u : ℕ = t + (y - v) in
          let parts : xs ≡ (ps ++ (s ∷ [])) ++ ss = e ∙ sym (append_assoc ps (s ∷ []) ss) in
          let further = reach-append R ps (s ∷ []) ss in
          elim (cases_lt y w) [
            | inl left ↦
                let slide = front_slide ps (s ∷ ss) e (y - v) t u from (omega arith) refl in
                let rest = front_walk (ps ++ (s ∷ [])) ss parts (some_append ps (s ∷ []) some) ys u (y + next R s ss) (omega arith) (omega arith) (omega arith) chain.2 in
                let one_more = packed_part R ps (s ∷ []) ss u y (omega arith) in
                omega arith
            | inr right ↦
                let lose = front_loses ps (s ∷ ss) e some t from before in
                let rest = back_walk ps (s ∷ ss) e (y ∷ ys) x w (omega arith) refl (right, chain.1, chain.2) in
                let whole = ap (λ l. packed R l x) e in
                let split = packed-append R ps (s ∷ ss) x w refl in
                omega arith
          ]

  module _ (small : R.tie ≤ 1) where
    -- a chain that begins left of the cluster costs more, where the first best site is taken
    chain_loses : (c : A) (cs : List A) (x : ℕ) → Certified R (c ∷ cs) x → (y : ℕ) (ys : List ℕ) → Chain R R.low (c ∷ cs) (y ∷ ys) → y < x → packed R (c ∷ cs) x + 1 ≤ cost R (c ∷ cs) (y ∷ ys) + R.tie
    chain_loses c cs x sure y ys chain left =
        let walk = front_walk sure small (c ∷ []) cs refl tt ys y (y + next R c cs) chain.0 left (omega arith) chain.2 in
        omega arith

    -- no chain is cheaper than a certified cluster
    pub cluster_cheapest : (xs : List A) {x : ℕ} → Certified R xs x → (ys : List ℕ) → Chain R R.low xs ys → packed R xs x ≤ cost R xs ys
    cluster_cheapest [] sure ys chain = omega arith
    cluster_cheapest (c ∷ cs) sure [] chain = absurd chain
    cluster_cheapest (c ∷ cs) {x} sure (y ∷ ys) chain =
        elim (cases_lt y x) [
          | inl left ↦ let lose = chain_loses c cs x sure y ys chain left in omega arith
          | inr right ↦ back_walk sure [] (c ∷ cs) refl (y ∷ ys) x x (omega arith) (omega arith) (right, chain.1, chain.2)
        ]

  -- no chain that is as cheap is further left, where the first best site is taken
  pub cluster_leftmost : R.tie ≡ 0 → (xs : List A) {x : ℕ} → Certified R xs x → (ys : List ℕ) → Chain R R.low xs ys → cost R xs ys ≤ packed R xs x → NotRight (sites R xs x) ys
  cluster_leftmost first [] sure ys chain cheap = tt
  cluster_leftmost first (c ∷ cs) sure [] chain cheap = tt
  cluster_leftmost first (c ∷ cs) {x} sure (y ∷ ys) chain cheap =
      let right : x ≤ y =
      elim (cases_lt y x) [
        | inl left ↦ let lose = chain_loses (omega arith) c cs x sure y ys chain left in omega arith
        | inr right ↦ right
      ] in
      chain_forces R (c ∷ cs) (y ∷ ys) x (right, chain.1, chain.2)
