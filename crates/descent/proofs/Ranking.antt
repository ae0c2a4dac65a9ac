-- The descent row by row: a vertex's successors have higher rows. The list c has the places. Assumes nothing.
use Rattle.counting.proofs.Prelude.{◌≡◌, refl, sym, ap, ap₂, ◌∙◌, subst, ◌≢◌, inr, ⊎_elim, ◌↔◌, List, ℕ, ◌+◌, ◌-◌, ◌*◌, ◌^◌, ◌≤◌, ◌<◌}
use Rattle.counting.proofs.Prelude.{arith, length, get_or, eq-eqb}
use Rattle.counting.specs.Quads.{quad}
use Rattle.counting.proofs.Truth.{lt-or-le, two_cases}
use Rattle.specification.specs.Count.{above}
use Rattle.specification.specs.Sets.{bit, at, has?}
use Rattle.specification.specs.Graph.{Reaches}
use Rattle.specification.specs.Graph.Reaches.{one, more}
use Rattle.rows.specs.Levels.{level_within, level}
use Rattle.masks.specs.Pairs.{in_pair}
use Rattle.masks.proofs.Bits.{without}
use Rattle.masks.proofs.Tables.{at_lt}
use Rattle.masks.proofs.Pairing.{pair_lt, pair_low, pair_high, pair_at, pair_without}
use Rattle.counting.proofs.Above.{above_each}
use Rattle.rows.proofs.Depth.{settled}
use Rattle.descent.specs.Steps.Members.{Long}
use Rattle.descent.specs.Steps.Closed.{Arc, Ample, Finished, Same, Row, Inside, Prefixes, Closed}
use Rattle.descent.proofs.Gathering.{long_below}
use Rattle.descent.proofs.Descending.{same_refl, same_trans}
use Rattle.descent.proofs.Arcs.{reached-count}

-- a table of 2 n masks has masks for every vertex that an edge enters
pub inside_ample : (e t : List ℕ) (n : ℕ) → Inside e n → 2 * n ≤ length t → Ample e t
inside_ample e t n inside h = record { room = λ u v a. let k = inside.head u v a in omega arith }

-- rows rise along every edge, where they are below 128
module _ (e : List ℕ) (n : ℕ) (inside : Inside e n) (low : (v : ℕ) → v < n → level (has? 2 e) n v < 128) where
  pub arc_rises : (u v : ℕ) → Arc e u v → level (has? 2 e) n u < level (has? 2 e) n v
  unfolding level_within has?
  arc_rises u v a =
      let l = low v (inside.head u v a) in
      let s : above n (λ x. has? 2 e x v) (level (has? 2 e) n) ≡ level (has? 2 e) n v = settled (has? 2 e) n 128 129 v (omega arith)
      (inr l) in
      let k = above_each n (λ x. has? 2 e x v) (level (has? 2 e) n) u (inside.tail u v a) (eq-eqb _ _ a.2) in
      omega arith

  -- and along every route, so that there is no cycle
  pub route_rises : {u v : ℕ} → Reaches (Arc e) u v → level (has? 2 e) n u < level (has? 2 e) n v
  route_rises (one a) = arc_rises _ _ a
  route_rises (more a p) = let k = arc_rises _ _ a in let r = route_rises p in omega arith

  pub no_cycle : (u : ℕ) → Reaches (Arc e) u u → ⊥
  no_cycle u p = let k = route_rises p in omega arith

-- the vertices of row r and higher are done, and those that are none of the n vertices are as they were
pub record Descended (e : List ℕ) (n r : ℕ) (t l c t' l' c' : List ℕ) : Type 0 where
  pub done : (v : ℕ) → v < n → r ≤ level (has? 2 e) n v → Finished e t' l' c' v
  pub others : (v : ℕ) → n ≤ v → Same v t l t' l'
  pub rest : (k v : ℕ) → k < 4 → (k ≡ 3 → n ≤ v) → quad k c' v ≡ quad k c v

module _ (e : List ℕ) (n top : ℕ) (below : List ℕ) (inside : Inside e n) (pre : Prefixes e n top below) where
  pub descended_none : (t l c : List ℕ) → Descended e n top t l c t l c
  descended_none t l c = record {
    done = λ v h g. absurd (let k = pre.all v h in omega arith);
    others = λ v h. same_refl v t l;
    rest = λ k v h g. refl;
  }

  rises : (u v : ℕ) → Arc e u v → level (has? 2 e) n u < level (has? 2 e) n v
  rises = arc_rises e n inside (λ v h. let a = pre.all v h in let b = pre.few in let s = inside.small in omega arith)

  module _ (r p q p' q' : ℕ) (hr : r < top) (ep : p ≡ get_or below (2 * r + 2) 0) (eq : q ≡ get_or below (2 * r) 0)
      (ep' : p' ≡ get_or below (2 * r + 3) 0) (eq' : q' ≡ get_or below (2 * r + 1) 0)
      (fq : q < 2 ^ 64) (fq' : q' < 2 ^ 64) where
    -- the members of the two masks are the vertices of row r
    of_row : (v : ℕ) → v < 128 → in_pair (without p q) (without p' q') v ≡ 1 ↔ ((v < n) × (level (has? 2 e) n v ≡ r))
    of_row v h = (
      (λ i.
          let w = pair_without p p' q q' v h fq fq' in
          let a = pair_lt p p' v in
          let y = (pre.members (r + 1) v (omega arith) h).0 (sym upper ∙ omega arith) in
          let z : at 2 below r v ≡ 0 = sym lower ∙ omega arith in
          let g = y.1 in (
            y.0,
            ⊎_elim (λ k. absurd (let m = (pre.members r v (omega arith) h).1 (y.0, k) in omega arith)) (λ k. omega arith)
                (lt-or-le (level (has? 2 e) n v) r),
          )),
      λ i.
          let w = pair_without p p' q q' v h fq fq' in
          let g = i.1 in
          let y : in_pair p p' v ≡ 1 = upper ∙ (pre.members (r + 1) v (omega arith) h).1 (i.0, omega arith) in
          let z : in_pair q q' v ≡ 0 = lower
          ∙ ⊎_elim (λ k. k) (λ k. absurd (let m = ((pre.members r v (omega arith) h).0 k).1 in omega arith))
          (two_cases (at 2 below r v) (at_lt 2 below r v)) in
          omega arith,
    )
      where
        upper : in_pair p p' v ≡ at 2 below (r + 1) v
        upper =
            ap₂ (λ (x y : ℕ). in_pair x y v)
            (ep ∙ ap (λ (i : ℕ). get_or below i 0) (let k : 2 * r + 2 ≡ 2 * (r + 1) = omega arith in k))
            (ep' ∙ ap (λ (i : ℕ). get_or below i 0) (let k : 2 * r + 3 ≡ 2 * (r + 1) + 1 = omega arith in k))
            ∙ pair_at below (r + 1) v h

        lower : in_pair q q' v ≡ at 2 below r v
        lower = ap₂ (λ (x y : ℕ). in_pair x y v) eq eq' ∙ pair_at below r v h

    pub low-row : (j : ℕ) → j < 64 → bit (without p q) j ≡ 1 ↔ ((j < n) × (level (has? 2 e) n j ≡ r))
    low-row j h = ((λ i. (of_row j (omega arith)).0 (pair_low _ _ j h ∙ i)), λ i. sym (pair_low _ _ j h) ∙ (of_row j (omega arith)).1 i)

    pub high-row : (j : ℕ) → j < 64 → bit (without p' q') j ≡ 1 ↔ ((64 + j < n) × (level (has? 2 e) n (64 + j) ≡ r))
    high-row j h = (
      (λ i. (of_row (64 + j) (omega arith)).0 (pair_high _ _ j h ∙ i)),
      λ i. sym (pair_high (without p q) _ j h)
          ∙ (of_row (64 + j) (omega arith)).1 i,
    )

    -- a list of w numbers for each of n vertices has theirs
    pub row_long : (w : ℕ) (t : List ℕ) → w * n ≤ length t → Long w t (without p q) 0 × Long w t (without p' q') 64
    row_long w t h = long_below w t n (without p q) (without p' q') h (λ v hv i. ((of_row v hv).0 i).0)

    module _ (t₀ l₀ c₀ t l c : List ℕ) (g : Descended e n (r + 1) t₀ l₀ c₀ t l c) where
      ready : (u w : ℕ) → level (has? 2 e) n u ≡ r → Arc e u w → Finished e t l c w
      ready u w k a = g.done w (inside.head u w a) (let d = rises u w a in omega arith)

      -- the successors of row r's vertices are done
      pub ready_low : (j : ℕ) → j < 64 → bit (without p q) j ≡ 1 → (w : ℕ) → Arc e (0 + j) w → Finished e t l c w
      ready_low j h i w a = ready (0 + j) w (ap (level (has? 2 e) n) (let k : 0 + j ≡ j = omega arith in k) ∙ ((low-row j h).0 i).1) a

      module _ (t' l' c' : List ℕ) (first : Row e (without p q) 0 t l c t' l' c') where
        pub ready_high : (j : ℕ) → j < 64 → bit (without p' q') j ≡ 1 → (w : ℕ) → Arc e (64 + j) w → Finished e t' l' c' w
        ready_high j h i w a = first.kept w (ready (64 + j) w ((high-row j h).0 i).1 a)

        pub descended_more : (t'' l'' c'' : List ℕ) → Row e (without p' q') 64 t' l' c' t'' l'' c'' → Descended e n r t₀ l₀ c₀ t'' l'' c''
        descended_more t'' l'' c'' second = record {
          done =
              λ v h k. ⊎_elim (λ b. second.kept v (first.kept v (g.done v h (omega arith)))) (λ b. own v h (omega arith))
              (lt-or-le r (level (has? 2 e) n v));
          others = λ v h. same_trans v t₀ l₀ t' l' t'' l'' (same_trans v t₀ l₀ t l t' l' (g.others v h) (first.others v (out_low v h)))
              (second.others v (out_high v h));
          rest = λ k v h o. second.rest k v h (λ z. out_high v (o z)) ∙ first.rest k v h (λ z. out_low v (o z)) ∙ g.rest k v h o;
        }
          where
            -- who is none of the n vertices is no member
            out_low : (v : ℕ) → n ≤ v → (j : ℕ) → j < 64 → bit (without p q) j ≡ 1 → v ≢ 0 + j
            out_low v h j m i k = let o = ((low-row j m).0 i).0 in omega arith

            out_high : (v : ℕ) → n ≤ v → (j : ℕ) → j < 64 → bit (without p' q') j ≡ 1 → v ≢ 64 + j
            out_high v h j m i k = let o = ((high-row j m).0 i).0 in omega arith

            own : (v : ℕ) → v < n → level (has? 2 e) n v ≡ r → Finished e t'' l'' c'' v
            own v h k =
                let s = inside.small in
                ⊎_elim
                (λ b. second.kept v
                (subst (λ (x : ℕ). Finished e t' l' c' x) (let z : 0 + v ≡ v = omega arith in z)
                (first.done v b ((low-row v b).1 (h, k)))))
                (λ b.
                let z : v ≡ 64 + (v - 64) = omega arith in
                let m : v - 64 < 64 = omega arith in
                subst (λ (x : ℕ). Finished e t'' l'' c'' x) (sym z)
                (second.done (v - 64) m ((high-row (v - 64) m).1 (omega arith, ap (level (has? 2 e) n) (sym z) ∙ k))))
                (lt-or-le v 64)

  pub descended_all : (t l c t' l' c' : List ℕ) → Descended e n 0 t l c t' l' c' → Closed e n t l c t' l' c'
  descended_all t l c t' l' c' g = record {
    bits = λ u v hu hv. (all u hu).reached v hv;
    farther = λ u v hu hv. (all u hu).farther v hv;
    counted = λ u hu. (all u hu).counted ∙ reached-count e n inside t' u (all u hu).reached;
    others = g.others;
    rest = g.rest;
  }
    where
      all : (u : ℕ) → u < n → Finished e t' l' c' u
      all u hu = g.done u hu (omega arith)
