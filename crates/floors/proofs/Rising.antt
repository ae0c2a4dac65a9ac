-- Level by level all vertices come from their floors to their rows. Assumes nothing.
use Rattle.counting.proofs.Prelude.{◌≡◌, ap, ◌∙◌, subst, ⊎_elim, true, List, ℕ, ◌+◌, ◌-◌, ◌*◌, ◌^◌, ◌≤◌, ◌<◌, arith, get_or}
use Rattle.counting.proofs.Prelude.{eqb-true}
use Rattle.counting.specs.Quads.{quad}
use Rattle.counting.proofs.Truth.{lt-or-le}
use Rattle.counting.proofs.Above.{above-le}
use Rattle.specification.specs.Sets.{bit, has?}
use Rattle.masks.proofs.Bits.{without}
use Rattle.rows.specs.Levels.{level}
use Rattle.descent.specs.Steps.Closed.{Arc}
use Rattle.descent.proofs.Ranking.{arc_rises, low-row, high-row}
use Rattle.floors.specs.Steps.{row_in, Slope, Over, Stands, Risen, Above, Arrived, Liftable}
use Rattle.floors.proofs.Pushing.{risen_none, risen_both, over-kept, stands_kept}

-- the vertices of lower levels have lifted their successors
pub record Climbing (e : List ℕ) (n : ℕ) (floor : ℕ → ℕ) (r : ℕ) (p s : List ℕ) : Type 0 where
  pub risen : Risen e n floor p s
  pub over : (u : ℕ) → u < n → level (has? 2 e) n u < r → Over e n floor s u

module _ (e below : List ℕ) (n top places : ℕ) (ok : Liftable e below n top places) where
  abbrev L : ℕ → ℕ
  L = level (has? 2 e) n

  pub level_rises : (u v : ℕ) → Arc e u v → L u < L v
  level_rises = arc_rises e n ok.inside (λ v h. omega (arith, ok.levels.all v h, ok.levels.few, ok.inside.small))

  pub arc_has : (u v : ℕ) → u < n → v < n → has? 2 e u v ≡ true → Arc e u v
  unfolding has?
  arc_has u v hu hv i = (omega (arith, ok.inside.small), omega (arith, ok.inside.small), eqb-true _ _ i)

  module _ (floor : ℕ → ℕ) (slope : Slope e n floor) where
    abbrev R : ℕ → ℕ
    R = row_in e n floor

    pub climbing_none : (p : List ℕ) → ((v : ℕ) → v < n → quad 2 p v ≡ floor v) → Climbing e n floor 0 p p
    climbing_none p start = record {
      risen = risen_none e n floor slope p (record {
        low = λ v h. omega (arith, start v h);
        high = λ v h. omega (arith, start v h, slope.rule v h);
      });
      over = λ u h l. absurd (omega (arith, l));
    }

    module _ (r : ℕ) (p s : List ℕ) (g : Climbing e n floor r p s) where
      -- who has only such vertices before it stands in its row
      stands : (u : ℕ) → u < n → L u ≤ r → Stands e n floor s u
      stands u h l =
          let tails = above-le n (λ x. has? 2 e x u) R (quad 2 s u)
          (λ x hx i. let a = arc_has x u hx h i in g.over x hx (omega (arith, level_rises x u a)) u a) in
          (h, omega (arith, tails, slope.rule u h, g.risen.rising.low u h, g.risen.rising.high u h))

      pub climbing_all : ((v : ℕ) → v < n → L v ≤ r) → Arrived e n floor p s
      climbing_all all = record { rows = λ v h. (stands v h (all v h)).1; others = g.risen.others }

      -- one level more
      module _ (a b a' b' : ℕ) (hr : r < top) (ea : a ≡ get_or below (2 * r + 2) 0) (eb : b ≡ get_or below (2 * r) 0)
          (ea' : a' ≡ get_or below (2 * r + 3) 0) (eb' : b' ≡ get_or below (2 * r + 1) 0) (fb : b < 2 ^ 64) (fb' : b' < 2 ^ 64) where
        pub stand_low : (j : ℕ) → j < 64 → bit (without a b) j ≡ 1 → Stands e n floor s (0 + j)
        stand_low j h i =
            let k = (low-row e n top below ok.inside ok.levels r a b a' b' hr ea eb ea' eb' fb fb' j h).0 i in
            subst (λ (x : ℕ). Stands e n floor s x) (let z : j ≡ 0 + j = omega arith in z) (stands j k.0 (omega (arith, k.1)))

        module _ (s₁ : List ℕ) (first : Above e n floor (without a b) 0 s s₁) where
          pub stand_high : (j : ℕ) → j < 64 → bit (without a' b') j ≡ 1 → Stands e n floor s₁ (64 + j)
          stand_high j h i =
              let k = (high-row e n top below ok.inside ok.levels r a b a' b' hr ea eb ea' eb' fb fb' j h).0 i in
              stands_kept e n floor slope s s₁ first.risen (64 + j) (stands (64 + j) k.0 (omega (arith, k.1)))

          module _ (s₂ : List ℕ) (second : Above e n floor (without a' b') 64 s₁ s₂) where
            both : Risen e n floor s s₂
            both = risen_both e n floor slope s s₁ s₂ first.risen second.risen

            own : (u : ℕ) → u < n → L u ≡ r → Over e n floor s₂ u
            own u h l = ⊎_elim
                (λ k.
                let i = (low-row e n top below ok.inside ok.levels r a b a' b' hr ea eb ea' eb' fb fb' u k).1 (h, l) in
                over-kept e n floor slope s₁ s₂ second.risen u
                (subst (λ (x : ℕ). Over e n floor s₁ x) (let z : 0 + u ≡ u = omega arith in z) (first.over u k i)))
                (λ k.
                let z : 64 + (u - 64) ≡ u = omega arith in
                let i = (high-row e n top below ok.inside ok.levels r a b a' b' hr ea eb ea' eb' fb fb' (u - 64)
                (omega (arith, h, ok.inside.small))).1 (omega (arith, h, z), ap L z ∙ l) in
                subst (λ (x : ℕ). Over e n floor s₂ x) z (second.over (u - 64) (omega (arith, h, ok.inside.small)) i))
                (lt-or-le u 64)

            pub climbing_more : Climbing e n floor (r + 1) p s₂
            climbing_more = record {
              risen = risen_both e n floor slope p s s₂ g.risen both;
              over = λ u h l. ⊎_elim
                  (λ k. over-kept e n floor slope s s₂ both u (g.over u h k))
                  (λ k. own u h (omega (arith, l, k)))
                  (lt-or-le (L u) r);
            }
