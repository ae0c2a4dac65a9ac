-- The successors of a vertex are lifted above it, and those of the members of a mask. Assumes nothing.
use Rattle.counting.proofs.Prelude.{◌≡◌, refl, sym, ap, ◌∙◌, subst, ◌≢◌, ⊎_elim, List, ℕ, ◌+◌, ◌-◌, ◌*◌, ◌^◌, ◌≤◌, ◌<◌, min, max, arith}
use Rattle.counting.proofs.Prelude.{length, get_or, eq-eqb}
use lib.Count.{count_trailing_zeros}
use Rattle.counting.specs.Quads.{quad}
use Rattle.counting.proofs.Truth.{lt-or-le, two_cases}
use Rattle.counting.proofs.Above.{above_each}
use Rattle.specification.specs.Sets.{bit, at, has?}
use Rattle.masks.proofs.Clearing.{clear}
use Rattle.masks.proofs.Tables.{at_lt}
use Rattle.masks.proofs.Pairing.{pair_low, pair_high, pair_at}
use Rattle.masks.proofs.Visiting.{Visited, visited_none, visited_all, visited_more, lowest-lt, lowest_in}
use Rattle.descent.specs.Steps.Members.{Long}
use Rattle.descent.specs.Steps.Closed.{Arc}
use Rattle.floors.specs.Steps.{Lifted, Ample, Pushed, row_in, Slope, Rising, Over, Stands, Risen, Above}

-- ---- one vertex

module _ (e : List ℕ) (u : ℕ) (few : u < 128) where
  abbrev low : ℕ
  low = get_or e (2 * u) 0

  abbrev high : ℕ
  high = get_or e (2 * u + 1) 0

  -- its two masks have its successors
  low_arc : (j : ℕ) → j < 64 → bit low j ≡ 1 → Arc e u j
  low_arc j h i = (few, omega arith, sym (pair_at e u j (omega arith)) ∙ pair_low low high j h ∙ i)

  high_arc : (j : ℕ) → j < 64 → bit high j ≡ 1 → Arc e u (64 + j)
  high_arc j h i = (few, omega arith, sym (pair_at e u (64 + j) (omega arith)) ∙ pair_high low high j h ∙ i)

  arc_low : (v : ℕ) → v < 64 → Arc e u v → bit low v ≡ 1
  arc_low v h a = sym (pair_low low high v h) ∙ pair_at e u v (omega arith) ∙ a.2

  arc_high : (j : ℕ) → j < 64 → Arc e u (64 + j) → bit high j ≡ 1
  arc_high j h a = sym (pair_high low high j h) ∙ pair_at e u (64 + j) (omega arith) ∙ a.2

  module _ (p : List ℕ) (room : Ample e p) where
    pub low_long : (s : List ℕ) → length s ≡ length p → Long 4 s low 0
    low_long s q = record { room = λ j h i. let k = room.room u j (low_arc j h i) in omega (arith, q, k) }

    pub high_long : (s : List ℕ) → length s ≡ length p → Long 4 s high 64
    high_long s q = record { room = λ j h i. let k = room.room u (64 + j) (high_arc j h i) in omega (arith, q, k) }

  module _ (p s p' : List ℕ) (r : ℕ) (above-it : r ≡ min (quad 2 p u + 1) 255) (first : Lifted low 0 r p s)
      (second : Lifted high 64 r s p') where
    out_low : (v : ℕ) → 64 ≤ v → (j : ℕ) → j < 64 → bit low j ≡ 1 → v ≢ 0 + j
    out_low v h j k i q = omega (arith, q)

    out_high : (v : ℕ) → v < 64 → (j : ℕ) → j < 64 → bit high j ≡ 1 → v ≢ 64 + j
    out_high v h j k i q = omega (arith, q)

    pub pushed_both : Pushed e u p p'
    pushed_both = record {
      heads = λ v a. ⊎_elim
          (λ h. second.others 2 v (omega arith) (λ _. out_high v h) ∙ lower v h a)
          (λ h. subst (λ (x : ℕ). quad 2 p' x ≡ max (quad 2 p x) (min (quad 2 p u + 1) 255)) (let z : 64 + (v - 64) ≡ v = omega arith in z)
          (upper (v - 64) (omega (arith, a.1)) (subst (λ (x : ℕ). Arc e u x) (let z : v ≡ 64 + (v - 64) = omega arith in z) a)))
          (lt-or-le v 64);
      others = λ k v l o. second.others k v l (λ q j h i d. o q (subst (λ (x : ℕ). Arc e u x) (sym d) (high_arc j h i)))
          ∙ first.others k v l (λ q j h i d. o q (subst (λ (x : ℕ). Arc e u x) (sym (d ∙ from_0 j)) (low_arc j h i)));
    }
      where
        from_0 : (j : ℕ) → 0 + j ≡ j
        from_0 j = omega arith

        lower : (v : ℕ) → v < 64 → Arc e u v → quad 2 s v ≡ max (quad 2 p v) (min (quad 2 p u + 1) 255)
        lower v h a =
            subst (λ (x : ℕ). quad 2 s x ≡ max (quad 2 p x) r) (from_0 v) (first.members v h (arc_low v h a))
            ∙ ap (max (quad 2 p v)) above-it

        upper : (j : ℕ) → j < 64 → Arc e u (64 + j) → quad 2 p' (64 + j) ≡ max (quad 2 p (64 + j)) (min (quad 2 p u + 1) 255)
        upper j h a =
            second.members j h (arc_high j h a)
            ∙ ap (λ (x : ℕ). max x r) (first.others 2 (64 + j) (omega arith) (λ _. out_low (64 + j) (omega arith)))
            ∙ ap (max (quad 2 p (64 + j))) above-it

-- ---- on the way

module _ (e : List ℕ) (n : ℕ) (floor : ℕ → ℕ) (slope : Slope e n floor) where
  abbrev R : ℕ → ℕ
  R = row_in e n floor

  -- rows rise along every edge
  pub row_rises : (u v : ℕ) → Arc e u v → R u < R v
  unfolding has?
  row_rises u v a =
      let k = above_each n (λ x. has? 2 e x v) R u (slope.inside.tail u v a) (eq-eqb _ _ a.2) in
      omega (arith, k, slope.rule v (slope.inside.head u v a))

  pub risen_none : (p : List ℕ) → Rising e n floor p → Risen e n floor p p
  risen_none p g = record { rising = g; grown = λ v h. omega arith; others = λ k v l o. refl }

  pub risen_both : (p s p' : List ℕ) → Risen e n floor p s → Risen e n floor s p' → Risen e n floor p p'
  risen_both p s p' a b = record {
    rising = b.rising;
    grown = λ v h. omega (arith, a.grown v h, b.grown v h);
    others = λ k v l o. b.others k v l o ∙ a.others k v l o;
  }

  -- what is above a row stays so, and what stands in its row does
  pub over-kept : (p p' : List ℕ) → Risen e n floor p p' → (u : ℕ) → Over e n floor p u → Over e n floor p' u
  over-kept p p' g u o v a = omega (arith, o v a, g.grown v (slope.inside.head u v a))

  pub stands_kept : (p p' : List ℕ) → Risen e n floor p p' → (u : ℕ) → Stands e n floor p u → Stands e n floor p' u
  stands_kept p p' g u s = (s.0, omega (arith, s.1, g.grown u s.0, g.rising.high u s.0))

  -- one vertex that stands in its row lifts its successors
  module _ (p p' : List ℕ) (u : ℕ) (g : Rising e n floor p) (s : Stands e n floor p u) (d : Pushed e u p p') where
    lifted : (v : ℕ) → Arc e u v → quad 2 p' v ≡ max (quad 2 p v) (R u + 1)
    lifted v a = omega (arith, d.heads v a, s.1, slope.low u s.0)

    same : (v : ℕ) → (Arc e u v → ⊥) → quad 2 p' v ≡ quad 2 p v
    same v o = d.others 2 v (omega arith) (λ _. o)

    each : (v : ℕ) → v < n → (quad 2 p v ≤ quad 2 p' v) × (quad 2 p' v ≤ R v)
    each v h = ⊎_elim
        (λ z. let k = same v (λ a. omega (arith, a.2, z)) in (omega (arith, k), omega (arith, k, g.high v h)))
        (λ i.
        let a : Arc e u v = (small u s.0, small v h, i) in
        let k = lifted v a in
        (omega (arith, k), omega (arith, k, g.high v h, row_rises u v a)))
        (two_cases (at 2 e u v) (at_lt 2 e u v))
      where
        small : (x : ℕ) → x < n → x < 128
        small x l = omega (arith, l, slope.inside.small)

    pub pushed_risen : Risen e n floor p p'
    pushed_risen = record {
      rising = record { low = λ v h. omega (arith, g.low v h, (each v h).0); high = λ v h. (each v h).1 };
      grown = λ v h. (each v h).0;
      others = λ k v l o. d.others k v l (λ q a. omega (arith, o q, slope.inside.head u v a));
    }

    pub pushed_over : Over e n floor p' u
    pushed_over v a = omega (arith, lifted v a)

-- ---- the members of a mask

-- x has those that are left
pub record Pushing (e : List ℕ) (n : ℕ) (floor : ℕ → ℕ) (mask base : ℕ) (p s : List ℕ) (x : ℕ) : Type 0 where
  pub members : Visited mask x (λ j. Over e n floor s (base + j))
  pub risen : Risen e n floor p s

module _ (e : List ℕ) (n : ℕ) (floor : ℕ → ℕ) (mask base : ℕ) (p : List ℕ) (slope : Slope e n floor)
    (stand : (j : ℕ) → j < 64 → bit mask j ≡ 1 → Stands e n floor p (base + j)) where
  pub pushing_none : Rising e n floor p → mask < 2 ^ 64 → Pushing e n floor mask base p p mask
  pushing_none g h = record { members = visited_none mask (λ j. Over e n floor p (base + j)) h; risen = risen_none e n floor slope p g }

  pub pushing_more : (s : List ℕ) (x u : ℕ) (s' : List ℕ) → Pushing e n floor mask base p s x → x ≢ 0 → u ≡ base + count_trailing_zeros 64 x
      → Pushed e u s s' → Pushing e n floor mask base p s' (clear x)
  pushing_more s x u s' g ne eu d = record {
    members = visited_more mask x (λ j. Over e n floor s (base + j)) g.members ne (λ j. Over e n floor s' (base + j))
        (λ j o. over-kept e n floor slope s s' step (base + j) o)
        (subst (λ (i : ℕ). Over e n floor s' i) eu (pushed_over e n floor slope s s' u g.risen.rising here d));
    risen = risen_both e n floor slope p s s' g.risen step;
  }
    where
      here : Stands e n floor s u
      here =
          subst (λ (i : ℕ). Stands e n floor s i) (sym eu)
          (stands_kept e n floor slope p s g.risen _
          (stand (count_trailing_zeros 64 x) (lowest-lt mask x _ g.members ne) (lowest_in mask x _ g.members ne)))

      step : Risen e n floor s s'
      step = pushed_risen e n floor slope s s' u g.risen.rising here d

  pub pushing_all : (s : List ℕ) (x : ℕ) → Pushing e n floor mask base p s x → x ≡ 0 → Above e n floor mask base p s
  pushing_all s x g z =
      record { risen = g.risen; over = λ j h i. visited_all mask x (λ k. Over e n floor s (base + k)) g.members z j i }
