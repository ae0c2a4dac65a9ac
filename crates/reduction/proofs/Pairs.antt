-- Numbers that stand for different pairs are as many as the pairs that they stand for. Assumes nothing.
use Rattle.counting.proofs.Prelude.{◌≡◌, refl, sym, ap, ap₂, ◌∙◌, Bool, true, false, ◌&&◌, ℕ, ◌≤◌, ◌<◌, arith, eqb, eq-eqb, eqb-true}
use native.Mathlib.Decide.{dec_lt}
use Rattle.specification.specs.Count.{indicator, sum, count}
use Rattle.counting.proofs.Truth.{and_intro, and_elim}
use Rattle.counting.proofs.Sums.{sum_ext, sum_mono}
use Rattle.counting.proofs.Classes.{sum_term, count_positive, at_most_one, count_classes}

-- the ith of m numbers stands for the pair of s i and t i, both below n; f picks some of the numbers
module _ (m n : ℕ) (f : ℕ → Bool) (s t : ℕ → ℕ) (ends : (i : ℕ) → i < m → (s i < n) × (t i < n)) where
  abbrev stands_for : ℕ → ℕ → ℕ → Bool
  stands_for u v i = (f i && eqb (s i) u) && eqb (t i) v

  stands : (u v i : ℕ) → stands_for u v i ≡ true → (f i ≡ true) × (s i ≡ u) × (t i ≡ v)
  stands u v i e =
      let a = and_elim (f i && eqb (s i) u) (eqb (t i) v) e in
      let b = and_elim (f i) (eqb (s i) u) a.0 in
      (b.0, eqb-true (s i) u b.1, eqb-true (t i) v a.1)

  by_pairs : count m f ≡ sum n (λ u. sum n (λ v. count m (stands_for u v)))
  by_pairs =
      count_classes m n f s (λ i l e. (ends i l).0)
      ∙ sum_ext n (λ u. count m (λ i. f i && eqb (s i) u)) (λ u. sum n (λ v. count m (stands_for u v)))
      (λ u l. count_classes m n (λ i. f i && eqb (s i) u) t (λ i h e. (ends i h).1))

  module _ (distinct : (i j : ℕ) → i < m → j < m → s i ≡ s j → t i ≡ t j → i ≡ j) (g : ℕ → ℕ → Bool)
      (into : (i : ℕ) → i < m → f i ≡ true → g (s i) (t i) ≡ true) where
    each_le : (u v : ℕ) → count m (stands_for u v) ≤ indicator (g u v)
    each_le u v = go (dec_lt 0 (count m (stands_for u v)))
      where
        once : count m (stands_for u v) ≤ 1
        once = at_most_one m (stands_for u v) (λ i j a b p q.
            let x = stands u v i p in
            let y = stands u v j q in
            distinct i j a b (x.1 ∙ sym y.1) (x.2 ∙ sym y.2))

        go : Dec (0 < count m (stands_for u v)) → count m (stands_for u v) ≤ indicator (g u v)
        go (yes l) =
            let w = count_positive m (stands_for u v) l in
            let x = stands u v w.0 w.2 in
            omega (arith, once, ap indicator (sym (ap₂ g x.1 x.2) ∙ into w.0 w.1 x.0))
        go (no l) = omega arith

    pub pairs-le : count m f ≤ sum n (λ u. count n (g u))
    unfolding count
    pairs-le =
        omega (
          arith,
          by_pairs,
          sum_mono n (λ u. sum n (λ v. count m (stands_for u v))) (λ u. count n (g u))
              (λ u l. sum_mono n (λ v. count m (stands_for u v)) (λ v. indicator (g u v)) (λ v h. each_le u v)),
        )

    module _ (onto : (u v : ℕ) → u < n → v < n → g u v ≡ true → (i : ℕ) × (i < m) × (f i ≡ true) × (s i ≡ u) × (t i ≡ v)) where
      each_ge : (u v : ℕ) → u < n → v < n → indicator (g u v) ≤ count m (stands_for u v)
      unfolding count
      each_ge u v a b = go (g u v) refl
        where
          go : (b : Bool) → g u v ≡ b → indicator (g u v) ≤ count m (stands_for u v)
          go true e =
              let o = onto u v a b e in
              let r = and_intro (f o.0 && eqb (s o.0) u) (eqb (t o.0) v)
              (and_intro (f o.0) (eqb (s o.0) u) o.2 (eq-eqb (s o.0) u o.3)) (eq-eqb (t o.0) v o.4) in
              omega (arith, ap indicator e, ap indicator r, sum_term m (λ i. indicator (stands_for u v i)) o.0 o.1)
          go false e = omega (arith, ap indicator e)

      pub pairs-eq : count m f ≡ sum n (λ u. count n (g u))
      unfolding count
      pairs-eq =
          omega (
            arith,
            by_pairs,
            pairs-le,
            sum_mono n (λ u. count n (g u)) (λ u. sum n (λ v. count m (stands_for u v)))
                (λ u l. sum_mono n (λ v. indicator (g u v)) (λ v. count m (stands_for u v)) (λ v h. each_ge u v l h)),
          )
