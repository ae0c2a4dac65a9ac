-- Counts of what is mapped one to one, or onto. Assumes nothing.
use Rattle.counting.proofs.Prelude.{◌≡◌, refl, sym, ap, ◌∙◌, Bool, true, false, false≢true, ◌&&◌, ℕ, ◌≤◌, ◌<◌, arith, eqb, eq-eqb}
use Rattle.counting.proofs.Prelude.{eqb-true}
use Rattle.specification.specs.Count.{indicator, sum, count}
use Rattle.counting.proofs.Truth.{and_elim, indicator-le}
use Rattle.counting.proofs.Sums.{sum_mono, sum_zero, sum_smaller}
use Rattle.counting.proofs.Classes.{sum_one, sum_swap, sum_term, one_of, at_most_one, count_classes}

-- a test that one of n fails is passed by fewer than n
pub one_fails : (n : ℕ) (f : ℕ → Bool) (i : ℕ) → i < n → f i ≡ false → count n f < n
unfolding count
one_fails n f i l e = omega (
  arith,
  sum_one n,
  sum_smaller n (λ j. indicator (f j)) (λ j. 1) i l (omega (arith, ap indicator e)) (λ j h. indicator-le (f j)),
)

-- none passes, or at most one
none_or-one : (n : ℕ) (f : ℕ → Bool) (b : Bool) → ((i : ℕ) → i < n → f i ≡ true → b ≡ true)
    → ((i j : ℕ) → i < n → j < n → f i ≡ true → f j ≡ true → i ≡ j) → count n f ≤ indicator b
unfolding count
none_or-one n f true a e = at_most_one n f e
none_or-one n f false a e = omega (arith, sum_zero n (λ i. indicator (f i)) (λ i l. off i l (f i) refl))
  where
    off : (i : ℕ) → i < n → (b : Bool) → f i ≡ b → indicator (f i) ≡ 0
    off i l true p = absurd (false≢true (a i l p))
    off i l false p = ap indicator p

-- ONE TO ONE: what p takes one to one to those of m that pass g is no more than those
pub into-count : (n m : ℕ) (f g : ℕ → Bool) (p : ℕ → ℕ) → ((w : ℕ) → w < n → f w ≡ true → p w < m)
    → ((w : ℕ) → w < n → f w ≡ true → g (p w) ≡ true)
    → ((v w : ℕ) → v < n → w < n → f v ≡ true → f w ≡ true → p v ≡ p w → v ≡ w)
    → count n f ≤ count m g
unfolding count
into-count n m f g p l h inj = omega (
  arith,
  count_classes n m f p l,
  sum_mono m (λ q. count n (λ w. f w && eqb (p w) q)) (λ q. indicator (g q))
      (λ q k. none_or-one n (λ w. f w && eqb (p w) q) (g q) (hit q) (only q)),
)
  where
    hit : (q w : ℕ) → w < n → (f w && eqb (p w) q) ≡ true → g q ≡ true
    hit q w a s = let s' = and_elim (f w) (eqb (p w) q) s in sym (ap g (eqb-true (p w) q s'.1)) ∙ h w a s'.0

    only : (q i j : ℕ) → i < n → j < n → (f i && eqb (p i) q) ≡ true → (f j && eqb (p j) q) ≡ true → i ≡ j
    only q i j a b s t =
        let s' = and_elim (f i) (eqb (p i) q) s in
        let t' = and_elim (f j) (eqb (p j) q) t in
        inj i j a b s'.0 t'.0 (eqb-true (p i) q s'.1 ∙ sym (eqb-true (p j) q t'.1))

-- ONTO: where each of m values is p's at one that passes f, at least m pass
pub onto_count : (n m : ℕ) (f : ℕ → Bool) (p : ℕ → ℕ) → ((c : ℕ) → c < m → (w : ℕ) × (w < n) × (f w ≡ true) × (p w ≡ c))
    → m ≤ count n f
unfolding count
onto_count n m f p onto = omega (
  arith,
  sum_one m,
  sum_mono m (λ c. 1) (λ c. sum n (λ w. indicator (f w && eqb (p w) c))) one,
  sum_swap n m (λ w q. indicator (f w && eqb (p w) q)),
  sum_mono n (λ w. sum m (λ q. indicator (f w && eqb (p w) q))) (λ w. indicator (f w)) (λ w l. each w (f w)),
)
  where
    one : (c : ℕ) → c < m → 1 ≤ sum n (λ w. indicator (f w && eqb (p w) c))
    one c l =
        let r = onto c l in
        let e : indicator (f r.0 && eqb (p r.0) c) ≡ 1 = rw r.2 (ap indicator (eq-eqb (p r.0) c r.3)) in
        omega (arith, sum_term n (λ w. indicator (f w && eqb (p w) c)) r.0 r.1)

    each : (w : ℕ) (b : Bool) → sum m (λ q. indicator (b && eqb (p w) q)) ≤ indicator b
    each w true = omega (arith, one_of m (p w))
    each w false = omega (arith, sum_zero m (λ q. 0) (λ q l. refl))
