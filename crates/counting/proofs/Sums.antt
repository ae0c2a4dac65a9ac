-- Laws of `sum` and `count`. Assumes nothing.
use Rattle.counting.proofs.Prelude.{◌≡◌, refl, sym, ap, ◌∙◌, Bool, ℕ, zero, suc, ◌+◌, ◌-◌, ◌≤◌, ◌<◌, arith}
use native.Mathlib.Nat.{not-suc-le-zero, add-zero, add-suc}
use native.Mathlib.Decide.{ℕ_discrete}
use native.Mathlib.Numerals.{add-one}
use Rattle.specification.specs.Count.{indicator, sum, count}

-- equal terms have equal sums
pub sum_ext : (n : ℕ) (f g : ℕ → ℕ) → ((i : ℕ) → i < n → f i ≡ g i) → sum n f ≡ sum n g
unfolding sum
sum_ext zero f g e = refl
sum_ext (suc n) f g e = omega (arith, sum_ext n f g (λ i l. e i (omega arith)), e n (omega arith))

-- smaller terms have smaller sums
pub sum_mono : (n : ℕ) (f g : ℕ → ℕ) → ((i : ℕ) → i < n → f i ≤ g i) → sum n f ≤ sum n g
unfolding sum
sum_mono zero f g e = omega arith
sum_mono (suc n) f g e = omega (arith, sum_mono n f g (λ i l. e i (omega arith)), e n (omega arith))

-- one term more
pub sum_more : (n : ℕ) (f : ℕ → ℕ) → sum (n + 1) f ≡ sum n f + f n
unfolding sum
sum_more n f = ap (λ (m : ℕ). sum m f) (add-one n)

-- the first term by itself
pub sum-front : (n : ℕ) (f : ℕ → ℕ) → sum (suc n) f ≡ f 0 + sum n (λ i. f (suc i))
unfolding sum
sum-front zero f = omega arith
sum-front (suc n) f = let h : sum n f + f n ≡ f 0 + sum n (λ i. f (suc i)) = sum-front n f in omega arith

-- a sum in two parts
pub sum_split : (m n : ℕ) (f : ℕ → ℕ) → sum (m + n) f ≡ sum m f + sum n (λ i. f (m + i))
unfolding sum
sum_split m zero f = ap (λ (k : ℕ). sum k f) (add-zero m) ∙ sym (add-zero (sum m f))
sum_split m (suc n) f =
    ap (λ (k : ℕ). sum k f) (add-suc m n) ∙ (let h = sum_split m n f in omega arith)

-- what is 0 throughout sums to 0
pub sum_zero : (n : ℕ) (f : ℕ → ℕ) → ((i : ℕ) → i < n → f i ≡ 0) → sum n f ≡ 0
unfolding sum
sum_zero zero f e = refl
sum_zero (suc n) f e = omega (arith, sum_zero n f (λ i l. e i (omega arith)), e n (omega arith))

-- what is 0 from m on adds nothing
pub sum_less : (m n : ℕ) (f : ℕ → ℕ) → m ≤ n → ((i : ℕ) → m ≤ i → i < n → f i ≡ 0) → sum n f ≡ sum m f
sum_less m n f l e =
    ap (λ (k : ℕ). sum k f) (let q : n ≡ m + (n - m) = omega arith in q) ∙ sum_split m (n - m) f
    ∙ (let z = sum_zero (n - m) (λ i. f (m + i)) (λ i h. e (m + i) (omega arith) (omega arith)) in omega arith)

-- terms of at most 1 sum to at most n
pub sum_bound : (n : ℕ) (f : ℕ → ℕ) → ((i : ℕ) → i < n → f i ≤ 1) → sum n f ≤ n
unfolding sum
sum_bound zero f e = omega arith
sum_bound (suc n) f e = omega (arith, sum_bound n f (λ i l. e i (omega arith)), e n (omega arith))

pub count_ext : (n : ℕ) (f g : ℕ → Bool) → ((i : ℕ) → i < n → f i ≡ g i) → count n f ≡ count n g
unfolding count
count_ext n f g e = sum_ext n (λ i. indicator (f i)) (λ i. indicator (g i)) (λ i l. ap indicator (e i l))

-- terms that are no larger, and one that is smaller
pub sum_smaller : (n : ℕ) (f g : ℕ → ℕ) (i : ℕ) → i < n → f i < g i → ((j : ℕ) → j < n → f j ≤ g j) → sum n f < sum n g
unfolding sum
sum_smaller zero f g i l s e = absurd (not-suc-le-zero l)
sum_smaller (suc n) f g i l s e = go (ℕ_discrete n i) (λ m. sum_smaller n f g i m s (λ j h. e j (omega arith)))
  where
    go : Dec (n ≡ i) → (i < n → sum n f < sum n g) → sum n f + f n < sum n g + g n
    go (yes q) r = omega (arith, sum_mono n f g (λ j h. e j (omega arith)), ap f q, ap g q)
    go (no q) r = omega (arith, r (omega arith), e n (omega arith))
