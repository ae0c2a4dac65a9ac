-- Laws of sums that count by classes: one of several, at most one, rows and columns, a change at one place. Assumes nothing.
use Rattle.counting.proofs.Prelude.{◌≡◌, refl, sym, ap, ◌∙◌, subst, ◌≢◌, Bool, true, false, true≢false, ◌&&◌, ◌||◌, ℕ, zero, suc}
use Rattle.counting.proofs.Prelude.{◌+◌, ◌≤◌, ◌<◌, arith, eqb, leb, ltb, eq-eqb, ne_eqb, le-leb, lt-leb, lt-ltb, le-ltb, eqb-true}
use native.Mathlib.Nat.{not-suc-le-zero}
use native.Mathlib.Decide.{ℕ_discrete, dec_lt}
use Rattle.specification.specs.Count.{indicator, sum, count}
use Rattle.counting.proofs.Truth.{indicator-le, and_elim}
use Rattle.counting.proofs.Sums.{sum_ext, sum_mono, sum_zero}

-- ---- tests as numbers

pub indicator_true : (b : Bool) → 0 < indicator b → b ≡ true
indicator_true true l = refl
indicator_true false l = absurd (not-suc-le-zero l)

pub indicator_mono : (a b : Bool) → (a ≡ true → b ≡ true) → indicator a ≤ indicator b
indicator_mono true b f = omega (arith, ap indicator (f refl))
indicator_mono false b f = omega arith

pub indicator-or : (a b : Bool) → (b ≡ true → a ≡ false) → indicator (a || b) ≡ indicator a + indicator b
indicator-or true true f = absurd (true≢false (f refl))
indicator-or true false f = refl
indicator-or false true f = refl
indicator-or false false f = refl

pub indicator-and-le : (a b : Bool) → indicator (a && b) ≤ indicator b
indicator-and-le true b = omega arith
indicator-and-le false b = omega arith

-- below one more: below it, or it
pub indicator_below : (a h : ℕ) → indicator (ltb a (suc h)) ≡ indicator (ltb a h) + indicator (eqb h a)
indicator_below a h = go (ℕ_discrete h a) (dec_lt a h)
  where
    go : Dec (h ≡ a) → Dec (a < h) → indicator (ltb a (suc h)) ≡ indicator (ltb a h) + indicator (eqb h a)
    go (yes q) d =
        omega (arith, ap indicator (lt-ltb a (suc h) (omega arith)), ap indicator (le-ltb a h (omega arith)), ap indicator (eq-eqb h a q))
    go (no q) (yes d) =
        omega (arith, ap indicator (lt-ltb a (suc h) (omega arith)), ap indicator (lt-ltb a h d), ap indicator (ne_eqb h a q))
    go (no q) (no d) =
        omega (arith, ap indicator (le-ltb a (suc h) (omega arith)), ap indicator (le-ltb a h (omega arith)), ap indicator (ne_eqb h a q))

-- ---- sums

pub sum-add : (n : ℕ) (f g : ℕ → ℕ) → sum n (λ i. f i + g i) ≡ sum n f + sum n g
unfolding sum
sum-add zero f g = refl
sum-add (suc n) f g = omega (arith, sum-add n f g)

pub sum_one : (n : ℕ) → sum n (λ i. 1) ≡ n
unfolding sum
sum_one zero = refl
sum_one (suc n) = omega (arith, sum_one n)

-- rows first or columns first
pub sum_swap : (n m : ℕ) (f : ℕ → ℕ → ℕ) → sum n (λ i. sum m (λ j. f i j)) ≡ sum m (λ j. sum n (λ i. f i j))
unfolding sum
sum_swap zero m f = sym (sum_zero m (λ j. 0) (λ j l. refl))
sum_swap (suc n) m f = ap (λ x. x + sum m (λ j. f n j)) (sum_swap n m f) ∙ sym (sum-add m (λ j. sum n (λ i. f i j)) (λ j. f n j))

-- two functions that differ at one place
pub sum-change : (n : ℕ) (f g : ℕ → ℕ) (i : ℕ) → i < n → ((j : ℕ) → j ≢ i → f j ≡ g j) → sum n f + g i ≡ sum n g + f i
unfolding sum
sum-change zero f g i l e = absurd (not-suc-le-zero l)
sum-change (suc n) f g i l e = go (ℕ_discrete n i) (λ m. sum-change n f g i m e)
  where
    go : Dec (n ≡ i) → (i < n → sum n f + g i ≡ sum n g + f i) → sum n f + f n + g i ≡ sum n g + g n + f i
    go (yes q) r = omega (arith, sum_ext n f g (λ j m. e j (λ p. omega arith)), ap f q, ap g q)
    go (no q) r = omega (arith, r (omega arith), e n q)

-- more terms, and a larger sum
pub sum_longer : (m n : ℕ) (f : ℕ → ℕ) → m ≤ n → sum m f ≤ sum n f
unfolding sum
sum_longer m zero f l = subst (λ k. sum k f ≤ sum 0 f) (let e : 0 ≡ m = omega arith in e) (omega arith)
sum_longer m (suc n) f l = go (ℕ_discrete m (suc n)) (sum_longer m n f)
  where
    go : Dec (m ≡ suc n) → (m ≤ n → sum m f ≤ sum n f) → sum m f ≤ sum n f + f n
    go (yes q) r = rw q (omega arith)
    go (no q) r = omega (arith, r (omega arith))

-- a term is at most the sum
pub sum_term : (n : ℕ) (f : ℕ → ℕ) (i : ℕ) → i < n → f i ≤ sum n f
unfolding sum
sum_term n f i l = omega (arith, sum_longer (suc i) n f l)

-- so are two terms
pub sum-two : (n : ℕ) (f : ℕ → ℕ) (i j : ℕ) → i < j → j < n → f i + f j ≤ sum n f
unfolding sum
sum-two n f i j a b = omega (arith, sum_longer (suc j) n f b, sum_term j f i a)

-- a sum that is not 0 has a term that is not 0
pub sum_positive : (n : ℕ) (f : ℕ → ℕ) → 0 < sum n f → (i : ℕ) × (i < n) × (0 < f i)
unfolding sum
sum_positive zero f l = absurd (not-suc-le-zero l)
sum_positive (suc n) f l = go (dec_lt 0 (f n)) (sum_positive n f)
  where
    go : Dec (0 < f n) → (0 < sum n f → (i : ℕ) × (i < n) × (0 < f i)) → (i : ℕ) × (i < suc n) × (0 < f i)
    go (yes p) ih = (n, omega arith, p)
    go (no p) ih = let r = ih (omega arith) in (r.0, omega (arith, r.1), r.2)

-- ---- counts

pub count-le : (n : ℕ) (f : ℕ → Bool) → count n f ≤ n
unfolding count sum
count-le zero f = omega arith
count-le (suc n) f = omega (arith, count-le n f, indicator-le (f n))

-- a count that is not 0 has one that passes
pub count_positive : (n : ℕ) (f : ℕ → Bool) → 0 < count n f → (i : ℕ) × (i < n) × (f i ≡ true)
unfolding count
count_positive n f l = let w = sum_positive n (λ i. indicator (f i)) l in (w.0, w.1, indicator_true (f w.0) w.2)

-- x is one of the first n numbers, or n or more
pub one_of : (n x : ℕ) → sum n (λ a. indicator (eqb x a)) + indicator (leb n x) ≡ 1
unfolding sum
one_of zero x = omega (arith, ap indicator (le-leb 0 x (omega arith)))
one_of (suc n) x = go (ℕ_discrete x n) (dec_lt n x) (one_of n x)
  where
    go : Dec (x ≡ n) → Dec (n < x) → sum n (λ a. indicator (eqb x a)) + indicator (leb n x) ≡ 1
        → sum n (λ a. indicator (eqb x a)) + indicator (eqb x n) + indicator (leb (suc n) x) ≡ 1
    go (yes q) d i =
        omega (arith, ap indicator (eq-eqb x n q), ap indicator (le-leb n x (omega arith)), ap indicator (lt-leb (suc n) x (omega arith)))
    go (no q) (yes d) i =
        omega (arith, ap indicator (ne_eqb x n q), ap indicator (le-leb n x (omega arith)), ap indicator (le-leb (suc n) x d))
    go (no q) (no d) i =
        omega (arith, ap indicator (ne_eqb x n q), ap indicator (lt-leb n x (omega arith)), ap indicator (lt-leb (suc n) x (omega arith)))

-- a number below n is one of the first n
pub one_below : (n x : ℕ) → x < n → sum n (λ a. indicator (eqb x a)) ≡ 1
one_below n x l = omega (arith, one_of n x, ap indicator (lt-leb n x l))

-- where no two pass a test, at most one is counted
pub at_most_one : (n : ℕ) (f : ℕ → Bool) → ((i j : ℕ) → i < n → j < n → f i ≡ true → f j ≡ true → i ≡ j) → count n f ≤ 1
unfolding count sum
at_most_one zero f e = omega arith
at_most_one (suc n) f e = go (f n) refl (at_most_one n f (λ i j a b. e i j (omega arith) (omega arith)))
  where
    off : f n ≡ true → (i : ℕ) → i < n → indicator (f i) ≡ 0
    off q i l = at (f i) refl
      where
        at : (b : Bool) → f i ≡ b → indicator (f i) ≡ 0
        at true p = absurd (let d : i ≡ n = e i n (omega arith) (omega arith) p q in omega arith)
        at false p = ap indicator p

    go : (b : Bool) → f n ≡ b → count n f ≤ 1 → count n f + indicator (f n) ≤ 1
    go true q ih = omega (arith, ap indicator q, sum_zero n (λ i. indicator (f i)) (off q))
    go false q ih = omega (arith, ap indicator q)

-- what passes a test, counted by the classes of p
pub count_classes : (n m : ℕ) (f : ℕ → Bool) (p : ℕ → ℕ) → ((w : ℕ) → w < n → f w ≡ true → p w < m)
    → count n f ≡ sum m (λ q. count n (λ w. f w && eqb (p w) q))
unfolding count
count_classes n m f p l =
    sum_ext n (λ w. indicator (f w)) (λ w. sum m (λ q. indicator (f w && eqb (p w) q))) (λ w a. each w a (f w) refl)
    ∙ sum_swap n m (λ w q. indicator (f w && eqb (p w) q))
  where
    each : (w : ℕ) → w < n → (b : Bool) → f w ≡ b → indicator (f w) ≡ sum m (λ q. indicator (f w && eqb (p w) q))
    each w a true e = rw e (sym (one_below m (p w) (l w a e)))
    each w a false e = rw e (sym (sum_zero m (λ q. 0) (λ q b. refl)))

-- of what passes a test no two are in one class: no more pass than there are classes
pub apart_fit : (n m : ℕ) (f : ℕ → Bool) (p : ℕ → ℕ) → ((w : ℕ) → w < n → f w ≡ true → p w < m)
    → ((i j : ℕ) → i < n → j < n → f i ≡ true → f j ≡ true → p i ≡ p j → i ≡ j) → count n f ≤ m
apart_fit n m f p below one =
    omega (
      arith,
      count_classes n m f p below,
      sum_mono m (λ q. count n (λ w. f w && eqb (p w) q)) (λ q. 1) (λ q l. at_most_one n (λ w. f w && eqb (p w) q) (same q)),
      sum_one m,
    )
  where
    same : (q i j : ℕ) → i < n → j < n → (f i && eqb (p i) q) ≡ true → (f j && eqb (p j) q) ≡ true → i ≡ j
    same q i j a b s t =
        let s' = and_elim (f i) (eqb (p i) q) s in
        let t' = and_elim (f j) (eqb (p j) q) t in
        one i j a b s'.0 t'.0 (eqb-true (p i) q s'.1 ∙ sym (eqb-true (p j) q t'.1))
