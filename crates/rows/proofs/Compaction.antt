-- Theorems on rows, with any floors: in a graph without cycles they obey the rule (SPECIFICATION.md, 4.1) and are bounded; no rows that
-- keep the floors and rise along every edge are lower. Assumes nothing.
use Rattle.counting.proofs.Prelude.{◌≡◌, refl, ap, ⊎_elim, Bool, true, ℕ, zero, suc, ◌+◌, ◌≤◌, ◌<◌, max, arith}
use Rattle.specification.specs.Count.{indicator, count, above}
use Rattle.counting.proofs.Truth.{indicator-le, true_or_false}
use Rattle.counting.proofs.Sums.{sum_bound, sum_smaller}
use Rattle.specification.specs.Rows.{row_within, row, rows_used}
use Rattle.specification.specs.Limits.{longest_path}
use Rattle.counting.proofs.Above.{above_each, above-le, above_ext}

-- FEWEST ROWS: rows that keep the floors and rise along every edge are nowhere lower, whatever the graph
module _ (E : ℕ → ℕ → Bool) (floor : ℕ → ℕ) (n : ℕ) (other : ℕ → ℕ) (keeps : (v : ℕ) → v < n → floor v ≤ other v)
    (rises : (u v : ℕ) → u < n → v < n → E u v ≡ true → other u < other v) where
  lower : (k v : ℕ) → v < n → row_within E floor n k v ≤ other v
  unfolding row_within
  lower zero v h = keeps v h
  lower (suc k) v h =
      let a = above-le n (λ u. E u v) (row_within E floor n k) (other v)
      (λ u l e. let a = lower k u l in let b = rises u v l h e in omega arith) in
      omega (arith, a, keeps v h)

  pub rows-least : (v : ℕ) → v < n → row E floor n v ≤ other v
  rows-least = lower longest_path

  pub used_least : rows_used E floor n ≤ above n (λ v. true) other
  used_least =
      above-le n (λ v. true) (row E floor n) (above n (λ v. true) other)
      (λ v l e. let a = rows-least v l in let b = above_each n (λ x. true) other v l e in omega arith)

-- a number for each of n vertices, below n, that rises along every edge
module _ (E : ℕ → ℕ → Bool) (floor : ℕ → ℕ) (n : ℕ) (rank : ℕ → ℕ) (few : (v : ℕ) → v < n → rank v < n)
    (up : (u v : ℕ) → u < n → v < n → E u v ≡ true → rank u < rank v) where
  -- a row is at most the highest floor and that number
  pub ranked_below : (top : ℕ) → ((v : ℕ) → v < n → floor v ≤ top) → (v : ℕ) → v < n → row E floor n v < top + n
  ranked_below top low v h =
      let a = rows-least E floor n (λ x. top + rank x) (λ x l. omega (arith, low x l)) (λ x y l k e. omega (arith, up x y l k e)) v h in
      omega (arith, a, few v h)

  -- to follow edges back more often than that changes nothing
  steady : (k v : ℕ) → v < n → rank v ≤ k → row_within E floor n k v ≡ row_within E floor n (suc k) v
  unfolding row_within
  steady zero v h l =
      let a = above-le n (λ u. E u v) (row_within E floor n 0) 0 (λ u hu e. absurd (omega (arith, up u v hu h e))) in
      omega (arith, a)
  steady (suc k) v h l =
      ap (max (floor v)) (above_ext n (λ u. E u v) (λ u. E u v) (row_within E floor n k) (row_within E floor n (suc k)) (λ u hu. refl)
      (λ u hu e. steady k u hu (omega (arith, up u v hu h e))))

  pub ranked-rule : n ≤ 128 → (v : ℕ) → v < n → row E floor n v ≡ max (floor v) (above n (λ u. E u v) (row E floor n))
  unfolding row_within
  ranked-rule small v h = steady longest_path v h (omega (arith, few v h))

-- a strict order on n vertices that holds the edges: of a graph without cycles, what reaches what
pub record Order (E L : ℕ → ℕ → Bool) (n : ℕ) : Type 0 where
  pub edges : (u v : ℕ) → u < n → v < n → E u v ≡ true → L u v ≡ true
  pub trans : (u v w : ℕ) → u < n → v < n → w < n → L u v ≡ true → L v w ≡ true → L u w ≡ true
  pub irrefl : (u : ℕ) → u < n → L u u ≡ true → ⊥

module _ (E L : ℕ → ℕ → Bool) (n : ℕ) (o : Order E L n) where
  -- how many are before v
  before : ℕ → ℕ
  before v = count n (λ u. L u v)

  fewer : (u v : ℕ) → u < n → v < n → E u v ≡ true → before u < before v
  unfolding before count
  fewer u v hu hv e =
      let uv = o.edges u v hu hv e in
      sum_smaller n (λ x. indicator (L x u)) (λ x. indicator (L x v)) u hu
      (⊎_elim (λ t. absurd (o.irrefl u hu t)) (λ f. let a = ap indicator f in let b = ap indicator uv in omega arith)
      (true_or_false (L u u)))
      (λ x hx. ⊎_elim (λ t. let b = ap indicator (o.trans x u v hx hu hv t uv) in let c = indicator-le (L x u) in omega arith)
      (λ f. let a = ap indicator f in omega arith) (true_or_false (L x u)))

  -- itself is not before it
  before-lt : (v : ℕ) → v < n → before v < n
  unfolding before count
  before-lt v h =
      let s = sum_smaller n (λ x. indicator (L x v)) (λ x. 1) v h
      (⊎_elim (λ t. absurd (o.irrefl v h t)) (λ f. let a = ap indicator f in omega arith) (true_or_false (L v v)))
      (λ x l. indicator-le (L x v)) in
      let b = sum_bound n (λ x. 1) (λ x l. omega arith) in
      omega arith

  module _ (floor : ℕ → ℕ) where
    pub rows_below : (top : ℕ) → ((v : ℕ) → v < n → floor v ≤ top) → (v : ℕ) → v < n → row E floor n v < top + n
    rows_below = ranked_below E floor n before before-lt fewer

    -- THE RULE: the greater of the floor and one more than the highest row of the tails, 0 where no edge enters
    pub rows-rule : n ≤ 128 → (v : ℕ) → v < n → row E floor n v ≡ max (floor v) (above n (λ u. E u v) (row E floor n))
    rows-rule = ranked-rule E floor n before before-lt fewer
