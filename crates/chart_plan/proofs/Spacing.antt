-- Columns by blocks depend on the channels alone. Assumes nothing.
use Rattle.counting.proofs.Prelude.{◌≡◌, ap, ℕ, ◌+◌, ◌<◌, arith}
use Rattle.counting.proofs.Sums.{sum_ext}
use Rattle.specification.specs.Geometry.{even_gaps, block_width, block_start, own_column}

module _ (f g : ℕ → ℕ) where
  pub start-same : (k : ℕ) → ((l : ℕ) → l < k → f l ≡ g l) → block_start (even_gaps f) k ≡ block_start (even_gaps g) k
  unfolding block_start
  start-same k e = sum_ext k (block_width (even_gaps f)) (block_width (even_gaps g)) (λ l h. ap (λ (x : ℕ). x + 1 + 1 + 1) (e l h))

  pub own_same : (k l : ℕ) → l < k → ((l : ℕ) → l < k → f l ≡ g l) → own_column (even_gaps f) l ≡ own_column (even_gaps g) l
  unfolding own_column
  own_same k l h e = omega (arith, start-same l (λ i j. e i (omega arith)), e l h)
