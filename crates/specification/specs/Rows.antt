-- Rows (SPECIFICATION.md, 4). Assumes nothing.
use Rattle.std.specs.Prelude.{Bool, true, ℕ, zero, suc, max}
use Rattle.specification.specs.Count.{above}
use Rattle.specification.specs.Limits.{longest_path}

-- the row of v (4.1): the greater of its floor and one more than the highest row of the tails of the edges of E into it, which is 0 where
-- there is none; edges are followed back at most k times
unfoldable pub row_within : (ℕ → ℕ → Bool) → (ℕ → ℕ) → ℕ → ℕ → ℕ → ℕ
row_within E floor n zero v = floor v
row_within E floor n (suc k) v = max (floor v) (above n (λ u. E u v) (row_within E floor n k))

abbrev pub row : (ℕ → ℕ → Bool) → (ℕ → ℕ) → ℕ → ℕ → ℕ
row E floor n v = row_within E floor n longest_path v

-- the number of rows used (4.1)
abbrev pub rows_used : (ℕ → ℕ → Bool) → (ℕ → ℕ) → ℕ → ℕ
rows_used E floor n = above n (λ v. true) (row E floor n)
