-- Levels: rows where no floor lifts a vertex, so that they go by the edges alone. Assumes nothing.
use Rattle.std.specs.Prelude.{Bool, true, ℕ, zero, suc}
use Rattle.specification.specs.Count.{above}
use Rattle.specification.specs.Limits.{longest_path}

-- the level of v: 0 where no edge of E enters v, else one more than the highest level of the tails; edges are followed back at most k times
unfoldable pub level_within : (ℕ → ℕ → Bool) → ℕ → ℕ → ℕ → ℕ
level_within E n zero v = 0
level_within E n (suc k) v = above n (λ u. E u v) (level_within E n k)

abbrev pub level : (ℕ → ℕ → Bool) → ℕ → ℕ → ℕ
level E n v = level_within E n longest_path v

-- how many levels there are
abbrev pub levels_used : (ℕ → ℕ → Bool) → ℕ → ℕ
levels_used E n = above n (λ v. true) (level E n)
