-- Channels laid vertex by vertex in a list of places. Assumes nothing.
use Rattle.std.specs.Prelude.{◌≡◌, List, ℕ, zero, suc, ◌+◌, ◌-◌, ◌≤◌, ◌<◌}
use Rattle.planning.specs.Arranged.{Kept}
use Rattle.planning.specs.Steps.{placed}

-- how many channels there are once position q has its vertex: one more where q is 0
unfoldable pub opened_at : ℕ → ℕ → ℕ
opened_at zero count = count + 1
opened_at (suc q) count = count

-- v is laid at position q of the last channel, and of a new one where q is 0, behind so many vertices, unless these are 128
pub record Lays (laid q v count : ℕ) (p : List ℕ) (r : ℕ) (p' : List ℕ) : Type 0 where
  pub opened : laid < 128 → r ≡ opened_at q count
  pub stored : laid < 128 → p' ≡ placed v (r - 1) q p
  pub some : 0 < r
  pub few : r ≤ laid + 1
  pub kept : (n : ℕ) → v < n → Kept n p p'
