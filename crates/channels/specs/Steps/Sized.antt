-- Why a number of vertices is refused. Assumes nothing.
use Rattle.std.specs.Prelude.{◌≡◌, ◌≢◌, ℕ, ◌*◌, ◌≤◌, ◌<◌, min}
use Rattle.specification.specs.Graph.{size_refusal}

-- why n vertices are refused by size alone, with a list of so many bytes, or 0
pub record Sized (n bytes r : ℕ) : Type 0 where
  pub short : bytes < 4 * min n 128 → r ≡ 8
  pub size : 4 * min n 128 ≤ bytes → r ≡ size_refusal n
  pub fits : r ≡ 0 → (n ≢ 0) × (n ≤ 128) × (4 * n ≤ bytes)
