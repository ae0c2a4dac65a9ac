-- What a pass over the edges leaves behind, over tables with w masks a vertex, for any w. Assumes nothing.
use Rattle.std.specs.Prelude.{◌≡◌, List, ℕ, ◌*◌, ◌<◌, get_or}
use Rattle.specification.specs.Limits.{mask_bits}
use Rattle.specification.specs.Sets.{at}

-- t has the bits of the first i edges, and no other
pub record Marked (w : ℕ) (tails heads : List ℕ) (i : ℕ) (t : List ℕ) : Type 0 where
  pub only : (u v : ℕ) → v < w * mask_bits → at w t u v ≡ 1 → (j : ℕ) × (j < i) × (get_or tails j 0 ≡ u) × (get_or heads j 0 ≡ v)
  pub all : (j : ℕ) → j < i → at w t (get_or tails j 0) (get_or heads j 0) ≡ 1

-- every end of an edge is a vertex below n
pub record Within (n m : ℕ) (tails heads : List ℕ) : Type 0 where
  pub tail : (i : ℕ) → i < m → get_or tails i 0 < n
  pub head : (i : ℕ) → i < m → get_or heads i 0 < n
