-- What the private steps of the fill leave behind. Assumes nothing.
use Rattle.std.specs.Prelude.{◌≡◌, List, ℕ, ◌+◌, ◌*◌, ◌≤◌, ◌<◌, length}
use Rattle.specification.specs.Limits.{mask_bits}
use Rattle.specification.specs.Sets.{at}

-- while the sets 0 to top are filled: each of n vertices is put into the set after its key's, and the sets 1 to j have all they are to have
pub record Stage (w n : ℕ) (key : ℕ → ℕ) (top j : ℕ) (sets : List ℕ) : Type 0 where
  pub room : 0 < top → w * top + w ≤ length sets
  pub here : (k v : ℕ) → k ≤ top → v < w * mask_bits → v < n → key v + 1 ≡ k → at w sets k v ≡ 1
  pub has : (k v : ℕ) → k ≤ top → v < w * mask_bits → v < n → key v < k → k ≤ j → at w sets k v ≡ 1
  pub only : (k v : ℕ) → k ≤ top → v < w * mask_bits → at w sets k v ≡ 1 → (v < n) × (key v < k) × (j < k → key v + 1 ≡ k)
