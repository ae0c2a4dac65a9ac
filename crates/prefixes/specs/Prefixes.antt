-- Sets of vertices by key, w masks a set: set number k of the table has the vertices whose key is below k. Assumes nothing.
use Rattle.std.specs.Prelude.{◌≡◌, ◌↔◌, List, ℕ, ◌-◌, ◌*◌, ◌/◌, ◌≤◌, ◌<◌, min}
use Rattle.specification.specs.Limits.{row_numbers, mask_bits}
use Rattle.specification.specs.Sets.{at}

-- the last set that is filled: number `top`, at most 256, or the last for which so many masks, two a set, have room; 0 where none is
abbrev pub last_set : ℕ → ℕ → ℕ
last_set top masks = min (min top row_numbers) (masks / 2 - 1)

-- of n vertices, for the sets 0 to top
pub record Prefixes (w n : ℕ) (key : ℕ → ℕ) (top : ℕ) (sets : List ℕ) : Type 0 where
  pub sets_by_key : (k v : ℕ) → k ≤ top → v < w * mask_bits → at w sets k v ≡ 1 ↔ ((v < n) × (key v < k))
