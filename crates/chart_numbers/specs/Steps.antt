-- What the private steps ask for. Assumes nothing.
use Rattle.std.specs.Prelude.{◌≡◌, Bool, true, ℕ, ◌+◌, ◌*◌, ◌≤◌, min}
use Rattle.specification.specs.Limits.{most_vertices}
use Rattle.floors.specs.Promise.{spread}

-- a list of k masks has room for the sets by row of n vertices
abbrev pub RowRoom : ℕ → Bool → ℕ → Type 0
RowRoom n floored k = (2 * min n most_vertices + 2 ≤ k) × (floored ≡ true → spread n ≤ k)

-- work lists of these lengths have room for n vertices: their columns, two masks or bundles each, four bytes, eight bytes, and the sets by
-- row; and none is longer than a list can be
pub record Sized (n : ℕ) (floored : Bool) (columns pairs places spans rows : ℕ) : Type 0 where
  pub columns_fit : (min n most_vertices ≤ columns) × (columns ≤ 1024)
  pub pairs_fit : (2 * min n most_vertices ≤ pairs) × (pairs ≤ 1024)
  pub places_fit : (4 * min n most_vertices ≤ places) × (places ≤ 1024)
  pub spans_fit : (8 * min n most_vertices ≤ spans) × (spans ≤ 1024)
  pub rows_fit : RowRoom n floored rows × (rows ≤ 1024)
