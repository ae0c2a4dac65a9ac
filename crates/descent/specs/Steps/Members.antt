-- What the loops over a mask's members leave behind. A set of 128 vertices has two masks. Assumes nothing.
use Rattle.std.specs.Prelude.{◌≡◌, ◌≢◌, ◌⊎◌, ◌↔◌, List, ℕ, ◌+◌, ◌*◌, ◌^◌, ◌≤◌, ◌<◌, length}
use Rattle.counting.specs.Quads.{quad}
use Rattle.specification.specs.Sets.{bit, at}
use Rattle.masks.specs.Pairs.{in_pair}

-- the set a, b has the vertices below n
pub record Below (n a b : ℕ) : Type 0 where
  pub low_fits : a < 2 ^ 64
  pub high_fits : b < 2 ^ 64
  pub members : (v : ℕ) → v < 128 → in_pair a b v ≡ 1 ↔ v < n

-- a list of w numbers a vertex has those of every member of a mask that begins at vertex `base`
pub record Long (w : ℕ) (t : List ℕ) (mask base : ℕ) : Type 0 where
  pub room : (j : ℕ) → j < 64 → bit mask j ≡ 1 → w * (base + j) + w ≤ length t

-- the set a, b is c, d with the sets put in that the table has for the members of a mask that begins at vertex `base`
pub record Gathered (t : List ℕ) (mask base c d a b : ℕ) : Type 0 where
  pub here : (v : ℕ) → v < 128
      → in_pair a b v ≡ 1 ↔ ((in_pair c d v ≡ 1) ⊎ ((j : ℕ) × (j < 64) × (bit mask j ≡ 1) × (at 2 t (base + j) v ≡ 1)))

-- of sets so gathered, into an empty one, a is the first mask
pub record FirstGathered (t : List ℕ) (mask a : ℕ) : Type 0 where
  pub second : ℕ
  pub gathered : Gathered t mask 0 0 0 a second

-- the set a, b is the union of the sets that the table has for the members of the set low, high
pub record Pictured (t : List ℕ) (low high a b : ℕ) : Type 0 where
  pub here : (v : ℕ) → v < 128 → in_pair a b v ≡ 1 ↔ ((w : ℕ) × (w < 128) × (in_pair low high w ≡ 1) × (at 2 t w v ≡ 1))

-- of the members of low, high: the set of one holds the sets of those that it has
pub record Nested (t : List ℕ) (low high : ℕ) : Type 0 where
  pub holds : (x w v : ℕ) → x < 128 → w < 128 → v < 128 → in_pair low high x ≡ 1 → in_pair low high w ≡ 1
      → at 2 t x w ≡ 1 → at 2 t w v ≡ 1 → at 2 t x v ≡ 1

-- of the members of low, high those in the set a, b have their sets in it
pub record Covered (t : List ℕ) (low high a b : ℕ) : Type 0 where
  pub inner : (w v : ℕ) → w < 128 → v < 128 → in_pair low high w ≡ 1 → in_pair a b w ≡ 1 → at 2 t w v ≡ 1 → in_pair a b v ≡ 1

-- the places p' are p with row r at the members of a mask that begins at vertex `base`
pub record Written (mask base r : ℕ) (p p' : List ℕ) : Type 0 where
  pub done : (j : ℕ) → j < 64 → bit mask j ≡ 1 → quad 2 p' (base + j) ≡ r
  pub others : (k v : ℕ) → k < 4 → (k ≡ 2 → (j : ℕ) → j < 64 → bit mask j ≡ 1 → v ≢ base + j) → quad k p' v ≡ quad k p v
