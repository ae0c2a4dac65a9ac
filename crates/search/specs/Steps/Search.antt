-- What the private steps of the search leave behind. Assumes nothing.
use Rattle.std.specs.Prelude.{◌≡◌, Bool, true, false, not, ◌&&◌, List, ℕ, ◌≤◌, ◌<◌, ltb, Option, Some, None}
use Rattle.specification.specs.Count.{choose}
use Rattle.specification.specs.Sets.{member?, has?, member}
use Rattle.search.specs.Steps.Coded.{State, seen, unvisited, augment, fresh}

abbrev pub state : List ℕ → List ℕ → Bool → State
state predecessor visited found = record { predecessor = predecessor; visited = visited; found = found }

-- h leads to v by the table, and v is not visited
unfoldable pub open? : List ℕ → ℕ → List ℕ → ℕ → Bool
open? table h visited v = has? 2 table h v && not (member? visited 0 v)

-- r is the first such vertex at or after `from`, or 128
pub record NextOpen (table : List ℕ) (h : ℕ) (visited : List ℕ) (from r : ℕ) : Type 0 where
  pub within : r ≤ 128
  pub skipped : (v : ℕ) → from ≤ v → v < r → open? table h visited v ≡ false
  pub found : r < 128 → (from ≤ r) × (open? table h visited r ≡ true)

-- v, where it is below n
unfoldable pub below : ℕ → ℕ → Option ℕ
below n v = choose (ltb v n) (λ _. Some v) (λ _. None)

-- the answer is the first such vertex of all, where it is below n
pub record Opens (table : List ℕ) (h : ℕ) (visited : List ℕ) (n : ℕ) (answer : Option ℕ) : Type 0 where
  pub first : ℕ
  pub found : NextOpen table h visited 0 first
  pub told : answer ≡ below n first

-- a search took s to r: as the rule does, whatever the depth allowed, if that is above the number of unvisited vertices
pub record Augments (leads : ℕ → ℕ → Bool) (n h : ℕ) (s r : State) : Type 0 where
  pub same : (k : ℕ) → unvisited n s < k → r ≡ augment leads n k h s
  pub fewer : unvisited n r ≤ unvisited n s
  -- what is visited stays visited
  pub mono : (u : ℕ) → seen u s ≡ true → seen u r ≡ true

-- h asked: a search that began with no vertex visited took the predecessors P to P'
pub record Asks (leads : ℕ → ℕ → Bool) (n h : ℕ) (P P' : List ℕ) : Type 0 where
  pub visited : List ℕ
  pub found : Bool
  pub augments : Augments leads n h (fresh P) (state P' visited found)

-- r is the first vertex at or after `from` and below `top` in the set at `first`, or `top` where there is none
pub record Next (masks : List ℕ) (first top from r : ℕ) : Type 0 where
  pub within : r ≤ top
  pub skipped : (v : ℕ) → from ≤ v → v < r → member masks first v ≡ 0
  pub found : r < top → (from ≤ r) × (member masks first r ≡ 1)
