-- Transitive (implied) and reduced (firm) edges (SPECIFICATION.md, 5). Assumes nothing.
use Rattle.std.specs.Prelude.{◌≡◌, Bool, true, not, ◌&&◌, List, ℕ, ◌<◌, get_or}
use Rattle.specification.specs.Count.{sum, count}
use Rattle.specification.specs.Graph.{edge?}
use Rattle.specification.specs.Connection.{both?}
use Rattle.specification.specs.declared.Connection.{Connection}

-- an edge u → v is transitive: asked how u reaches v, by the edge and by longer routes, 'both' is the answer (5.1)
unfoldable pub transitive? : (ask : ℕ → ℕ → Connection) → (u v : ℕ) → Bool
transitive? ask u v = both? (ask u v)

-- how many of the first m edges are not transitive: the number of reduced edges
unfoldable pub reduced_count : (ask : ℕ → ℕ → Connection) → (m : ℕ) → (tails heads : List ℕ) → ℕ
reduced_count ask m tails heads = count m (λ e. not (transitive? ask (get_or tails e 0) (get_or heads e 0)))

-- a link of the set, between vertices below n
abbrev pub Linked : (n : ℕ) → (link : ℕ → ℕ → Bool) → ℕ → ℕ → Type 0
Linked n link u v = (u < n) × (v < n) × (link u v ≡ true)

-- the number of pairs
unfoldable pub link_count : (n : ℕ) → (link : ℕ → ℕ → Bool) → ℕ
link_count n link = sum n (λ u. count n (link u))

-- the links of our chart: the ends of the reduced edges (10.4)
unfoldable pub reduced_link : (ask : ℕ → ℕ → Connection) → (tails heads : List ℕ) → ℕ → ℕ → Bool
reduced_link ask tails heads u v = edge? tails heads u v && not (transitive? ask u v)
