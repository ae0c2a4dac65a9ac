-- Transitive edges by a table, reduced edges as a relation, links with the graph's reachability, and what the theorems ask of a graph.
-- Which edge is transitive is defined in specification/specs/Marks. Assumes nothing.
use Rattle.std.specs.Prelude.{◌≡◌, Bool, true, false, List, ◌↔◌, ℕ, ◌*◌, ◌%◌, ◌≤◌, ◌<◌, eqb, get_or}
use Rattle.specification.specs.Graph.{Reaches, edge_count, Edge}
use Rattle.specification.specs.Limits.{mask_bits}
use Rattle.specification.specs.Sets.{bit, mask_of}
use Rattle.specification.specs.Connection.{connection, connection_number, both?, Means}
use Rattle.specification.specs.declared.Connection.{Connection}
use Rattle.specification.specs.Marks.{transitive?, Linked, link_count}

-- an edge to v is transitive: there is the edge, and longer routes by the mask that holds v of its tail's set in their table
unfoldable pub marked? : ℕ → ℕ → Bool
marked? mask v = both? (connection true (eqb (bit mask (v % mask_bits)) 1))

-- .. an edge from u to v, by the table: the set of u has two masks, from mask 2 u on
unfoldable pub transitive_in? : List ℕ → ℕ → ℕ → Bool
transitive_in? longer u v = marked? (get_or longer (mask_of (2 * u) v) 0) v

-- there is a reduced edge from u to v
abbrev pub Reduced : (ask : ℕ → ℕ → Connection) → (tails heads : List ℕ) → ℕ → ℕ → Type 0
Reduced ask tails heads u v = Edge tails heads u v × (transitive? ask u v ≡ false)

-- ---- links (SPECIFICATION.md, 10.1)

-- the links have the graph's reachability
abbrev pub SameClosure : (n : ℕ) → (tails heads : List ℕ) → (link : ℕ → ℕ → Bool) → Type 0
SameClosure n tails heads link = (u v : ℕ) → Reaches (Linked n link) u v ↔ Reaches (Edge tails heads) u v

-- the links have the graph's reachability, and no set that has it is smaller
pub record Fewest (n : ℕ) (tails heads : List ℕ) (link : ℕ → ℕ → Bool) : Type 0 where
  pub same : SameClosure n tails heads link
  pub least : (other : ℕ → ℕ → Bool) → SameClosure n tails heads other → link_count n link ≤ link_count n other

-- ---- what is asked of the graph

-- a directed acyclic graph of n vertices, no two edges with the same ends; `ask` says how its vertices reach each other
pub record Dag (ask : ℕ → ℕ → Connection) (n : ℕ) (tails heads : List ℕ) : Type 0 where
  pub ends : (i : ℕ) → i < edge_count tails heads → (get_or tails i 0 < n) × (get_or heads i 0 < n)
  pub distinct : (i j : ℕ) → i < edge_count tails heads → j < edge_count tails heads → get_or tails i 0 ≡ get_or tails j 0
      → get_or heads i 0 ≡ get_or heads j 0 → i ≡ j
  pub acyclic : (u : ℕ) → Reaches (Edge tails heads) u u → ⊥
  pub told : (u v : ℕ) → Means (Edge tails heads) u v (connection_number (ask u v))
