-- The tables of a graph: its edges, what reaches what, and longer routes. Assumes nothing.
use Rattle.std.specs.Prelude.{◌≡◌, ◌↔◌, List, ℕ, ◌<◌, ◌*◌}
use Rattle.specification.specs.Limits.{most_vertices}
use Rattle.specification.specs.Count.{count}
use Rattle.specification.specs.Sets.{at, has?}
use Rattle.specification.specs.Connection.{connection}
use Rattle.specification.specs.declared.Connection.{Connection}
use Rattle.specification.specs.Graph.{Reachable, Adjacent, reachable?}

-- two tables and a number a vertex
pub record Reachability : Type 0 where
  pub edges : List ℕ
  pub table : List ℕ
  pub counts : ℕ → ℕ

-- r is the graph's reachability: a table of its edges and one of what reaches what (SPECIFICATION.md, 2.2), two masks a vertex each, and
-- the number of descendants of each vertex. A mask past a table's end counts as 0
pub record Closure (n : ℕ) (tails heads : List ℕ) (r : Reachability) : Type 0 where
  pub edge_bits : (u v : ℕ) → u < most_vertices → v < most_vertices → at 2 r.edges u v ≡ 1 ↔ Adjacent n tails heads u v
  pub bits : (u v : ℕ) → u < most_vertices → v < most_vertices → at 2 r.table u v ≡ 1 ↔ Reachable n tails heads u v
  pub counted : (u : ℕ) → u < n → r.counts u ≡ count most_vertices (reachable? n tails heads u)

-- r is the table t, of w masks a vertex, followed by itself: v is in the set of u exactly when some x is in the set of u, and v in that
-- of x
pub record Composed (w : ℕ) (t r : List ℕ) : Type 0 where
  pub bits : (u v : ℕ) → u < w * 64 → v < w * 64 → at w r u v ≡ 1 ↔ ((x : ℕ) × (x < w * 64) × (at w t u x ≡ 1) × (at w t x v ≡ 1))

-- how u reaches v, by a table of edges and one of longer routes, of w masks a vertex each
abbrev pub connection_by : ℕ → List ℕ → List ℕ → ℕ → ℕ → Connection
connection_by w edges longer u v = connection (has? w edges u v) (has? w longer u v)
