-- What the machine's answers say of its set of edges (SPECIFICATION.md, 11). Assumes nothing.
use Rattle.std.specs.Prelude.{◌≡◌, ◌≢◌, ◌⊎◌, ◌↔◌, ◌∷◌, ℕ, ◌≤◌, ◌<◌, length}
use Rattle.specification.specs.Graph.{Reaches}
use Rattle.specification.specs.Connection.{connection_number, Means}
use Rattle.specification.specs.declared.Connection.{Connection}
use Rattle.specification.specs.declared.Connection.TheVariants.{Unreached}
use Rattle.specification.specs.Limits.{most_edges}
use Rattle.specification.specs.Machine.{Graph, Call, Answer, In, refusal, step, Lawful}
use Rattle.specification.specs.Machine.Edge.{edge}

-- with the edge from u to v some vertex would reach itself
abbrev pub Closes : Graph → ℕ → ℕ → Type 0
Closes g u v = (w : ℕ) × Reaches (In (edge u v ∷ g.edges)) w w

-- why the edge from u to v is refused: one case for each number, and 0 where it is not
pub data Why (g : Graph) (u v : ℕ) : ℕ → Type 0 where
  unknown : (g.vertices ≤ u) ⊎ (g.vertices ≤ v) → Why g u v 3
  duplicate : u < g.vertices → v < g.vertices → In g.edges u v → Why g u v 4
  cycle : u < g.vertices → v < g.vertices → (In g.edges u v → ⊥) → Closes g u v → Why g u v 5
  full : u < g.vertices → v < g.vertices → (In g.edges u v → ⊥) → (Closes g u v → ⊥) → most_edges ≤ length g.edges → Why g u v 9
  free : u < g.vertices → v < g.vertices → (In g.edges u v → ⊥) → (Closes g u v → ⊥) → length g.edges < most_edges → Why g u v 0

-- of a graph that the machine comes to: the set's edges decide every answer, and an added edge is in the set with those that were there
pub record Exact (g : Graph) : Type 0 where
  pub lawful : Lawful g
  pub unknown : (u v : ℕ) → (g.vertices ≤ u) ⊎ (g.vertices ≤ v) → (step g (Call.leads u v)).answer ≡ Answer.refused 3
  pub leads : (u v : ℕ) → u < g.vertices → v < g.vertices
      → (a : Connection) × ((step g (Call.leads u v)).answer ≡ Answer.told a) × Means (In g.edges) u v (connection_number a)
  pub itself : (u : ℕ) → u < g.vertices → (step g (Call.leads u u)).answer ≡ Answer.told Unreached
  pub refusals : (u v : ℕ) → Why g u v (refusal g u v)
  pub added : (u v : ℕ) → (step g (Call.add u v)).answer ≡ Answer.added
      → (x y : ℕ) → In (step g (Call.add u v)).graph.edges x y ↔ (In g.edges x y ⊎ ((x ≡ u) × (y ≡ v)))

-- of a session that has come to g, what a refusal k and the number a of an answer to `leads` say: it is answered exactly where both are
-- vertices, a refusal is 3 and carries 0, and an answer means what its number says, which of a vertex and itself is 0
pub record Asks (g : Graph) (u v k a : ℕ) : Type 0 where
  pub known : (k ≡ 0) ↔ ((u < g.vertices) × (v < g.vertices))
  pub unknown : k ≢ 0 → (k ≡ 3) × (a ≡ 0)
  pub means : k ≡ 0 → Means (In g.edges) u v a
  pub itself : u ≡ v → a ≡ 0
