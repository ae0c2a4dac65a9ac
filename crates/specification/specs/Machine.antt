-- Sessions (SPECIFICATION.md, 11). Assumes nothing.
use Rattle.std.specs.Prelude.{◌≡◌, Bool, true, false, ◌||◌, ◌&&◌, List, [], ◌∷◌, ℕ, zero, suc, ◌≤◌, ◌<◌, eqb, leb, length}
use Rattle.specification.specs.Count.{choose}
use Rattle.specification.specs.Graph.{Reaches, reaches?, size_refusal}
use Rattle.specification.specs.Connection.{connects}
use Rattle.specification.specs.declared.Connection.{Connection}
use Rattle.specification.specs.Limits.{most_vertices, most_edges}

-- an edge, from its tail to its head
pub data Edge : Type 0 where
  edge : ℕ → ℕ → Edge

-- whether the edge from u to v is in the list
unfoldable pub contains : List Edge → ℕ → ℕ → Bool
contains [] u v = false
contains (edge a b ∷ es) u v = (eqb a u && eqb b v) || contains es u v

abbrev pub In : List Edge → ℕ → ℕ → Type 0
In es u v = contains es u v ≡ true

-- the set of edges is a list in which none stands twice, so that its length is their number
pub record Graph : Type 0 where
  pub vertices : ℕ
  pub edges : List Edge

pub data Call : Type 0 where
  add : ℕ → ℕ → Call
  leads : ℕ → ℕ → Call

pub data Answer : Type 0 where
  -- the number, and nothing changes
  refused : ℕ → Answer
  -- the edge is in
  added : Answer
  -- how the first vertex reaches the second
  told : Connection → Answer

-- the number of an answer: that of a refusal, and 0 where nothing is refused
unfoldable pub answer_number : Answer → ℕ
answer_number (Answer.refused k) = k
answer_number Answer.added = 0
answer_number (Answer.told a) = 0

-- what a call leaves, and what it answers
pub record Turn : Type 0 where
  pub graph : Graph
  pub answer : Answer

-- ---- the tests

-- one of the two is no vertex
unfoldable pub unknown? : Graph → ℕ → ℕ → Bool
unknown? g u v = leb g.vertices u || leb g.vertices v

-- u reaches v by the set's edges
unfoldable pub reached? : Graph → ℕ → ℕ → Bool
reached? g u v = reaches? (contains g.edges) g.vertices u v

-- how it does
unfoldable pub connected : Graph → ℕ → ℕ → Connection
connected g u v = connects (contains g.edges) g.vertices u v

-- the edge from u to v would close a cycle: v is u or reaches it
unfoldable pub cyclic? : Graph → ℕ → ℕ → Bool
cyclic? g u v = eqb v u || reached? g v u

-- no edge more can be taken
unfoldable pub full? : Graph → Bool
full? g = leb most_edges (length g.edges)

-- the number of the first test that holds, or 0: unknown vertex ('stranger'), duplicate ('double'), cycle ('ring'), full
unfoldable pub verdict : Bool → Bool → Bool → Bool → ℕ
verdict unknown duplicate cycle full =
    choose unknown (λ _. 3) (λ _. choose duplicate (λ _. 4) (λ _. choose cycle (λ _. 5) (λ _. choose full (λ _. 9) (λ _. 0))))

-- why the edge from u to v is refused, or 0
unfoldable pub refusal : Graph → ℕ → ℕ → ℕ
refusal g u v = verdict (unknown? g u v) (contains g.edges u v) (cyclic? g u v) (full? g)

-- ---- the calls

unfoldable pub insert : Graph → ℕ → ℕ → Graph
insert g u v = record { vertices = g.vertices; edges = edge u v ∷ g.edges }

-- a change from g to h, where k is 0; else refused with k
unfoldable pub change : Graph → ℕ → Graph → Turn
change g zero h = record { graph = h; answer = Answer.added }
change g (suc k) h = record { graph = g; answer = Answer.refused (suc k) }

-- an answer, unless a vertex is unknown
unfoldable pub reply : Graph → Bool → Connection → Turn
reply g true a = record { graph = g; answer = Answer.refused 3 }
reply g false a = record { graph = g; answer = Answer.told a }

unfoldable pub step : Graph → Call → Turn
step g (Call.add u v) = change g (refusal g u v) (insert g u v)
step g (Call.leads u v) = reply g (unknown? g u v) (connected g u v)

-- the graph after a list of calls
unfoldable pub run : Graph → List Call → Graph
run g [] = g
run g (c ∷ cs) = run (step g c).graph cs

-- the answers to a list of calls
unfoldable pub answers : Graph → List Call → List Answer
answers g [] = []
answers g (c ∷ cs) = (step g c).answer ∷ answers (step g c).graph cs

-- ---- the start

unfoldable pub empty : ℕ → Graph
empty n = record { vertices = n; edges = [] }

-- a fresh session's vertices: none where the start is refused
unfoldable pub start_vertices : ℕ → ℕ
start_vertices n = choose (eqb (size_refusal n) 0) (λ _. n) (λ _. 0)

unfoldable pub fresh : ℕ → Graph
fresh n = empty (start_vertices n)

-- ---- what holds of every graph that the machine comes to

-- no edge stands twice
pub data Distinct : List Edge → Type 0 where
  none : Distinct []
  next : {a b : ℕ} {es : List Edge} → contains es a b ≡ false → Distinct es → Distinct (edge a b ∷ es)

pub record Lawful (g : Graph) : Type 0 where
  pub small : g.vertices ≤ most_vertices
  pub within : (u v : ℕ) → In g.edges u v → (u < g.vertices) × (v < g.vertices)
  pub distinct : Distinct g.edges
  pub acyclic : (u : ℕ) → Reaches (In g.edges) u u → ⊥
  pub limit : length g.edges ≤ most_edges
