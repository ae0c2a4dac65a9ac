-- What the descent promises. Rows are levels here, which go by the edges alone (SPECIFICATION.md, 4.2). Assumes nothing.
use Rattle.std.specs.Prelude.{◌≡◌, ◌≢◌, ◌⊎◌, ◌↔◌, Bool, List, ℕ, ◌+◌, ◌*◌, ◌≤◌, ◌<◌, min, eqb, length, get_or, Result, Ok, Err}
use Rattle.specification.specs.Limits.{most_vertices}
use Rattle.specification.specs.Count.{choose, some}
use Rattle.specification.specs.Sets.{at}
use Rattle.specification.specs.Graph.{edge_count, edge?, refusal, tails_of, heads_of, duplicate?, reachable?}
use Rattle.rows.specs.Levels.{level_within, level, levels_used}
use Rattle.specification.specs.Lent.{Untouched, KeptFrom}
use Rattle.masks.specs.Sets.{Blank}
use Rattle.scanning.specs.Scanned.{ends_refusal, Scanned}
use Rattle.counting.specs.Quads.{quad}
use Rattle.reach.specs.Closure.{Closure, Composed}
use Rattle.specification.specs.declared.Refusal.{Refusal}
use Rattle.specification.specs.Refusals.{refusal_number}

-- why the edges are refused, or 0, and how many rows are used
pub record Descent : Type 0 where
  pub refusal : ℕ
  pub used : ℕ

-- why edges are refused: 2 'size' to 5 'ring' (SPECIFICATION.md, 13), the first that applies, or 0
unfoldable pub edges_refusal : ℕ → List ℕ → List ℕ → ℕ
edges_refusal n tails heads =
    choose (eqb (refusal n tails heads) 0)
    (λ _. choose (duplicate? (edge_count tails heads) tails heads) (λ _. 4)
    (λ _. choose (some most_vertices (λ u. reachable? n tails heads u u)) (λ _. 5) (λ _. 0)))
    (λ _. refusal n tails heads)

-- refused with k: no row is used
abbrev pub no_descent : ℕ → Descent
no_descent k = record { refusal = k; used = 0 }

-- what a call says: how many rows are used, or why the edges are refused
abbrev pub descent_of : Result ℕ Refusal → Descent
descent_of (Ok used) = record { refusal = 0; used = used }
descent_of (Err k) = no_descent (refusal_number k)

-- the work lists have room: two masks a vertex, at most 128, and one set more for the rows; four numbers a vertex in the places
pub record Sized (n : ℕ) (e b t l p : List ℕ) : Type 0 where
  pub edges : 2 * min n most_vertices ≤ length e
  pub below : 2 * min n most_vertices + 2 ≤ length b
  pub table : 2 * min n most_vertices ≤ length t
  pub longer : 2 * min n most_vertices ≤ length l
  pub places : 4 * min n most_vertices ≤ length p

-- what is made of a graph without cycles: e has its edges, t what reaches what, l the same by two edges or more, all three 0 past the masks
-- of n vertices; set k of b has the vertices of rows below k, and p the row of each vertex and how many it reaches
pub record Descended (n : ℕ) (tails heads : List ℕ) (r : Descent) (e b t l p : List ℕ) : Type 0 where
  pub closure : Closure n tails heads (record { edges = e; table = t; counts = quad 3 p })
  pub longer : Composed 2 t l
  pub past : (i : ℕ) → 2 * n ≤ i → (get_or e i 0 ≡ 0) × (get_or t i 0 ≡ 0) × (get_or l i 0 ≡ 0)
  pub rows : (v : ℕ) → v < n → quad 2 p v ≡ level (edge? tails heads) n v
  pub used : r.used ≡ levels_used (edge? tails heads) n
  pub below : (k v : ℕ) → k ≤ r.used → v < most_vertices → at 2 b k v ≡ 1 ↔ ((v < n) × (level (edge? tails heads) n v < k))

-- n rounds over edges with a cycle: set k of b has the vertices whose row is below k by paths of at most n edges; a vertex whose row is
-- below n has it in p, and nothing else has changed
pub record Stuck (E : ℕ → ℕ → Bool) (n : ℕ) (b p b' p' : List ℕ) : Type 0 where
  pub sets : (k v : ℕ) → k ≤ n → v < most_vertices → at 2 b' k v ≡ 1 ↔ ((v < n) × (level_within E n n v < k))
  pub past : KeptFrom (2 * n + 2) b b'
  pub settled : (v : ℕ) → v < n → level_within E n n v < n → quad 2 p' v ≡ level_within E n n v
  pub others : (k v : ℕ) → k < 4 → (k ≡ 2 → v < n → n ≤ level_within E n n v) → quad k p' v ≡ quad k p v

-- what a refusal k leaves: after 2 and 8 nothing changed; after 3, 4 and 5 e has what the pass over the edges leaves, after 3 and 4 nothing
-- else changed, and after 5 t and l are cleared, and b and p have what the rounds leave
pub record Left (k n : ℕ) (ends e b t l p e' b' t' l' p' : List ℕ) : Type 0 where
  pub alone : (k ≡ 2) ⊎ (k ≡ 8) → Untouched e e'
  pub edges : k ≢ 2 → k ≢ 8 → Scanned n ends e' (ends_refusal n (tails_of ends) (heads_of ends))
  pub others : k ≢ 5 → Untouched b b' × Untouched t t' × Untouched l l' × Untouched p p'
  pub cyclic : k ≡ 5 → Blank t' × Blank l' × Stuck (edge? (tails_of ends) (heads_of ends)) n b p b' p'

-- from the bytes of the edges to the tables; e', b', t', l' and p' are the work lists after it. Where a list has too little room the answer
-- is 8, and nothing changed. Past the sets of the rows used b stays, and of the places all but the rows and counts of the n vertices
pub record Descends (n : ℕ) (ends e b t l p : List ℕ) (r : Descent) (e' b' t' l' p' : List ℕ) : Type 0 where
  pub answer : Sized n e b t l p → r.refusal ≡ edges_refusal n (tails_of ends) (heads_of ends)
  pub short : (Sized n e b t l p → ⊥)
      → (r.refusal ≡ 8) × Untouched e e' × Untouched b b' × Untouched t t' × Untouched l l' × Untouched p p'
  pub none : r.refusal ≢ 0 → r ≡ no_descent r.refusal
  pub made : r.refusal ≡ 0 → Descended n (tails_of ends) (heads_of ends) r e' b' t' l' p'
  pub rows_past : r.refusal ≡ 0 → KeptFrom (2 * r.used + 2) b b'
  pub left : r.refusal ≢ 0 → Left r.refusal n ends e b t l p e' b' t' l' p'
  pub kept : (k v : ℕ) → k < 2 → quad k p' v ≡ quad k p v
  pub past : (k v : ℕ) → k < 4 → n ≤ v → quad k p' v ≡ quad k p v
  pub long : (length e' ≡ length e) × (length b' ≡ length b) × (length t' ≡ length t) × (length l' ≡ length l) × (length p' ≡ length p)
