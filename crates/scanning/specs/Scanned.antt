-- What one pass over the edges' bytes finds. Assumes nothing.
use Rattle.std.specs.Prelude.{◌≡◌, ◌≢◌, ◌↔◌, true, false, List, ℕ, ◌*◌, ◌≤◌, ◌<◌, min, length, get_or}
use Rattle.specification.specs.Limits.{most_vertices}
use Rattle.specification.specs.Count.{choose, some}
use Rattle.specification.specs.Sets.{at}
use Rattle.specification.specs.Graph.{edge_count, Edge, outsized?, strange?, tails_of, heads_of, duplicate?}
use Rattle.specification.specs.Lent.{Untouched}
use Rattle.reach.specs.Steps.{Marked, Within}

-- why edges are refused, however many they are: 3, an end is no vertex; 4, an edge stands twice; or 0
unfoldable pub ends_refusal : ℕ → List ℕ → List ℕ → ℕ
ends_refusal n tails heads =
    choose (some (edge_count tails heads) (strange? n tails heads)) (λ _. 3)
    (λ _. choose (duplicate? (edge_count tails heads) tails heads) (λ _. 4) (λ _. 0))

-- t has the bits of the edges before the first that has an end that is no vertex, and no other
pub record Cut (n : ℕ) (ends t : List ℕ) : Type 0 where
  pub first : ℕ
  pub listed : first < edge_count (tails_of ends) (heads_of ends)
  pub strange : strange? n (tails_of ends) (heads_of ends) first ≡ true
  pub before : Within n first (tails_of ends) (heads_of ends)
  pub marked : Marked 2 (tails_of ends) (heads_of ends) first t

-- r is the answer of the checks 3 and 4 of edges of bytes; where every end is a vertex, t has the edges' bits and no other, else those of
-- the edges before the first that has another end. The masks past those of n vertices are 0
pub record Scanned (n : ℕ) (ends t : List ℕ) (r : ℕ) : Type 0 where
  pub answer : r ≡ ends_refusal n (tails_of ends) (heads_of ends)
  pub bits : r ≢ 3 → (u v : ℕ) → u < most_vertices → v < most_vertices → at 2 t u v ≡ 1 ↔ Edge (tails_of ends) (heads_of ends) u v
  pub cut : r ≡ 3 → Cut n ends t
  pub others : (i : ℕ) → 2 * n ≤ i → get_or t i 0 ≡ 0

-- n vertices and edges of bytes, checked: r is 8 where the table e lacks room, else 2 where they are too few or too many, and nothing
-- changed; else it is 3, 4 or 0, and e' is the table after it
pub record Scans (n : ℕ) (ends e : List ℕ) (r : ℕ) (e' : List ℕ) : Type 0 where
  pub short : length e < 2 * min n most_vertices → (r ≡ 8) × Untouched e e'
  pub outsized : 2 * min n most_vertices ≤ length e → outsized? n (edge_count (tails_of ends) (heads_of ends)) ≡ true → (r ≡ 2)
      × Untouched e e'
  pub checked : 2 * min n most_vertices ≤ length e → outsized? n (edge_count (tails_of ends) (heads_of ends)) ≡ false → Scanned n ends e' r
  pub long : length e' ≡ length e
