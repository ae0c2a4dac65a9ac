-- What the steps of lifting leave behind. The places have four numbers a vertex, the third its row. Assumes nothing.
use Rattle.std.specs.Prelude.{◌≡◌, ◌≢◌, ◌↔◌, Bool, List, ℕ, ◌+◌, ◌*◌, ◌≤◌, ◌<◌, min, max, ltb, length, get_or}
use Rattle.specification.specs.Limits.{most_vertices, most_floor, highest_row}
use Rattle.specification.specs.Count.{some, above}
use Rattle.specification.specs.Sets.{bit, at, has?}
use Rattle.specification.specs.Rows.{row, rows_used}
use Rattle.specification.specs.Lent.{KeptFrom}
use Rattle.counting.specs.Quads.{quad}
use Rattle.descent.specs.Promise.{Descent}
use Rattle.descent.specs.Steps.Closed.{Arc, Inside, Prefixes}

-- one of the floors is over the highest
unfoldable pub too_high? : List ℕ → Bool
too_high? floors = some (length floors) (λ v. ltb most_floor (get_or floors v 0))

-- n vertices stand at their floors, and nothing else has changed
pub record Set (n : ℕ) (floors p p' : List ℕ) : Type 0 where
  pub floored : (v : ℕ) → v < n → quad 2 p' v ≡ get_or floors v 0
  pub others : (k v : ℕ) → k < 4 → (k ≡ 2 → n ≤ v) → quad k p' v ≡ quad k p v

-- the members of a mask that begins at vertex `base` are lifted to row r, unless they are higher
pub record Lifted (mask base r : ℕ) (p p' : List ℕ) : Type 0 where
  pub members : (j : ℕ) → j < 64 → bit mask j ≡ 1 → quad 2 p' (base + j) ≡ max (quad 2 p (base + j)) r
  pub others : (k v : ℕ) → k < 4 → (k ≡ 2 → (j : ℕ) → j < 64 → bit mask j ≡ 1 → v ≢ base + j) → quad k p' v ≡ quad k p v

-- p has a place for every vertex that an edge of e enters
pub record Ample (e p : List ℕ) : Type 0 where
  pub room : (u v : ℕ) → Arc e u v → 4 * v + 4 ≤ length p

-- the successors of u are lifted above it
pub record Pushed (e : List ℕ) (u : ℕ) (p p' : List ℕ) : Type 0 where
  pub heads : (v : ℕ) → Arc e u v → quad 2 p' v ≡ max (quad 2 p v) (min (quad 2 p u + 1) highest_row)
  pub others : (k v : ℕ) → k < 4 → (k ≡ 2 → Arc e u v → ⊥) → quad k p' v ≡ quad k p v

module _ (e : List ℕ) (n : ℕ) (floor : ℕ → ℕ) where
  -- the row that v is to have
  abbrev pub row_in : ℕ → ℕ
  row_in = row (has? 2 e) floor n

  -- every edge joins two of n vertices, rows obey the rule, and none is the highest number
  pub record Slope : Type 0 where
    pub inside : Inside e n
    pub rule : (v : ℕ) → v < n → row_in v ≡ max (floor v) (above n (λ u. has? 2 e u v) row_in)
    pub low : (v : ℕ) → v < n → row_in v < highest_row

  -- on the way from the floors to the rows
  pub record Rising (p : List ℕ) : Type 0 where
    pub low : (v : ℕ) → v < n → floor v ≤ quad 2 p v
    pub high : (v : ℕ) → v < n → quad 2 p v ≤ row_in v

  -- the successors of u are above its row
  abbrev pub Over : List ℕ → ℕ → Type 0
  Over p u = (v : ℕ) → Arc e u v → row_in u < quad 2 p v

  -- u is one of the vertices, and stands in its row
  abbrev pub Stands : List ℕ → ℕ → Type 0
  Stands p u = (u < n) × (quad 2 p u ≡ row_in u)

  -- from p to p' vertices rise and none sinks, and nothing but their rows has changed
  pub record Risen (p p' : List ℕ) : Type 0 where
    pub rising : Rising p'
    pub grown : (v : ℕ) → v < n → quad 2 p v ≤ quad 2 p' v
    pub others : (k v : ℕ) → k < 4 → (k ≡ 2 → n ≤ v) → quad k p' v ≡ quad k p v

  -- where the members of a mask that begins at vertex `base` stand in their rows, their successors come above them
  pub record Above (mask base : ℕ) (p p' : List ℕ) : Type 0 where
    pub risen : Risen p p'
    pub over : (j : ℕ) → j < 64 → bit mask j ≡ 1 → Over p' (base + j)

  abbrev pub Carried : ℕ → ℕ → List ℕ → List ℕ → Type 0
  Carried mask base p p' =
      Slope → Rising p → ((j : ℕ) → j < 64 → bit mask j ≡ 1 → Stands p (base + j)) → Above mask base p p'

  -- from their floors all vertices come to their rows, and nothing else has changed
  pub record Arrived (p p' : List ℕ) : Type 0 where
    pub rows : (v : ℕ) → v < n → quad 2 p' v ≡ row_in v
    pub others : (k v : ℕ) → k < 4 → (k ≡ 2 → n ≤ v) → quad k p' v ≡ quad k p v

  abbrev pub Lifts : List ℕ → List ℕ → Type 0
  Lifts p p' = Slope → ((v : ℕ) → v < n → quad 2 p v ≡ floor v) → Arrived p p'

-- e has the edges of n vertices, `below` their sets by level, and there is a place for each
pub record Liftable (e below : List ℕ) (n top places : ℕ) : Type 0 where
  pub inside : Inside e n
  pub edges : 2 * n ≤ length e
  pub levels : Prefixes e n top below
  pub sets : 2 * top + 2 ≤ length below
  pub room : 4 * n ≤ places

-- the rows of n vertices by their floors, the sets by row, and nothing else
pub record Settled (n : ℕ) (floors e b p : List ℕ) (r : Descent) (b' p' : List ℕ) : Type 0 where
  pub refusal : r.refusal ≡ 0
  pub rows : (v : ℕ) → v < n → quad 2 p' v ≡ row_in e n (λ x. get_or floors x 0) v
  pub used : r.used ≡ rows_used (has? 2 e) (λ x. get_or floors x 0) n
  pub below : (k v : ℕ) → k ≤ r.used → v < most_vertices → at 2 b' k v ≡ 1 ↔ ((v < n) × (row_in e n (λ x. get_or floors x 0) v < k))
  pub past : KeptFrom (2 * r.used + 2) b b'
  pub others : (k v : ℕ) → k < 4 → (k ≡ 2 → n ≤ v) → quad k p' v ≡ quad k p v
