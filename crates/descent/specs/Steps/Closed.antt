-- What the steps of the descent leave behind. A table has two masks of 64 bits a vertex; the places have four numbers, the third its row,
-- the last how many vertices it reaches. Assumes nothing.
use Rattle.std.specs.Prelude.{◌≡◌, ◌≢◌, ◌↔◌, Bool, ◌&&◌, List, ℕ, ◌+◌, ◌*◌, ◌≤◌, ◌<◌, min, ltb, leb, length, get_or, Option, Some, None}
use Rattle.specification.specs.Count.{sum, count}
use Rattle.specification.specs.Sets.{bit, at, has?}
use Rattle.specification.specs.Graph.{Reaches, Longer, reaches?}
use Rattle.rows.specs.Levels.{level, levels_used}
use Rattle.counting.specs.Quads.{quad}
use Rattle.masks.specs.Sets.{Blank}
use Rattle.specification.specs.Lent.{KeptFrom}
use Rattle.descent.specs.Promise.{Descent, no_descent, Stuck}
use Rattle.specification.specs.Limits.{most_vertices}

-- the table e has an edge from u to v
abbrev pub Arc : List ℕ → ℕ → ℕ → Type 0
Arc e u v = (u < 128) × (v < 128) × (at 2 e u v ≡ 1)

-- the same, computed
unfoldable pub arc? : List ℕ → ℕ → ℕ → Bool
arc? e u v = ltb u 128 && (ltb v 128 && has? 2 e u v)

-- t has two masks for every vertex that an edge of e enters
pub record Ample (e t : List ℕ) : Type 0 where
  pub room : (u v : ℕ) → Arc e u v → 2 * v + 2 ≤ length t

-- the set of u in t is what u reaches by the edges of e
abbrev pub Reached : List ℕ → List ℕ → ℕ → Type 0
Reached e t u = (v : ℕ) → v < 128 → at 2 t u v ≡ 1 ↔ Reaches (Arc e) u v

-- what the lists have for u is right: what u reaches, what it reaches by two edges or more, and how many vertices it reaches
pub record Finished (e t l p : List ℕ) (u : ℕ) : Type 0 where
  pub reached : Reached e t u
  pub farther : (v : ℕ) → v < 128 → at 2 l u v ≡ 1 ↔ Longer (Arc e) u v
  pub counted : quad 3 p u ≡ sum 128 (at 2 t u)

-- what the tables have for u is the same
pub record Same (u : ℕ) (t l t' l' : List ℕ) : Type 0 where
  pub low : get_or t' (2 * u) 0 ≡ get_or t (2 * u) 0
  pub high : get_or t' (2 * u + 1) 0 ≡ get_or t (2 * u + 1) 0
  pub low_far : get_or l' (2 * u) 0 ≡ get_or l (2 * u) 0
  pub high_far : get_or l' (2 * u + 1) 0 ≡ get_or l (2 * u + 1) 0

-- one vertex more
pub record Vertex (e : List ℕ) (u : ℕ) (t l p t' l' p' : List ℕ) : Type 0 where
  pub own : Finished e t' l' p' u
  pub others : (w : ℕ) → w ≢ u → Same w t l t' l'
  pub rest : (k v : ℕ) → k < 4 → (k ≡ 3 → v ≢ u) → quad k p' v ≡ quad k p v

-- the members of a mask that begins at vertex `base`
pub record Row (e : List ℕ) (mask base : ℕ) (t l p t' l' p' : List ℕ) : Type 0 where
  pub done : (j : ℕ) → j < 64 → bit mask j ≡ 1 → Finished e t' l' p' (base + j)
  pub kept : (w : ℕ) → Finished e t l p w → Finished e t' l' p' w
  pub others : (w : ℕ) → ((j : ℕ) → j < 64 → bit mask j ≡ 1 → w ≢ base + j) → Same w t l t' l'
  pub rest : (k v : ℕ) → k < 4 → (k ≡ 3 → (j : ℕ) → j < 64 → bit mask j ≡ 1 → v ≢ base + j) → quad k p' v ≡ quad k p v

-- every edge joins two of n vertices
pub record Inside (e : List ℕ) (n : ℕ) : Type 0 where
  pub small : n ≤ 128
  pub tail : (u v : ℕ) → Arc e u v → u < n
  pub head : (u v : ℕ) → Arc e u v → v < n

-- set r of `below` has the vertices whose row is below r; no row is `top` or more
pub record Prefixes (e : List ℕ) (n top : ℕ) (below : List ℕ) : Type 0 where
  pub few : top ≤ n
  pub members : (r v : ℕ) → r ≤ top → v < 128 → at 2 below r v ≡ 1 ↔ ((v < n) × (level (has? 2 e) n v < r))
  pub all : (v : ℕ) → v < n → level (has? 2 e) n v < top

-- the number of rows, 0 where there is none
abbrev pub levels_in : Option ℕ → ℕ
levels_in None = 0
levels_in (Some used) = used

-- where a vertex reaches itself, r is 0; else r is the number of rows used, and p' has the row of each of the n vertices. Every other
-- number is that of p, and past the sets of the rows `below` has what b has
pub record Laid (e : List ℕ) (n r : ℕ) (p p' b below : List ℕ) : Type 0 where
  pub cyclic : r ≡ 0 → (u : ℕ) × (u < n) × Reaches (Arc e) u u
  pub acyclic : r ≢ 0 → (u : ℕ) → Reaches (Arc e) u u → ⊥
  pub used : r ≢ 0 → r ≡ levels_used (has? 2 e) n
  pub rule : r ≢ 0 → (v : ℕ) → v < n → quad 2 p' v ≡ level (has? 2 e) n v
  pub prefixes : r ≢ 0 → Prefixes e n r below
  pub sets_past : r ≢ 0 → KeptFrom (2 * r + 2) b below
  pub refused : r ≡ 0 → Stuck (has? 2 e) n b p below p'
  pub rest : (k v : ℕ) → k < 4 → (k ≡ 2 → n ≤ v) → quad k p' v ≡ quad k p v

-- the lists have what is right for each of n vertices, and else what they had
pub record Closed (e : List ℕ) (n : ℕ) (t l p t' l' p' : List ℕ) : Type 0 where
  pub bits : (u v : ℕ) → u < n → v < 128 → at 2 t' u v ≡ 1 ↔ Reaches (Arc e) u v
  pub farther : (u v : ℕ) → u < n → v < 128 → at 2 l' u v ≡ 1 ↔ Longer (Arc e) u v
  pub counted : (u : ℕ) → u < n → quad 3 p' u ≡ count 128 (reaches? (arc? e) n u)
  pub others : (u : ℕ) → n ≤ u → Same u t l t' l'
  pub rest : (k v : ℕ) → k < 4 → (k ≡ 3 → n ≤ v) → quad k p' v ≡ quad k p v

-- of the places only the rows and counts of n vertices change
abbrev pub Rest : ℕ → List ℕ → List ℕ → Type 0
Rest n p p' = (k v : ℕ) → k < 4 → (2 ≤ k → n ≤ v) → quad k p' v ≡ quad k p v

-- the rows of n vertices and what each reaches, from tables of zeros: refused with 5 where a vertex reaches itself, and then these are left
pub record Ranked (e : List ℕ) (n : ℕ) (b₀ p : List ℕ) (r : Descent) (b t l p' : List ℕ) : Type 0 where
  pub cyclic : r.refusal ≢ 0 → (r ≡ no_descent 5) × ((u : ℕ) × (u < n) × Reaches (Arc e) u u)
  pub left : r.refusal ≢ 0 → Blank t × Blank l × Stuck (has? 2 e) n b₀ p b p'
  pub made : r.refusal ≡ 0 → (r.used ≢ 0)
      × ((t₀ l₀ q : List ℕ) × Blank t₀ × Blank l₀ × Laid e n r.used p q b₀ b × Closed e n t₀ l₀ q t l p')
  pub rest : Rest n p p'

-- the same of their lengths, computed
unfoldable pub fits? : ℕ → ℕ → ℕ → ℕ → ℕ → ℕ → Bool
fits? n e b t l p =
    leb (2 * min n most_vertices) e && (leb (2 * min n most_vertices + 2) b
    && (leb (2 * min n most_vertices) t && (leb (2 * min n most_vertices) l && leb (4 * min n most_vertices) p)))
