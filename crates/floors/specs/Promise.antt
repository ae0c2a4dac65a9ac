-- What the rows by floors promise. Assumes nothing.
use Rattle.std.specs.Prelude.{◌≡◌, ◌≢◌, ◌↔◌, Bool, true, List, ℕ, ◌+◌, ◌*◌, ◌≤◌, ◌<◌, min, eqb, length, get_or}
use Rattle.specification.specs.Limits.{most_vertices, most_floor}
use Rattle.specification.specs.Count.{choose}
use Rattle.specification.specs.Sets.{at}
use Rattle.specification.specs.Graph.{edge?, tails_of, heads_of}
use Rattle.specification.specs.Rows.{row, rows_used}
use Rattle.specification.specs.Checks.{unfloored?, floor_at}
use Rattle.specification.specs.Lent.{Untouched, KeptFrom}
use Rattle.counting.specs.Quads.{quad}
use Rattle.reach.specs.Closure.{Closure, Composed}
use Rattle.descent.specs.Promise.{Descent, edges_refusal, no_descent, Sized, Descended, Left}

-- why a graph is refused before its channels are looked at: 2 'size', 12 'floor', 3 'stranger' to 5 'ring' (SPECIFICATION.md, 13), the
-- first that applies, or 0; by the refusal of its edges
abbrev pub after_size : ℕ → Bool → ℕ
after_size k unfloored = choose (eqb k 2) (λ _. 2) (λ _. choose unfloored (λ _. 12) (λ _. k))

unfoldable pub raised_refusal : ℕ → List ℕ → List ℕ → Bool → List ℕ → ℕ
raised_refusal n tails heads floored floors = after_size (edges_refusal n tails heads) (unfloored? n floored floors)

-- how many masks the sets by row have, where n vertices have floors
abbrev pub spread : ℕ → ℕ
spread n = 2 * (min n most_vertices + most_floor) + 2

-- the work lists have room, also for as many sets by row as there may be
pub record Roomy (n : ℕ) (floored : Bool) (e b t l p : List ℕ) : Type 0 where
  pub masks : Sized n e b t l p
  pub rows : floored ≡ true → spread n ≤ length b

-- what is made of a graph without cycles: as `Descended` says, with rows by floors
pub record Raised (n : ℕ) (tails heads : List ℕ) (floor : ℕ → ℕ) (used : ℕ) (e b t l p : List ℕ) : Type 0 where
  pub closure : Closure n tails heads (record { edges = e; table = t; counts = quad 3 p })
  pub longer : Composed 2 t l
  pub past : (i : ℕ) → 2 * n ≤ i → (get_or e i 0 ≡ 0) × (get_or t i 0 ≡ 0) × (get_or l i 0 ≡ 0)
  pub rows : (v : ℕ) → v < n → quad 2 p v ≡ row (edge? tails heads) floor n v
  pub counted : used ≡ rows_used (edge? tails heads) floor n
  pub below : (k v : ℕ) → k ≤ used → v < most_vertices → at 2 b k v ≡ 1 ↔ ((v < n) × (row (edge? tails heads) floor n v < k))

-- what the levels alone leave: floors that are refused lift nothing
pub record Flat (n : ℕ) (ends b e' b' t' l' p' : List ℕ) : Type 0 where
  pub levels : ℕ
  pub descended : Descended n (tails_of ends) (heads_of ends) (record { refusal = 0; used = levels }) e' b' t' l' p'
  pub past : KeptFrom (2 * levels + 2) b b'

-- from the bytes of the edges and the floors to the tables; e', b', t', l' and p' are the work lists after it. Where a list has too little
-- room the answer is 8, and nothing changed. Past the sets of the rows used b stays. What a refusal leaves goes by the edges alone
pub record Raises (n : ℕ) (ends : List ℕ) (floored : Bool) (floors e b t l p : List ℕ) (r : Descent) (e' b' t' l' p' : List ℕ) : Type 0
  where
    pub answer : Roomy n floored e b t l p → r.refusal ≡ raised_refusal n (tails_of ends) (heads_of ends) floored floors
    pub short : (Roomy n floored e b t l p → ⊥)
        → (r.refusal ≡ 8) × Untouched e e' × Untouched b b' × Untouched t t' × Untouched l l' × Untouched p p'
    pub none : r.refusal ≢ 0 → r ≡ no_descent r.refusal
    pub made : r.refusal ≡ 0 → Raised n (tails_of ends) (heads_of ends) (floor_at floored floors) r.used e' b' t' l' p'
    pub sets_past : r.refusal ≡ 0 → KeptFrom (2 * r.used + 2) b b'
    pub left : Roomy n floored e b t l p → edges_refusal n (tails_of ends) (heads_of ends) ≢ 0
        → Left (edges_refusal n (tails_of ends) (heads_of ends)) n ends e b t l p e' b' t' l' p'
    pub flat : Roomy n floored e b t l p → edges_refusal n (tails_of ends) (heads_of ends) ≡ 0 → r.refusal ≢ 0
        → Flat n ends b e' b' t' l' p'
    pub kept : (k v : ℕ) → k < 2 → quad k p' v ≡ quad k p v
    pub past : (k v : ℕ) → k < 4 → n ≤ v → quad k p' v ≡ quad k p v
    pub long : (length e' ≡ length e) × (length b' ≡ length b) × (length t' ≡ length t) × (length l' ≡ length l) × (length p' ≡ length p)
