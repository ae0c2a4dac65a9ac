-- The rule's steps over what the private functions keep: a table of bytes for predecessors, masks for visited vertices. Assumes nothing.
use Rattle.std.specs.Prelude.{Bool, true, false, not, ◌&&◌, List, ℕ, zero, suc, eqb, get_or, set, replicate}
use Rattle.specification.specs.Count.{count, choose}
use Rattle.specification.specs.Sets.{member?, inserted}

-- what stands for no vertex
abbrev pub nobody : ℕ
nobody = 255

-- each vertex's predecessor or `nobody`; the vertices visited in this search, a set of masks; and whether the last search found a successor
pub record State : Type 0 where
  pub predecessor : List ℕ
  pub visited : List ℕ
  pub found : Bool

-- v was visited in this search
unfoldable pub seen : ℕ → State → Bool
seen v s = member? s.visited 0 v

-- h may try v: it leads to v, and v is not visited yet
unfoldable pub candidate : (ℕ → ℕ → Bool) → ℕ → ℕ → State → Bool
unfolding seen
candidate leads h v s = leads h v && not (seen v s)

unfoldable pub predecessor_of : ℕ → State → ℕ
predecessor_of v s = get_or s.predecessor v 0

-- v is visited
unfoldable pub marked : ℕ → State → State
marked v s = record { predecessor = s.predecessor; visited = inserted s.visited 0 v; found = s.found }

-- h is now v's predecessor
unfoldable pub taken : ℕ → ℕ → State → State
taken h v s = record { predecessor = set s.predecessor v h; visited = s.visited; found = true }

-- no successor was found
unfoldable pub missed : State → State
missed s = record { predecessor = s.predecessor; visited = s.visited; found = false }

-- v's predecessor has searched, which gave r: v is h's if that found another successor, else h goes on
abbrev pub settle : ℕ → ℕ → State → (State → State) → State
settle h v r next = choose r.found (λ _. taken h v r) (λ _. next r)

-- h tries v: without a predecessor it is h's, else its predecessor searches, by `again`; `next` goes on where that fails
abbrev pub try : (ℕ → State → State) → ℕ → ℕ → State → (State → State) → State
try again h v s next =
    choose (eqb (predecessor_of v s) nobody) (λ _. taken h v (marked v s)) (λ _. settle h v (again (predecessor_of v s) (marked v s)) next)

-- a search begins with no vertex visited
abbrev pub fresh : List ℕ → State
fresh predecessor = record { predecessor = predecessor; visited = replicate 2 0; found = false }

module _ (leads : ℕ → ℕ → Bool) (n : ℕ) where
  -- h tries the j vertices from v on, those that it may, in ascending number
  unfoldable pub scan : (ℕ → State → State) → ℕ → ℕ → ℕ → State → State
  scan again h zero v s = missed s
  scan again h (suc j) v s =
      choose (candidate leads h v s) (λ _. try again h v s (scan again h j (suc v))) (λ _. scan again h j (suc v) s)

  -- h searches for a successor, at most k vertices deep
  unfoldable pub augment : ℕ → ℕ → State → State
  augment zero h s = missed s
  augment (suc k) h s = scan (augment k) h n 0 s

  -- each of the j vertices from h on asks once
  unfoldable pub asks : ℕ → ℕ → List ℕ → List ℕ
  asks zero h predecessor = predecessor
  asks (suc j) h predecessor = asks j (suc h) (augment (suc n) h (fresh predecessor)).predecessor

  -- each vertex's predecessor after every vertex, from 0 up, has asked
  unfoldable pub matching : List ℕ
  matching = asks n 0 (replicate 128 nobody)

-- how many of the first n vertices are not visited
unfoldable pub unvisited : ℕ → State → ℕ
unvisited n s = count n (λ v. not (seen v s))
