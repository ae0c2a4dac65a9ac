-- Bundles of path-transitive edges (side arrows; SPECIFICATION.md, 6). Assumes nothing.
use Rattle.std.specs.Prelude.{Bool, not, ◌&&◌, ◌||◌, true, false, List, [], ◌∷◌, ◌++◌, ℕ, ◌+◌, ◌*◌, zero, suc, min, max, eqb, ltb}
use Rattle.specification.specs.Graph.{edge?}
use Rattle.specification.specs.Count.{choose, count}
use Rattle.specification.specs.Limits.{highest_row}

-- vertices are next to each other in their channel: an edge between them is a path edge (a spine arrow)
unfoldable pub adjacent? : ℕ → ℕ → Bool
adjacent? p q = eqb (p + 1) q || eqb (q + 1) p

-- two of n vertices, of one channel and not next to each other in it
unfoldable pub apart? : ℕ → (ℕ → ℕ) → (ℕ → ℕ) → ℕ → ℕ → Bool
apart? n channel position u v = (ltb u n && ltb v n) && (eqb (channel u) (channel v) && not (adjacent? (position u) (position v)))

-- an edge, by `edge`, between such vertices: path-transitive (6.1)
abbrev pub side_by : ℕ → (ℕ → ℕ → Bool) → (ℕ → ℕ) → (ℕ → ℕ) → ℕ → ℕ → Bool
side_by n edge channel position u v = edge u v && apart? n channel position u v

-- of the edges of two lists
unfoldable pub side? : ℕ → List ℕ → List ℕ → (ℕ → ℕ) → (ℕ → ℕ) → ℕ → ℕ → Bool
side? n tails heads channel position u v = side_by n (edge? tails heads) channel position u v

-- a bundle: its channel, the edges that it has, namely all that still waited into a vertex, or out of it, and the rows from its lowest
-- vertex to its highest, both included
pub record Bundle : Type 0 where
  pub channel : ℕ
  pub into : Bool
  pub vertex : ℕ
  pub first : ℕ
  pub last : ℕ

-- both directions the same
unfoldable pub alike : Bool → Bool → Bool
alike true b = b
alike false true = false
alike false false = true

-- the bundle is of the edges into v, or out of v
unfoldable pub gathers : Bundle → Bool → ℕ → Bool
gathers b into v = alike b.into into && eqb b.vertex v

-- the edge u → v goes into the bundle's vertex, or out of it
unfoldable pub takes : Bundle → ℕ → ℕ → Bool
takes b u v = gathers b true v || gathers b false u

-- one of the bundles takes the edge u → v
unfoldable pub taken : List Bundle → ℕ → ℕ → Bool
taken [] u v = false
taken (b ∷ bs) u v = takes b u v || taken bs u v

-- the number of the first bundle that takes the edge u → v: the edge is in that one
unfoldable pub bundle_of : List Bundle → ℕ → ℕ → ℕ
bundle_of [] u v = 0
bundle_of (b ∷ bs) u v = choose (takes b u v) (λ _. 0) (λ _. suc (bundle_of bs u v))

-- e and the values of f among the first n that pass the test, put together by `join`
unfoldable pub joined : (ℕ → ℕ → ℕ) → ℕ → ℕ → (ℕ → Bool) → (ℕ → ℕ) → ℕ
joined join e zero test f = e
joined join e (suc n) test f = join (joined join e n test f) (choose (test n) (λ _. f n) (λ _. e))

-- the least of these values, and the highest
abbrev pub lowest : ℕ → (ℕ → Bool) → (ℕ → ℕ) → ℕ
lowest n test f = joined min highest_row n test f

abbrev pub highest : ℕ → (ℕ → Bool) → (ℕ → ℕ) → ℕ
highest n test f = joined max 0 n test f

-- the edge into v, or out of v, with w at its other end
abbrev pub along : Bool → (ℕ → ℕ → Bool) → ℕ → ℕ → Bool
along into edge v w = choose into (λ _. edge w v) (λ _. edge v w)

-- a path-transitive edge, by `side`, that is in no bundle yet
unfoldable pub waits : (ℕ → ℕ → Bool) → List Bundle → ℕ → ℕ → Bool
waits side bs u v = side u v && not (taken bs u v)

-- such an edge into v, or out of v, with w at its other end
unfoldable pub waits_at : (ℕ → ℕ → Bool) → List Bundle → Bool → ℕ → ℕ → Bool
waits_at side bs into v w = along into (waits side bs) v w

-- v has more than w, or as many and a lower position
unfoldable pub before : (ℕ → ℕ) → (ℕ → ℕ) → ℕ → ℕ → Bool
before position f v w = ltb (f w) (f v) || (eqb (f w) (f v) && ltb (position v) (position w))

abbrev pub better : (ℕ → ℕ) → (ℕ → ℕ) → ℕ → ℕ → ℕ
better position f v w = choose (before position f w v) (λ _. w) (λ _. v)

-- of the first j vertices, the one that goes before all others
unfoldable pub best : (ℕ → ℕ) → ℕ → (ℕ → ℕ) → ℕ
best position zero f = 0
best position (suc j) f = better position f (best position j f) j

-- n vertices; `side u v` says that u → v is a path-transitive edge
module _ (n : ℕ) (side : ℕ → ℕ → Bool) (channel position row : ℕ → ℕ) where
  -- how many edges wait into v, or out of v, as a vertex of channel c
  unfoldable pub load : ℕ → List Bundle → Bool → ℕ → ℕ
  load c bs into v = choose (eqb (channel v) c) (λ _. count n (waits_at side bs into v)) (λ _. 0)

  -- these edges as a bundle of channel c: its vertices are v and their other ends
  unfoldable pub made : ℕ → List Bundle → Bool → ℕ → Bundle
  made c bs into v = record {
    channel = c;
    into = into;
    vertex = v;
    first = lowest n (λ w. eqb w v || waits_at side bs into v w) row;
    last = highest n (λ w. eqb w v || waits_at side bs into v w) row;
  }

  -- v is the best 'into', w the best 'out of': 'into' goes first where both have as many; no edge waits where neither has one
  abbrev pub grow : ℕ → List Bundle → ℕ → ℕ → (List Bundle → List Bundle) → List Bundle
  grow c bs v w again =
      choose (ltb (load c bs true v) (load c bs false w))
      (λ _. again (bs ++ (made c bs false w ∷ [])))
      (λ _. choose (eqb (load c bs true v) 0) (λ _. bs) (λ _. again (bs ++ (made c bs true v ∷ []))))

  -- with at most k bundles more of channel c
  unfoldable pub rounds : ℕ → ℕ → List Bundle → List Bundle
  rounds zero c bs = bs
  rounds (suc k) c bs = grow c bs (best position n (load c bs true)) (best position n (load c bs false)) (rounds k c)

  -- the bundles of the first j channels; each vertex gives at most two
  unfoldable pub bundles : ℕ → List Bundle
  bundles zero = []
  bundles (suc c) = rounds (2 * n) c (bundles c)

-- the values past the last bundle
abbrev pub empty : Bundle
empty = record { channel = 0; into = false; vertex = 0; first = 0; last = 0 }

-- the bundles by the rule, for the vertices' channels, positions and rows
unfoldable pub bundles_of : ℕ → List ℕ → List ℕ → ℕ → (ℕ → ℕ) → (ℕ → ℕ) → (ℕ → ℕ) → List Bundle
bundles_of n tails heads channels channel position row =
    bundles n (side? n tails heads channel position) channel position row channels
