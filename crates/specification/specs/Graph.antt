-- Edges (arrows) between vertices (words), which vertex reaches which (descent), and sizes (SPECIFICATION.md, 1 and 2). Assumes nothing.
use Rattle.std.specs.Prelude.{◌≡◌, Bool, false, ◌||◌, ◌&&◌, true, List, [], ◌∷◌, ℕ, zero, suc, ◌<◌, min, eqb, leb, ltb, length, get_or}
use Rattle.std.specs.Prelude.{drop}
use Rattle.specification.specs.Count.{some, choose}
use Rattle.specification.specs.Limits.{most_vertices, most_edges}

-- u reaches v, or leads to it, by one or more edges of E, of which the head of each is the tail of the next (2.1)
pub data Reaches (E : ℕ → ℕ → Type 0) : ℕ → ℕ → Type 0 where
  one : {u v : ℕ} → E u v → Reaches E u v
  more : {u v w : ℕ} → E u v → Reaches E v w → Reaches E u w

-- u reaches v by two or more edges
abbrev pub Longer : (ℕ → ℕ → Type 0) → ℕ → ℕ → Type 0
Longer E u v = (w : ℕ) × E u w × Reaches E w v

-- the edges are as many as both lists have
abbrev pub edge_count : List ℕ → List ℕ → ℕ
edge_count tails heads = min (length tails) (length heads)

-- edge i goes from the ith of `tails` to the ith of `heads`
unfoldable pub Edge : List ℕ → List ℕ → ℕ → ℕ → Type 0
Edge tails heads u v = (i : ℕ) × (i < edge_count tails heads) × (get_or tails i 0 ≡ u) × (get_or heads i 0 ≡ v)

-- ---- the same, computed

-- whether there is an edge from u to v
unfoldable pub edge? : List ℕ → List ℕ → ℕ → ℕ → Bool
edge? [] heads u v = false
edge? (t ∷ tails) [] u v = false
edge? (t ∷ tails) (h ∷ heads) u v = (eqb t u && eqb h v) || edge? tails heads u v

-- whether u reaches v by way of vertices below k alone
unfoldable pub reaches? : (ℕ → ℕ → Bool) → ℕ → ℕ → ℕ → Bool
reaches? E zero u v = E u v
reaches? E (suc k) u v = reaches? E k u v || (reaches? E k u k && reaches? E k k v)

-- every second element, from the first on
unfoldable pub alternate : List ℕ → List ℕ
alternate [] = []
alternate (x ∷ []) = x ∷ []
alternate (x ∷ y ∷ s) = x ∷ alternate s

-- the tails and the heads; edges' numbers follow the order
unfoldable pub tails_of : List ℕ → List ℕ
tails_of s = alternate s

unfoldable pub heads_of : List ℕ → List ℕ
heads_of s = alternate (drop 1 s)

-- edges j and i have the same ends
unfoldable pub alike? : List ℕ → List ℕ → ℕ → ℕ → Bool
alike? tails heads i j = eqb (get_or tails j 0) (get_or tails i 0) && eqb (get_or heads j 0) (get_or heads i 0)

-- of m edges one stands twice: an edge before it has the same ends
unfoldable pub duplicate? : ℕ → List ℕ → List ℕ → Bool
duplicate? m tails heads = some m (λ i. some i (alike? tails heads i))

-- no vertex, or too many
unfoldable pub unsized? : ℕ → Bool
unsized? n = eqb n 0 || ltb most_vertices n

-- .. or too many edges
unfoldable pub outsized? : ℕ → ℕ → Bool
outsized? n m = unsized? n || ltb most_edges m

-- why a number of vertices alone is refused ('size'), or 0
unfoldable pub size_refusal : ℕ → ℕ
size_refusal n = choose (unsized? n) (λ _. 2) (λ _. 0)

-- an end of edge i is no vertex
unfoldable pub strange? : ℕ → List ℕ → List ℕ → ℕ → Bool
strange? n tails heads i = leb n (get_or tails i 0) || leb n (get_or heads i 0)

-- the number of the first check that fails, or 0
unfoldable pub verdict : Bool → Bool → ℕ
verdict true strange = 2
verdict false true = 3
verdict false false = 0

unfoldable pub refusal : ℕ → List ℕ → List ℕ → ℕ
refusal n tails heads = verdict (outsized? n (edge_count tails heads)) (some (edge_count tails heads) (strange? n tails heads))

-- u reaches v in a graph that is not refused; in one that is, nothing reaches anything
abbrev pub Reachable : ℕ → List ℕ → List ℕ → ℕ → ℕ → Type 0
Reachable n tails heads u v = (refusal n tails heads ≡ 0) × Reaches (Edge tails heads) u v

-- there is an edge from u to v in a graph that is not refused
abbrev pub Adjacent : ℕ → List ℕ → List ℕ → ℕ → ℕ → Type 0
Adjacent n tails heads u v = (refusal n tails heads ≡ 0) × Edge tails heads u v

-- reachability, computed
unfoldable pub reachable? : ℕ → List ℕ → List ℕ → ℕ → ℕ → Bool
reachable? n tails heads u v = eqb (refusal n tails heads) 0 && reaches? (edge? tails heads) n u v
