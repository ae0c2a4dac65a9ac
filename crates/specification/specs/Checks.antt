-- The checks of a graph and of a record in their order, and what is sound (SPECIFICATION.md, 1 and 13). Assumes nothing.
use Rattle.std.specs.Prelude.{Bool, ◌&&◌, ◌||◌, not, false, true, List, [], ◌∷◌, ℕ, ◌*◌, ◌<◌, suc, ◌≤◌, ◌≡◌, eqb, ltb, length, take, drop}
use Rattle.std.specs.Prelude.{get_or}
use Rattle.specification.specs.Count.{choose, some}
use Rattle.specification.specs.Graph.{edge_count, outsized?, strange?, duplicate?, edge?, reachable?, tails_of, heads_of, Reaches, Edge}
use Rattle.specification.specs.Connection.{connects}
use Rattle.specification.specs.declared.Connection.{Connection}
use Rattle.specification.specs.Channels.{lines_of, vertices_of, given_lines, unknown?, repeats?, broken?, times}
use Rattle.specification.specs.Layout.{Fields}
use Rattle.specification.specs.Layout.{Layout}
use Rattle.specification.specs.Layout.{Good, Bad}
use Rattle.specification.specs.Layout.{layout_of, layout_answer}
use Rattle.specification.specs.Limits.{most_vertices, most_edges, most_floor}

-- what is checked: vertices, edges, the bytes of the given channels, if any are given, and the floors, if there are any
pub record Content : Type 0 where
  pub vertices : ℕ
  pub tails : List ℕ
  pub heads : List ℕ
  pub given : Bool
  pub field : List ℕ
  pub floored : Bool
  pub floors : List ℕ

abbrev pub content : ℕ → List ℕ → List ℕ → Bool → List ℕ → Bool → List ℕ → Content
content n tails heads given field floored floors = record {
  vertices = n;
  tails = tails;
  heads = heads;
  given = given;
  field = field;
  floored = floored;
  floors = floors;
}

abbrev pub edges_of : Content → ℕ
edges_of c = edge_count c.tails c.heads

-- how u reaches v by the edges (2.4)
unfoldable pub connection_in : Content → ℕ → ℕ → Connection
connection_in c = connects (edge? c.tails c.heads) c.vertices

-- 2 'size': no vertex, or too many vertices or edges
unfoldable pub size? : Content → Bool
size? c = outsized? c.vertices (edges_of c)

-- 12 'floor': the floors are not one a vertex, or one of them is over the highest
unfoldable pub unfloored? : ℕ → Bool → List ℕ → Bool
unfloored? n floored floors =
    floored && (not (eqb (length floors) n) || some (length floors) (λ v. ltb most_floor (get_or floors v 0)))

unfoldable pub floor? : Content → Bool
floor? c = unfloored? c.vertices c.floored c.floors

-- the floor of a vertex: 0 where there are none
abbrev pub floor_at : Bool → List ℕ → ℕ → ℕ
floor_at floored floors v = choose floored (λ _. get_or floors v 0) (λ _. 0)

-- 3 'stranger': an edge or a given channel names a vertex of n or more
unfoldable pub stranger? : Content → Bool
stranger? c =
    some (edges_of c) (strange? c.vertices c.tails c.heads) || (c.given && unknown? c.vertices (vertices_of c.field))

-- 4 'double': an edge stands twice
unfoldable pub double? : Content → Bool
double? c = duplicate? (edges_of c) c.tails c.heads

-- 5 'ring': a vertex reaches itself
unfoldable pub ring? : Content → Bool
ring? c = some most_vertices (λ u. reachable? c.vertices c.tails c.heads u u)

-- 6 'cover': a vertex stands in the given channels twice, in one of them or in two
unfoldable pub repeated? : Content → Bool
repeated? c = c.given && repeats? (vertices_of c.field)

-- 7 'broken': a vertex of a given channel is not reached from the one before, which answers 'not at all'
unfoldable pub unled? : Content → Bool
unled? c = c.given && broken? (connection_in c) (lines_of c.field)

pub record Check : Type 0 where
  pub number : ℕ
  pub fails : Content → Bool

abbrev pub check : ℕ → (Content → Bool) → Check
check k f = record { number = k; fails = f }

-- those of vertices and edges alone, and then the others
unfoldable pub loose_checks : List Check
loose_checks = check 2 size? ∷ check 12 floor? ∷ check 3 stranger? ∷ check 4 double? ∷ []

unfoldable pub later_checks : List Check
later_checks = check 5 ring? ∷ check 6 repeated? ∷ check 7 unled? ∷ []

-- the number of the first check that fails, else what follows
unfoldable pub first_of : List Check → Content → ℕ → ℕ
first_of [] c rest = rest
first_of (k ∷ ks) c rest = choose (k.fails c) (λ _. k.number) (λ _. first_of ks c rest)

unfoldable pub refusal_of : Content → ℕ
refusal_of c = first_of loose_checks c (first_of later_checks c 0)

-- the vertices, edges, given channels and floors of a record whose fields stand as they must
unfoldable pub content_of : List ℕ → Fields → Content
content_of b f =
    content f.vertices (tails_of (take (2 * f.count) (drop f.edges b))) (heads_of (take (2 * f.count) (drop f.edges b))) f.given
    (take f.size (drop f.lines b)) f.floored (take f.extent (drop f.floors b))

abbrev pub nothing : Content
nothing = content 0 [] [] false [] false []

-- the number that a record gets by some of the checks: 1 'layout' before everything, then the first of them that its content fails
abbrev pub refusal_in : (Content → ℕ) → List ℕ → Layout → ℕ
refusal_in refuse b Bad = (layout_answer Bad).number
refusal_in refuse b (Good f) = refuse (content_of b f)

unfoldable pub record_refusal : List ℕ → ℕ
record_refusal b = refusal_in refusal_of b (layout_of b)

abbrev pub content_in : List ℕ → Layout → Content
content_in b Bad = nothing
content_in b (Good f) = content_of b f

-- what a record says where it is accepted; a refused one says nothing
unfoldable pub said : List ℕ → Content
said b = choose (eqb (record_refusal b) 0) (λ _. content_in b (layout_of b)) (λ _. nothing)

-- u reaches v by one or more edges of the content
abbrev pub Leads : Content → ℕ → ℕ → Type 0
Leads c = Reaches (Edge c.tails c.heads)

-- the given channels (the editor's house lines)
abbrev pub given_of : Content → List (List ℕ)
given_of c = given_lines c.given c.field

-- given channel k, as a list of vertices
abbrev pub given_line : Content → ℕ → List ℕ
given_line c k = get_or (lines_of c.field) k []

-- ---- what the checks ask of a graph, one by one

-- not 2: a vertex, and no more vertices and edges than the most
abbrev pub Sized : Content → Type 0
Sized c = (0 < c.vertices) × (c.vertices ≤ most_vertices) × (edges_of c ≤ most_edges)

-- not 12: a floor a vertex, and none over the highest
abbrev pub Floored : Content → Type 0
Floored c = c.floored ≡ true → (length c.floors ≡ c.vertices) × ((v : ℕ) → get_or c.floors v 0 ≤ most_floor)

-- not 3: edges and given channels name vertices alone
abbrev pub EndsKnown : Content → Type 0
EndsKnown c = (i : ℕ) → i < edges_of c → (get_or c.tails i 0 < c.vertices) × (get_or c.heads i 0 < c.vertices)

abbrev pub GivenKnown : Content → Type 0
GivenKnown c = c.given ≡ true → (v : ℕ) → c.vertices ≤ v → times v (vertices_of c.field) ≡ 0

-- not 4: two edge numbers with the same ends are one number
abbrev pub Distinct : Content → Type 0
Distinct c =
    (i j : ℕ) → i < edges_of c → j < edges_of c
    → get_or c.tails i 0 ≡ get_or c.tails j 0 → get_or c.heads i 0 ≡ get_or c.heads j 0 → i ≡ j

-- not 5: no vertex reaches itself
abbrev pub Acyclic : Content → Type 0
Acyclic c = (u : ℕ) → Leads c u u → ⊥

-- not 6: no vertex stands in the given channels twice; it may stand in none
abbrev pub Once : Content → Type 0
Once c = c.given ≡ true → (v : ℕ) → times v (vertices_of c.field) ≤ 1

-- not 7: each vertex of a given channel is reached from the one before
abbrev pub Led : Content → Type 0
Led c =
    c.given ≡ true → (k j : ℕ) → suc j < length (given_line c k)
    → Leads c (get_or (given_line c k) j 0) (get_or (given_line c k) (suc j) 0)

pub record Sound (c : Content) : Type 0 where
  pub size : Sized c
  pub floors : Floored c
  pub ends : EndsKnown c
  pub named : GivenKnown c
  pub distinct : Distinct c
  pub acyclic : Acyclic c
  pub once : Once c
  pub led : Led c

-- a record is sound: its fields stand as they must, and what they say is sound
abbrev pub SoundRecord : List ℕ → Type 0
SoundRecord b = (f : Fields) × (layout_of b ≡ Good f) × Sound (content_of b f)
