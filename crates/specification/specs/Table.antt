-- The proof table (SPECIFICATION.md, 16): examples, limits, a listing and wrong readings, over the definitions that promises cite.
-- Assumes nothing.
use Rattle.std.specs.Prelude.{◌≡◌, Bool, true, false, ◌&&◌, List, [], ◌∷◌, ℕ, length}
use Rattle.specification.specs.Count.{some}
use Rattle.specification.specs.Graph.{edge?}
use Rattle.specification.specs.Checks.{Content, content, edges_of, connection_in, refusal_of, nothing, record_refusal, said}
use Rattle.specification.specs.Geometry.{Point, point}
use Rattle.specification.specs.Chart.{leads?, descendants_of, tail_of, head_of, row_of, row_count, transitive_edge?, reduced_edges}
use Rattle.specification.specs.Chart.{channels_of, plan_of, tracks_in, column_in, width_of, vertex_entry, edge_entry, bundle_entry}
use Rattle.specification.specs.Chart.{polyline_of}
use Rattle.specification.specs.Pass.{State, state, after, as_numbers}
use Rattle.specification.specs.Fixed.{rewritten, output, record_output}
use Rattle.specification.specs.declared.Connection.TheVariants.{Unreached, EdgeOnly, LongerOnly, Both}
use Rattle.specification.specs.declared.Kind.{Kind}
use Rattle.specification.specs.declared.Kind.TheVariants.{Path, PathTransitive, Straight, Bent}

-- ---- graphs

-- P1 to P4: 0→1, 0→2, 1→3, 2→3, 3→4, 0→3
unfoldable pub graph1 : Content
graph1 = content 5 (0 ∷ 0 ∷ 1 ∷ 2 ∷ 3 ∷ 0 ∷ []) (1 ∷ 2 ∷ 3 ∷ 3 ∷ 4 ∷ 3 ∷ []) false [] false []

-- P5: four vertices, an edge from each to every higher one
unfoldable pub graph5 : Content
graph5 = content 4 (0 ∷ 0 ∷ 0 ∷ 1 ∷ 1 ∷ 2 ∷ []) (1 ∷ 2 ∷ 3 ∷ 2 ∷ 3 ∷ 3 ∷ []) false [] false []

-- P6 and P7: 1→2, 3→4, 4→5, 0→5, with house lines
unfoldable pub housed : List ℕ → Content
housed lines = content 6 (1 ∷ 3 ∷ 4 ∷ 0 ∷ []) (2 ∷ 4 ∷ 5 ∷ 5 ∷ []) true lines false []

-- P6: 0; 1 2; 3 4 5
unfoldable pub graph6 : Content
graph6 = housed (1 ∷ 0 ∷ 2 ∷ 1 ∷ 2 ∷ 3 ∷ 3 ∷ 4 ∷ 5 ∷ [])

-- P7: 0; 1; 2; 3 4 5
unfoldable pub graph7 : Content
graph7 = housed (1 ∷ 0 ∷ 1 ∷ 1 ∷ 1 ∷ 2 ∷ 3 ∷ 3 ∷ 4 ∷ 5 ∷ [])

-- P8: one vertex, no edge
unfoldable pub graph8 : Content
graph8 = content 1 [] [] false [] false []

-- 0→1, 1→2, where 1 has a floor: 0, 5, 0
unfoldable pub lifted : Content
lifted = content 3 (0 ∷ 1 ∷ []) (1 ∷ 2 ∷ []) false [] true (0 ∷ 5 ∷ 0 ∷ [])

-- 0→1, 1→2, with house lines
unfoldable pub chain3 : List ℕ → Content
chain3 lines = content 3 (0 ∷ 1 ∷ []) (1 ∷ 2 ∷ []) true lines false []

-- with the house line 1
unfoldable pub graph11 : Content
graph11 = chain3 (1 ∷ 1 ∷ [])

-- P8's with a field of house lines that is empty
unfoldable pub graph12 : Content
graph12 = content 1 [] [] true [] false []

-- wrong reading 1: 0→2, 0→3, 1→2
unfoldable pub moving : Content
moving = content 4 (0 ∷ 0 ∷ 1 ∷ []) (2 ∷ 3 ∷ 2 ∷ []) false [] false []

-- wrong reading 2: 0→2, 1→2, 2→3, 2→4
unfoldable pub meeting : Content
meeting = content 5 (0 ∷ 1 ∷ 2 ∷ 2 ∷ []) (2 ∷ 2 ∷ 3 ∷ 4 ∷ []) false [] false []

-- wrong reading 3: 0→1, 1→2, 2→3, 3→4, with 0→2 and 2→4 beside them
unfoldable pub touching : Content
touching = content 5 (0 ∷ 1 ∷ 2 ∷ 3 ∷ 0 ∷ 2 ∷ []) (1 ∷ 2 ∷ 3 ∷ 4 ∷ 2 ∷ 4 ∷ []) false [] false []

-- wrong reading 4: 0→1, 1→2, 2→3, 0→3
unfoldable pub detour : Content
detour = content 4 (0 ∷ 1 ∷ 2 ∷ 0 ∷ []) (1 ∷ 2 ∷ 3 ∷ 3 ∷ []) false [] false []

-- wrong reading 5: 0→2, 0→1, 1→2
unfoldable pub early : Content
early = content 3 (0 ∷ 0 ∷ 1 ∷ []) (2 ∷ 1 ∷ 2 ∷ []) false [] false []

-- its first edge alone
unfoldable pub alone : Content
alone = content 3 (0 ∷ []) (2 ∷ []) false [] false []

-- the state after its first k edges, in a list of sixteen sevens, one more than its numbers
unfoldable pub early_after : ℕ → State ℕ
early_after = after as_numbers (edge_entry early (plan_of early)) (7 ∷ 7 ∷ 7 ∷ 7 ∷ 7 ∷ 7 ∷ 7 ∷ 7 ∷ 7 ∷ 7 ∷ 7 ∷ 7 ∷ 7 ∷ 7 ∷ 7 ∷ 7 ∷ [])

-- ---- records

-- P1's
unfoldable pub record1 : List ℕ
record1 = 1 ∷ 0 ∷ 1 ∷ 5 ∷ 2 ∷ 0 ∷ 12 ∷ 0 ∷ 1 ∷ 0 ∷ 2 ∷ 1 ∷ 3 ∷ 2 ∷ 3 ∷ 3 ∷ 4 ∷ 0 ∷ 3 ∷ []

unfoldable pub record5 : List ℕ
record5 = 1 ∷ 0 ∷ 1 ∷ 4 ∷ 2 ∷ 0 ∷ 12 ∷ 0 ∷ 1 ∷ 0 ∷ 2 ∷ 0 ∷ 3 ∷ 1 ∷ 2 ∷ 1 ∷ 3 ∷ 2 ∷ 3 ∷ []

unfoldable pub record6 : List ℕ
record6 = 1 ∷ 0 ∷ 1 ∷ 6 ∷ 2 ∷ 0 ∷ 8 ∷ 1 ∷ 2 ∷ 3 ∷ 4 ∷ 4 ∷ 5 ∷ 0 ∷ 5 ∷ 3 ∷ 0 ∷ 9 ∷ 1 ∷ 0 ∷ 2 ∷ 1 ∷ 2 ∷ 3 ∷ 3 ∷ 4 ∷ 5 ∷ []

unfoldable pub record7 : List ℕ
record7 = 1 ∷ 0 ∷ 1 ∷ 6 ∷ 2 ∷ 0 ∷ 8 ∷ 1 ∷ 2 ∷ 3 ∷ 4 ∷ 4 ∷ 5 ∷ 0 ∷ 5 ∷ 3 ∷ 0 ∷ 10 ∷ 1 ∷ 0 ∷ 1 ∷ 1 ∷ 1 ∷ 2 ∷ 3 ∷ 3 ∷ 4 ∷ 5 ∷ []

-- its tag 2 field has length 0
unfoldable pub record8 : List ℕ
record8 = 1 ∷ 0 ∷ 1 ∷ 1 ∷ 2 ∷ 0 ∷ 0 ∷ []

-- P9: one vertex, 0→0
unfoldable pub record9 : List ℕ
record9 = 1 ∷ 0 ∷ 1 ∷ 1 ∷ 2 ∷ 0 ∷ 2 ∷ 0 ∷ 0 ∷ []

-- P10: two vertices, 0→1 two times
unfoldable pub record10 : List ℕ
record10 = 1 ∷ 0 ∷ 1 ∷ 2 ∷ 2 ∷ 0 ∷ 4 ∷ 0 ∷ 1 ∷ 0 ∷ 1 ∷ []

-- the house line 1 of three vertices
unfoldable pub record11 : List ℕ
record11 = 1 ∷ 0 ∷ 1 ∷ 3 ∷ 2 ∷ 0 ∷ 4 ∷ 0 ∷ 1 ∷ 1 ∷ 2 ∷ 3 ∷ 0 ∷ 2 ∷ 1 ∷ 1 ∷ []

-- the same vertices and edges with another field of house lines
unfoldable pub chained : List ℕ → List ℕ
chained lines = 1 ∷ 0 ∷ 1 ∷ 3 ∷ 2 ∷ 0 ∷ 4 ∷ 0 ∷ 1 ∷ 1 ∷ 2 ∷ 3 ∷ 0 ∷ length lines ∷ lines

-- the same, and then floors
unfoldable pub raised : List ℕ → List ℕ
raised floors = 1 ∷ 0 ∷ 1 ∷ 3 ∷ 2 ∷ 0 ∷ 4 ∷ 0 ∷ 1 ∷ 1 ∷ 2 ∷ 4 ∷ 0 ∷ length floors ∷ floors

-- ---- what is looked up

-- the record is accepted, and says this graph
abbrev pub Says : List ℕ → Content → Type 0
Says b c = (record_refusal b ≡ 0) × (said b ≡ c)

-- the record is refused by this number, and says nothing
abbrev pub Refused : List ℕ → ℕ → Type 0
Refused b k = (record_refusal b ≡ k) × (said b ≡ nothing)

-- the record is accepted, and this is its fixed form
abbrev pub Becomes : List ℕ → List ℕ → Type 0
Becomes b s = (record_refusal b ≡ 0) × (rewritten (said b) ≡ s)

-- the entry of a vertex: channel, position, column, row, descendants, floor
abbrev pub Word : Content → ℕ → ℕ → ℕ → ℕ → ℕ → ℕ → ℕ → Type 0
Word c v channel position column row descendants floor =
    vertex_entry c (plan_of c) v
    ≡ record { channel = channel; position = position; column = column; row = row; descendants = descendants; floor = floor }

-- tail, head, kind and mark of an edge
abbrev pub Arrow : Content → ℕ → ℕ → ℕ → Kind → Bool → Type 0
Arrow c e u v kind transitive =
    (tail_of c e ≡ u) × (head_of c e ≡ v) × (edge_entry c (plan_of c) e ≡ record { number = e; kind = kind; transitive = transitive })

-- channel, rows and track of a bundle
abbrev pub Side : Content → ℕ → ℕ → ℕ → ℕ → ℕ → Type 0
Side c b channel first last track =
    bundle_entry (plan_of c) b ≡ record { channel = channel; first_row = first; last_row = last; track = track }

-- the polyline of an edge
abbrev pub drawn : Content → ℕ → List Point
drawn c e =
    polyline_of (vertex_entry c (plan_of c) (tail_of c e)) (vertex_entry c (plan_of c) (head_of c e)) (edge_entry c (plan_of c) e).kind
    (bundle_entry (plan_of c))

abbrev pub firm : Bool
firm = false

abbrev pub implied : Bool
implied = true

-- ---- the table

pub record Table : Type 0 where
  -- P1: 0 reaches the four others, and nothing else
  pub p1 : (leads? graph1 0 1 ≡ true) × (leads? graph1 0 2 ≡ true) × (leads? graph1 0 3 ≡ true) × (leads? graph1 0 4 ≡ true)
  pub p1_only : descendants_of graph1 0 ≡ 4
  -- by an edge only, by both, by longer routes only, and not at all: backwards, and of a vertex asked about itself
  pub p1_how : (connection_in graph1 0 1 ≡ EdgeOnly) × (connection_in graph1 0 3 ≡ Both) × (connection_in graph1 0 4 ≡ LongerOnly)
      × (connection_in graph1 4 0 ≡ Unreached) × (connection_in graph1 0 0 ≡ Unreached)
  pub p1_record : Says record1 graph1
  -- P2: the channels
  pub p2 : channels_of graph1 ≡ (0 ∷ 1 ∷ 4 ∷ []) ∷ (2 ∷ 3 ∷ []) ∷ []
  -- P3: the rows, of which four are used
  pub p3 : (row_of graph1 0 ≡ 0) × (row_of graph1 1 ≡ 1) × (row_of graph1 2 ≡ 1) × (row_of graph1 3 ≡ 2) × (row_of graph1 4 ≡ 3)
  pub p3_used : row_count graph1 ≡ 4
  -- P4: the last edge is transitive, and no other
  pub p4 : (transitive_edge? graph1 0 ≡ false) × (transitive_edge? graph1 1 ≡ false) × (transitive_edge? graph1 2 ≡ false)
      × (transitive_edge? graph1 3 ≡ false) × (transitive_edge? graph1 4 ≡ false) × (transitive_edge? graph1 5 ≡ true)
  pub p4_firm : reduced_edges graph1 ≡ 5
  -- P5: one channel, X = 3; the bundle into 3 over rows 0 .. 3 in track 0, the one into 2 over rows 0 .. 2 in track 1
  pub p5_record : Says record5 graph5
  pub p5_line : channels_of graph5 ≡ (0 ∷ 1 ∷ 2 ∷ 3 ∷ []) ∷ []
  pub p5_bundles : (plan_of graph5).bundles ≡ record { channel = 0; into = true; vertex = 3; first = 0; last = 3 }
      ∷ record { channel = 0; into = true; vertex = 2; first = 0; last = 2 } ∷ []
  pub p5_tracks : Side graph5 0 0 0 3 0 × Side graph5 1 0 0 2 1
  pub p5_own : (column_in (plan_of graph5) 0 ≡ 3) × (column_in (plan_of graph5) 1 ≡ 3) × (column_in (plan_of graph5) 2 ≡ 3)
      × (column_in (plan_of graph5) 3 ≡ 3)
  pub p5_counts : (tracks_in (plan_of graph5) 0 ≡ 2) × (width_of (plan_of graph5) ≡ 5)
  pub p5_arrows : Arrow graph5 0 0 1 Path firm × Arrow graph5 1 0 2 (PathTransitive 1) implied
      × Arrow graph5 2 0 3 (PathTransitive 0) implied × Arrow graph5 3 1 2 Path firm × Arrow graph5 4 1 3 (PathTransitive 0) implied
      × Arrow graph5 5 2 3 Path firm
  -- the tracks' columns, by 8.1: 1 for the bundle into 3, 0 for that into 2
  pub p5_drawn : (drawn graph5 2 ≡ point 3 0 ∷ point 1 0 ∷ point 1 3 ∷ point 3 3 ∷ [])
      × (drawn graph5 1 ≡ point 3 0 ∷ point 0 0 ∷ point 0 2 ∷ point 3 2 ∷ [])
  -- P6: the edge 0→5 has its bend in column 2, row 1
  pub p6_record : Says record6 graph6
  pub p6_lines : channels_of graph6 ≡ (0 ∷ []) ∷ (1 ∷ 2 ∷ []) ∷ (3 ∷ 4 ∷ 5 ∷ []) ∷ []
  pub p6 : Arrow graph6 3 0 5 (Bent (record { column = 2; row = 1 })) firm
  pub p6_drawn : drawn graph6 3 ≡ point 1 0 ∷ point 2 1 ∷ point 7 2 ∷ []
  -- P7: straight
  pub p7_record : Says record7 graph7
  pub p7_lines : channels_of graph7 ≡ (0 ∷ []) ∷ (1 ∷ []) ∷ (2 ∷ []) ∷ (3 ∷ 4 ∷ 5 ∷ []) ∷ []
  pub p7 : Arrow graph7 3 0 5 Straight firm
  pub p7_drawn : drawn graph7 3 ≡ point 1 0 ∷ point 10 2 ∷ []
  -- P8: X = 1, width 3
  pub p8_record : Says record8 graph8
  pub p8 : (column_in (plan_of graph8) 0 ≡ 1) × (width_of (plan_of graph8) ≡ 3)
  -- P9: a vertex that reaches itself, 5
  pub p9 : Refused record9 5
  -- P10: an edge two times, 4
  pub p10 : Refused record10 4
  -- of two checks that fail the first refuses: 3 before 4, by an edge and by a given channel; 4 before 5; 6 before 7, though the
  -- broken line stands before the one that repeats a vertex
  pub stranger_first : Refused (1 ∷ 0 ∷ 1 ∷ 2 ∷ 2 ∷ 0 ∷ 4 ∷ 0 ∷ 2 ∷ 0 ∷ 2 ∷ []) 3
  pub named_first : Refused (1 ∷ 0 ∷ 1 ∷ 2 ∷ 2 ∷ 0 ∷ 4 ∷ 0 ∷ 1 ∷ 0 ∷ 1 ∷ 3 ∷ 0 ∷ 4 ∷ 3 ∷ 0 ∷ 1 ∷ 2 ∷ []) 3
  pub double_first : Refused (1 ∷ 0 ∷ 1 ∷ 2 ∷ 2 ∷ 0 ∷ 6 ∷ 0 ∷ 1 ∷ 1 ∷ 0 ∷ 0 ∷ 1 ∷ []) 4
  pub repeated_first : Refused (1 ∷ 0 ∷ 1 ∷ 2 ∷ 2 ∷ 0 ∷ 0 ∷ 3 ∷ 0 ∷ 5 ∷ 2 ∷ 0 ∷ 1 ∷ 1 ∷ 0 ∷ []) 6
  -- a vertex that lacks is no fault; then a broken line is 7
  pub lacking_broken : Refused (1 ∷ 0 ∷ 1 ∷ 3 ∷ 2 ∷ 0 ∷ 0 ∷ 3 ∷ 0 ∷ 3 ∷ 2 ∷ 0 ∷ 1 ∷ []) 7
  -- the sample listing: its header, words and arrows
  pub header : (graph1.vertices ≡ 5) × (edges_of graph1 ≡ 6) × (row_count graph1 ≡ 4) × (length (channels_of graph1) ≡ 2)
      × (reduced_edges graph1 ≡ 5) × (length (plan_of graph1).bundles ≡ 0) × (width_of (plan_of graph1) ≡ 6)
  pub words : Word graph1 0 0 0 1 0 4 0 × Word graph1 1 0 1 1 1 2 0 × Word graph1 2 1 0 4 1 2 0 × Word graph1 3 1 1 4 2 1 0
      × Word graph1 4 0 2 1 3 0 0
  pub arrows : Arrow graph1 0 0 1 Path firm × Arrow graph1 1 0 2 Straight firm × Arrow graph1 2 1 3 Straight firm
      × Arrow graph1 3 2 3 Path firm × Arrow graph1 4 3 4 Straight firm × Arrow graph1 5 0 3 Straight implied
  -- the given line 1 comes first; 0 reaches 2 through it
  pub beside_record : Says record11 graph11
  pub beside_lines : channels_of graph11 ≡ (1 ∷ []) ∷ (0 ∷ 2 ∷ []) ∷ []
  -- 0 and 2, neighbours without an edge between them, are joined by longer routes only; given as a line they pass, as 0 and 1, which have
  -- the edge alone, do, and 2 before 0 is 7
  pub beside_how : connection_in graph11 0 2 ≡ LongerOnly
  pub longer_led : Says (chained (2 ∷ 0 ∷ 2 ∷ [])) (chain3 (2 ∷ 0 ∷ 2 ∷ []))
  pub edge_led : Says (chained (2 ∷ 0 ∷ 1 ∷ [])) (chain3 (2 ∷ 0 ∷ 1 ∷ []))
  pub unreached_unled : Refused (chained (2 ∷ 2 ∷ 0 ∷ [])) 7
  -- the floor 5 of vertex 1 lifts it, and 2 above it: seven rows; the entries carry the floors
  pub floor_record : Says (raised (0 ∷ 5 ∷ 0 ∷ [])) lifted
  pub floor_rows : (row_of lifted 0 ≡ 0) × (row_of lifted 1 ≡ 5) × (row_of lifted 2 ≡ 6) × (row_count lifted ≡ 7)
  pub floor_words : Word lifted 0 0 0 1 0 2 0 × Word lifted 1 0 1 1 5 1 5 × Word lifted 2 0 2 1 6 0 0
  -- a floor too few, a floor too many, none at all in the field, and one of 128 are 12; a floor of 127 passes
  pub floors_short : Refused (raised (0 ∷ 0 ∷ [])) 12
  pub floors_long : Refused (raised (0 ∷ 0 ∷ 0 ∷ 0 ∷ [])) 12
  pub floors_none : Refused (raised []) 12
  pub floor_over : Refused (raised (0 ∷ 128 ∷ 0 ∷ [])) 12
  pub floor_most : record_refusal (raised (0 ∷ 127 ∷ 0 ∷ [])) ≡ 0
  -- 2 before 12, and 12 before 3
  pub size_first : Refused (1 ∷ 0 ∷ 1 ∷ 0 ∷ 2 ∷ 0 ∷ 0 ∷ 4 ∷ 0 ∷ 1 ∷ 0 ∷ []) 2
  pub floor_first : Refused (1 ∷ 0 ∷ 1 ∷ 1 ∷ 2 ∷ 0 ∷ 2 ∷ 0 ∷ 1 ∷ 4 ∷ 0 ∷ 1 ∷ 128 ∷ []) 12
  -- floors after given channels, and not before them
  pub floors_last : Says (1 ∷ 0 ∷ 1 ∷ 1 ∷ 2 ∷ 0 ∷ 0 ∷ 3 ∷ 0 ∷ 2 ∷ 1 ∷ 0 ∷ 4 ∷ 0 ∷ 1 ∷ 3 ∷ [])
      (content 1 [] [] true (1 ∷ 0 ∷ []) true (3 ∷ []))
  pub floors_before : Refused (1 ∷ 0 ∷ 1 ∷ 1 ∷ 2 ∷ 0 ∷ 0 ∷ 4 ∷ 0 ∷ 1 ∷ 3 ∷ 3 ∷ 0 ∷ 2 ∷ 1 ∷ 0 ∷ []) 1
  -- limits (16.2): without tag 2 it is 1, with an empty tag 2 accepted (P8), with an empty tag 3 accepted too, and planned as without
  pub no_arrows_field : Refused (1 ∷ 0 ∷ 1 ∷ 1 ∷ []) 1
  pub empty_lines_field : Says (1 ∷ 0 ∷ 1 ∷ 1 ∷ 2 ∷ 0 ∷ 0 ∷ 3 ∷ 0 ∷ 0 ∷ []) graph12
  pub empty_lines_planned : plan_of graph12 ≡ plan_of graph8
  -- a vertex or an edge too many is 2
  pub more_words : (c : Content) → c.vertices ≡ 129 → refusal_of c ≡ 2
  pub more_arrows : (c : Content) → edges_of c ≡ 4097 → refusal_of c ≡ 2
  -- wrong readings (16.3): two channels, since 0 gives 2 up for 3
  pub moved : channels_of moving ≡ (0 ∷ 3 ∷ []) ∷ (1 ∷ 2 ∷ []) ∷ []
  -- two channels, since 1 reaches 4 over 2
  pub by_routes : channels_of meeting ≡ (0 ∷ 2 ∷ 3 ∷ []) ∷ (1 ∷ 4 ∷ []) ∷ []
  -- rows 0 .. 2 and 2 .. 4 share row 2: two tracks
  pub shared : Side touching 0 0 0 2 0 × Side touching 1 0 2 4 1 × (tracks_in (plan_of touching) 0 ≡ 2)
  -- edge 3 is transitive by a route of three edges; no route of two goes along it
  pub longer : (transitive_edge? detour 3 ≡ true) × (reduced_edges detour ≡ 3)
      × (some 4 (λ w. edge? detour.tails detour.heads 0 w && edge? detour.tails detour.heads w 3) ≡ false)
  -- edge 0 is marked in the state after it, by the two edges that follow; by the first edge alone it would count as reduced
  pub whole_graph : (early_after 1 ≡ state (0 ∷ 1 ∷ 0 ∷ 0 ∷ 1 ∷ 7 ∷ 7 ∷ 7 ∷ 7 ∷ 7 ∷ 7 ∷ 7 ∷ 7 ∷ 7 ∷ 7 ∷ 7 ∷ []) 0)
      × (transitive_edge? alone 0 ≡ false)
  pub one_more : early_after 2 ≡ state (0 ∷ 1 ∷ 0 ∷ 0 ∷ 1 ∷ 1 ∷ 0 ∷ 0 ∷ 0 ∷ 0 ∷ 7 ∷ 7 ∷ 7 ∷ 7 ∷ 7 ∷ 7 ∷ []) 1
  pub at_last : early_after 3 ≡ state (0 ∷ 1 ∷ 0 ∷ 0 ∷ 1 ∷ 1 ∷ 0 ∷ 0 ∷ 0 ∷ 0 ∷ 2 ∷ 0 ∷ 0 ∷ 0 ∷ 0 ∷ 7 ∷ []) 2
  -- the fixed form (1.6): 2→3, 0→3, 0→1 are put in order; given channels stay as they are, also where the second has the lower vertices; an
  -- empty field of them goes, and so do floors of 0; floors stay where one is above 0
  pub fixed_order : Becomes (1 ∷ 0 ∷ 1 ∷ 4 ∷ 2 ∷ 0 ∷ 6 ∷ 2 ∷ 3 ∷ 0 ∷ 3 ∷ 0 ∷ 1 ∷ [])
      (1 ∷ 0 ∷ 1 ∷ 4 ∷ 2 ∷ 0 ∷ 6 ∷ 0 ∷ 1 ∷ 0 ∷ 3 ∷ 2 ∷ 3 ∷ [])
  pub fixed_lines : Becomes (1 ∷ 0 ∷ 1 ∷ 4 ∷ 2 ∷ 0 ∷ 4 ∷ 2 ∷ 3 ∷ 0 ∷ 1 ∷ 3 ∷ 0 ∷ 5 ∷ 2 ∷ 2 ∷ 3 ∷ 1 ∷ 0 ∷ [])
      (1 ∷ 0 ∷ 1 ∷ 4 ∷ 2 ∷ 0 ∷ 4 ∷ 0 ∷ 1 ∷ 2 ∷ 3 ∷ 3 ∷ 0 ∷ 5 ∷ 2 ∷ 2 ∷ 3 ∷ 1 ∷ 0 ∷ [])
  pub fixed_empty_lines : Becomes (1 ∷ 0 ∷ 1 ∷ 2 ∷ 2 ∷ 0 ∷ 2 ∷ 0 ∷ 1 ∷ 3 ∷ 0 ∷ 0 ∷ []) (1 ∷ 0 ∷ 1 ∷ 2 ∷ 2 ∷ 0 ∷ 2 ∷ 0 ∷ 1 ∷ [])
  pub fixed_flat : Becomes (1 ∷ 0 ∷ 1 ∷ 2 ∷ 2 ∷ 0 ∷ 2 ∷ 0 ∷ 1 ∷ 4 ∷ 0 ∷ 2 ∷ 0 ∷ 0 ∷ []) (1 ∷ 0 ∷ 1 ∷ 2 ∷ 2 ∷ 0 ∷ 2 ∷ 0 ∷ 1 ∷ [])
  pub fixed_floors : Becomes (raised (0 ∷ 0 ∷ 7 ∷ [])) (raised (0 ∷ 0 ∷ 7 ∷ []))
  -- into a list of seven bytes, of six, and of a record that is refused (1.7)
  pub fixed_room : record_output 7 record8 ≡ output 0 record8
  pub fixed_short : record_output 6 record8 ≡ output 8 []
  pub fixed_ring : record_output 100 record9 ≡ output 5 []
