-- What a call draws into lists of given lengths (SPECIFICATION.md, 9 and 13). Assumes nothing.
use Rattle.std.specs.Prelude.{◌≡◌, Bool, ◌||◌, List, [], ◌∷◌, ℕ, ◌<◌, eqb, ltb, length, get_or}
use Rattle.specification.specs.Limits.{most_vertices, most_channels}
use Rattle.specification.specs.Count.{choose}
use Rattle.specification.specs.Graph.{tails_of, heads_of}
use Rattle.specification.specs.Layout.{layout_of}
use Rattle.specification.specs.Checks.{Content, content, edges_of, Check, check, loose_checks, later_checks, first_of, nothing, refusal_in}
use Rattle.specification.specs.Checks.{content_in}
use Rattle.specification.specs.Chart.{Plan, channels_of, plan_of, row_count, reduced_edges, width_of, tracks_in}
use Rattle.specification.specs.declared.ChartCounts.{ChartCounts}

-- ---- 11 'broad'

-- there are more channels than a chart may have
unfoldable pub broad? : Content → Bool
broad? c = ltb most_channels (length (channels_of c))

-- what is asked of a graph that is to be drawn, after what is asked of every graph
unfoldable pub chart_checks : List Check
chart_checks = check 11 broad? ∷ []

unfoldable pub chart_refusal : Content → ℕ
chart_refusal c = first_of loose_checks c (first_of later_checks c (first_of chart_checks c 0))

-- ---- what is drawn, of a record or of a graph

pub record Drawn : Type 0 where
  pub refusal : ℕ
  pub graph : Content

-- the number of the first check that fails, and the graph if none does
unfoldable pub judged : ℕ → Content → Drawn
judged k c = record { refusal = k; graph = choose (eqb k 0) (λ _. c) (λ _. nothing) }

unfoldable pub record_drawn : List ℕ → Drawn
record_drawn b = judged (refusal_in chart_refusal b (layout_of b)) (content_in b (layout_of b))

-- a neutral graph: so many vertices, the bytes of its edges' ends, two an edge, the bytes of its given channels, if any are given, and its
-- floors, if there are any
unfoldable pub graph_content : ℕ → List ℕ → Bool → List ℕ → Bool → List ℕ → Content
graph_content n ends given field floored floors = content n (tails_of ends) (heads_of ends) given field floored floors

unfoldable pub graph_drawn : ℕ → List ℕ → Bool → List ℕ → Bool → List ℕ → Drawn
graph_drawn n ends given field floored floors =
    judged (chart_refusal (graph_content n ends given field floored floors)) (graph_content n ends given field floored floors)

-- ---- 8 'short'

-- a list of v, e or b entries has fewer than there are vertices, edges or bundles
unfoldable pub short? : ℕ → ℕ → ℕ → Drawn → Bool
short? v e b d = ltb v d.graph.vertices || (ltb e (edges_of d.graph) || ltb b (length (plan_of d.graph).bundles))

abbrev pub refused_by : ℕ → Drawn
refused_by k = record { refusal = k; graph = nothing }

-- what is drawn into lists of these lengths; what is refused already has no entry, and so is never short
unfoldable pub lent : ℕ → ℕ → ℕ → Drawn → Drawn
lent v e b d = choose (short? v e b d) (λ _. refused_by 8) (λ _. d)

-- ---- the counts

-- r has every count of the chart of c by the plan p
pub record Summary (c : Content) (p : Plan) (r : ChartCounts) : Type 0 where
  pub words : r.words ≡ c.vertices
  pub arrows : r.arrows ≡ edges_of c
  pub bundles : r.bundles ≡ length p.bundles
  pub rows : r.rows ≡ row_count c
  pub lines : r.lines ≡ length p.channels
  pub firm : r.firm ≡ reduced_edges c
  pub width : r.width ≡ width_of p
  pub side_columns : (l : ℕ) → l < most_vertices → get_or r.side_columns l 0 ≡ tracks_in p l
  pub long : length r.side_columns ≡ most_vertices

-- r has no count
pub record Zeroed (r : ChartCounts) : Type 0 where
  pub words : r.words ≡ 0
  pub arrows : r.arrows ≡ 0
  pub bundles : r.bundles ≡ 0
  pub rows : r.rows ≡ 0
  pub lines : r.lines ≡ 0
  pub firm : r.firm ≡ 0
  pub width : r.width ≡ 0
  pub side_columns : (l : ℕ) → l < most_vertices → get_or r.side_columns l 0 ≡ 0
