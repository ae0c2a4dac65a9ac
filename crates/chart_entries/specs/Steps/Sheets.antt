-- What the steps of a call promise, by the sheet. Assumes nothing.
use Rattle.std.specs.Prelude.{◌≡◌, Bool, List, [], ℕ, ◌/◌, ◌≤◌, ◌<◌, min, length, get_or}
use Rattle.specification.specs.Limits.{most_vertices, most_edges, most_bundles}
use Rattle.specification.specs.Count.{choose}
use Rattle.counting.specs.Quads.{quad}
use Rattle.specification.specs.Lent.{Filled}
use Rattle.specification.specs.Pass.{as_entries, state, after}
use Rattle.specification.specs.Checks.{Content, edges_of}
use Rattle.specification.specs.Chart as chart
use Rattle.specification.specs.Chart.{plan_of, row_count, width_of, tracks_in, vertex_entry, edge_entry, bundle_entry}
use Rattle.specification.specs.declared.VertexEntry.{VertexEntry}
use Rattle.specification.specs.declared.EdgeEntry.{EdgeEntry}
use Rattle.specification.specs.declared.BundleEntry.{BundleEntry}
use Rattle.prefixes.specs.Prefixes.{last_set, Prefixes}
use Rattle.specification.specs.Drawn.{Drawn, graph_drawn, lent}
use Rattle.chart_plan.specs.Laid.{Lists}
use Rattle.chart_plan.specs.Laid.{Plan}
use Rattle.chart_entries.specs.Steps.Sheet.{Sheet}
use Rattle.specification.specs.declared.ChartCounts.{ChartCounts}
use Rattle.chart_entries.specs.Steps.Entries.{vertex_at, edge_at, bundle_at}

-- ---- sheets

-- the tables of a plan of n vertices and m edges
abbrev pub sheet_of : ℕ → ℕ → Plan → Lists → List ℕ → Sheet
sheet_of n m p t left = record {
  refusal = 0;
  vertices = n;
  edges = m;
  bundles = p.bundles;
  rows = p.rows;
  channels = p.channels;
  width = p.width;
  tracks = t.used;
  places = t.places;
  column = t.column;
  longer = t.longer;
  below = t.below;
  left = left;
  number = t.number;
  spans = t.spans;
}

-- .. and the sets of the vertices left of each channel
pub record Drafted (n m : ℕ) (p : Plan) (t : Lists) (d : Sheet) : Type 0 where
  pub tables : d ≡ sheet_of n m p t d.left
  pub lefts : Prefixes 2 (min (min n most_vertices) (length t.places / 4)) (quad 0 t.places) (last_set p.channels 258) d.left

-- the counts are within the tables
pub record Bounded (d : Sheet) : Type 0 where
  pub vertices : d.vertices ≤ most_vertices
  pub edges : d.edges ≤ most_edges
  pub bundles : d.bundles ≤ most_bundles

-- .. and within lists of v, e and b entries
pub record Room (d : Sheet) (v e b : ℕ) : Type 0 where
  pub bounded : Bounded d
  pub vertices : d.vertices ≤ v
  pub edges : d.edges ≤ e
  pub bundles : d.bundles ≤ b

-- every count but that of the reduced edges, and every entry, of the chart of c
pub record Tables (c : Content) (p : chart.Plan) (ends floors : List ℕ) (d : Sheet) : Type 0 where
  pub vertices : d.vertices ≡ c.vertices
  pub edges : d.edges ≡ edges_of c
  pub bundles : d.bundles ≡ length p.bundles
  pub rows : d.rows ≡ row_count c
  pub channels : d.channels ≡ length p.channels
  pub width : d.width ≡ width_of p
  pub tracks : (l : ℕ) → l < most_vertices → get_or d.tracks l 0 ≡ tracks_in p l
  pub long : length d.tracks ≡ most_vertices
  pub vertex : (v : ℕ) → v < c.vertices → vertex_at d floors v ≡ vertex_entry c p v
  pub edge : (e : ℕ) → e < edges_of c → edge_at d ends e ≡ edge_entry c p e
  pub bundle : (b : ℕ) → b < length p.bundles → bundle_at d b ≡ bundle_entry p b

-- d has what goes of x into lists of v, e and b entries, where the edges have these ends and the vertices these floors
pub record SheetOf (x : Drawn) (ends floors : List ℕ) (v e b : ℕ) (d : Sheet) : Type 0 where
  pub refusal : d.refusal ≡ (lent v e b x).refusal
  pub tables : Tables (lent v e b x).graph (plan_of (lent v e b x).graph) ends floors d
  pub room : Room d v e b

-- the floors of a graph, none where it has no floors
abbrev pub floors_if : Bool → List ℕ → List ℕ
floors_if floored floors = choose floored (λ _. floors) (λ _. [])

abbrev pub GraphSheet : ℕ → List ℕ → Bool → List ℕ → Bool → List ℕ → ℕ → ℕ → ℕ → Sheet → Type 0
GraphSheet n ends given field floored floors = SheetOf (graph_drawn n ends given field floored floors) ends (floors_if floored floors)

-- ---- what is handed over

abbrev pub summary_of : Sheet → ℕ → ChartCounts
summary_of d reduced = record {
  refusal = d.refusal;
  words = d.vertices;
  arrows = d.edges;
  bundles = d.bundles;
  rows = d.rows;
  lines = d.channels;
  firm = reduced;
  width = d.width;
  side_columns = d.tracks;
}

-- the answer and the lists by the sheet, the ends of the edges and the floors; the pass over the edges ends with the count `reduced`
pub record Leaves (d : Sheet) (ends floors : List ℕ) (vs : List VertexEntry) (es : List EdgeEntry) (bs : List BundleEntry)
    (r : ChartCounts) (vs' : List VertexEntry) (es' : List EdgeEntry) (bs' : List BundleEntry) : Type 0 where
  pub reduced : ℕ
  pub answer : r ≡ summary_of d reduced
  pub vertices : Filled vs (vertex_at d floors) d.vertices vs'
  pub edges : state es' reduced ≡ after as_entries (edge_at d ends) es d.edges
  pub bundles : Filled bs (bundle_at d) d.bundles bs'
