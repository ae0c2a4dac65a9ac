-- What is planned of a sound graph. Assumes nothing.
use Rattle.std.specs.Prelude.{◌≡◌, ◌≢◌, ◌↔◌, Bool, true, false, List, [], ℕ, ◌*◌, ◌≤◌, ◌<◌, min, length, get_or, Result, Ok, Err}
use Rattle.counting.specs.Quads.{quad}
use Rattle.specification.specs.Limits.{most_vertices}
use Rattle.specification.specs.Sets.{member?, at}
use Rattle.specification.specs.Graph.{edge?, tails_of, heads_of}
use Rattle.specification.specs.Channels.{channel_of, position_of}
use Rattle.specification.specs.Checks.{Content, unfloored?, refusal_of, Sound}
use Rattle.specification.specs.Connection.{longer?}
use Rattle.specification.specs.Chart.{channels_of, row_of, row_count, descendants_of, plan_of, tracks_in, column_in, width_of}
use Rattle.specification.specs.Drawn.{graph_content, chart_refusal}
use Rattle.specification.specs.Lent.{Untouched}
use Rattle.descent.specs.Promise.{edges_refusal, Left}
use Rattle.floors.specs.Promise.{Flat}
use Rattle.floors.specs.Promise as raising
use Rattle.planning.specs.Arranged.{Arranged}
use Rattle.record.specs.Checked.{Tables}
use Rattle.bundles.specs.Promise.{Listed}
use Rattle.specification.specs.declared.Refusal.{Refusal}
use Rattle.specification.specs.Refusals.{refusal_number}
use Rattle.chart_plan.specs.declared.Plan.{Plan as Counts}

-- why a graph is refused, or 0; how many rows, channels and bundles it has, and the columns of all channels
pub record Plan : Type 0 where
  pub refusal : ℕ
  pub rows : ℕ
  pub channels : ℕ
  pub bundles : ℕ
  pub width : ℕ

-- the lists that are lent: four of masks; of each vertex the channel, its position there, its row and how many vertices it
-- reaches, in turn; of each bundle the channel, the first row, the last row and the track; the bundle at each end of a
-- vertex; how many tracks each channel has; the column of each vertex
pub record Lists : Type 0 where
  pub edges : List ℕ
  pub below : List ℕ
  pub table : List ℕ
  pub longer : List ℕ
  pub places : List ℕ
  pub spans : List ℕ
  pub number : List ℕ
  pub used : List ℕ
  pub column : List ℕ

abbrev pub lists : List ℕ → List ℕ → List ℕ → List ℕ → List ℕ → List ℕ → List ℕ → List ℕ → List ℕ → Lists
lists edges below table longer places spans number used column = record {
  edges = edges;
  below = below;
  table = table;
  longer = longer;
  places = places;
  spans = spans;
  number = number;
  used = used;
  column = column;
}

-- the lists have room for n vertices, 128 at most, with floors or without
pub record Roomy (n : ℕ) (floored : Bool) (t : Lists) : Type 0 where
  pub masks : raising.Roomy n floored t.edges t.below t.table t.longer t.places
  pub spans : 8 * min n most_vertices ≤ length t.spans
  pub number : 2 * min n most_vertices ≤ length t.number
  pub used : most_vertices ≤ length t.used
  pub column : min n most_vertices ≤ length t.column

-- p and t have the rows, channels, bundles, tracks and columns of the graph's chart, 0 past the last bundle; `below` has, for each k up
-- to the rows used, the set of the vertices whose row is below k, and `longer` the pairs of vertices with longer routes. What else the
-- lists of masks have `Plans` says
pub record Laid (c : Content) (p : Plan) (t : Lists) : Type 0 where
  pub sound : Sound c
  pub rows_counted : p.rows ≡ row_count c
  pub rows : (v : ℕ) → v < c.vertices → quad 2 t.places v ≡ row_of c v
  pub descendants : (v : ℕ) → v < c.vertices → quad 3 t.places v ≡ descendants_of c v
  pub channel_count : p.channels ≡ length (plan_of c).channels
  pub channels : (v : ℕ) → v < c.vertices → quad 0 t.places v ≡ channel_of (plan_of c).channels v
  pub positions : (v : ℕ) → v < c.vertices → quad 1 t.places v ≡ position_of (plan_of c).channels v
  pub bundles : Listed c.vertices (plan_of c).bundles p.bundles t.spans t.number
  pub track : (b : ℕ) → quad 3 t.spans b ≡ get_or (plan_of c).tracks b 0
  pub used : (l : ℕ) → l < length t.used → get_or t.used l 0 ≡ tracks_in (plan_of c) l
  pub column : (v : ℕ) → v < c.vertices → get_or t.column v 0 ≡ column_in (plan_of c) v
  pub width : p.width ≡ width_of (plan_of c)
  pub longer_pairs : (u v : ℕ) → u < c.vertices → v < c.vertices
      → member? t.longer (2 * u) v ≡ longer? (edge? c.tails c.heads) c.vertices u v
  pub below_rows : (k v : ℕ) → k ≤ row_count c → v < most_vertices → at 2 t.below k v ≡ 1 ↔ ((v < c.vertices) × (row_of c v < k))
  pub room : Roomy c.vertices c.floored t

-- a refusal, with nothing planned
abbrev pub unplanned_by : ℕ → Plan
unplanned_by k = record {
  refusal = k;
  rows = 0;
  channels = 0;
  bundles = 0;
  width = 0;
}

-- what a call says
abbrev pub plan_told : Result Counts Refusal → Plan
plan_told (Ok p) = record {
  refusal = 0;
  rows = p.rows;
  channels = p.channels;
  bundles = p.bundles;
  width = p.width;
}
plan_told (Err k) = unplanned_by (refusal_number k)

-- every list is as long as it was
pub record Long (t s : Lists) : Type 0 where
  pub edges : length s.edges ≡ length t.edges
  pub below : length s.below ≡ length t.below
  pub table : length s.table ≡ length t.table
  pub longer : length s.longer ≡ length t.longer
  pub places : length s.places ≡ length t.places
  pub spans : length s.spans ≡ length t.spans
  pub number : length s.number ≡ length t.number
  pub used : length s.used ≡ length t.used
  pub column : length s.column ≡ length t.column

-- the first check that fails, or 0 and what is planned; 8, and nothing changed, where a list has no room. What the lists of masks hold, and
-- the rows and counts of the places, goes by the refusals of the edges and of the floors alone, and channels and positions by that of the
-- graph: where it passes they are the chart's, broad or not, and where only its given channels are refused no vertex has any, both numbers
-- of each being 0. After a refusal the other lists are as they were. The places and columns past the vertices always stay
pub record Plans (n : ℕ) (ends : List ℕ) (given : Bool) (field : List ℕ) (floored : Bool) (floors : List ℕ) (t : Lists) (p : Plan)
    (s : Lists)
    : Type 0 where
  pub answer : Roomy n floored t → p.refusal ≡ chart_refusal (graph_content n ends given field floored floors)
  pub short : (Roomy n floored t → ⊥) → (p.refusal ≡ 8) × Untouched t s
  pub laid : p.refusal ≡ 0 → Laid (graph_content n ends given field floored floors) p s
  pub none : p.refusal ≢ 0 → p ≡ unplanned_by p.refusal
  pub kept : p.refusal ≢ 0
      → s ≡ lists s.edges s.below s.table s.longer s.places t.spans t.number t.used t.column
  pub left : Roomy n floored t → edges_refusal n (tails_of ends) (heads_of ends) ≢ 0
      → Left (edges_refusal n (tails_of ends) (heads_of ends)) n ends t.edges t.below t.table t.longer t.places
      s.edges s.below s.table s.longer s.places
  pub flat : Roomy n floored t → edges_refusal n (tails_of ends) (heads_of ends) ≡ 0 → unfloored? n floored floors ≡ true
      → Flat n ends t.below s.edges s.below s.table s.longer s.places
      × ((k v : ℕ) → k < 2 → quad k s.places v ≡ quad k t.places v)
  pub tables : Roomy n floored t → edges_refusal n (tails_of ends) (heads_of ends) ≡ 0 → unfloored? n floored floors ≡ false
      → Tables n ends floored floors t.below s.edges s.below s.table s.longer s.places
  pub arranged : Roomy n floored t → refusal_of (graph_content n ends given field floored floors) ≡ 0
      → Arranged n (channels_of (graph_content n ends given field floored floors))
      (length (channels_of (graph_content n ends given field floored floors))) s.places
  pub cleared : Roomy n floored t → edges_refusal n (tails_of ends) (heads_of ends) ≡ 0 → unfloored? n floored floors ≡ false
      → refusal_of (graph_content n ends given field floored floors) ≢ 0 → Arranged n [] 0 s.places
  pub places_past : (k v : ℕ) → k < 4 → n ≤ v → quad k s.places v ≡ quad k t.places v
  pub column_past : (v : ℕ) → n ≤ v → get_or s.column v 0 ≡ get_or t.column v 0
  pub long : Long t s
