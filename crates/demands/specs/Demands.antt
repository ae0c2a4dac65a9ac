-- The demands on a chart, as statements (SPECIFICATION.md, 10 and 15): `Faithful` for 15.3, `Smallest` for 10.5, `Carried` for 10.4.
-- proofs/Demands.antt proves them of the definitions' chart and of what every call leaves. Assumes nothing.
use Rattle.std.specs.Prelude.{◌≡◌, ◌≢◌, ◌↔◌, Bool, true, false, not, ◌&&◌, List, [], ℕ, suc, ◌≤◌, ◌<◌, max, eqb, length, get_or}
use Rattle.specification.specs.Count.{some, above}
use Rattle.specification.specs.Graph.{Reaches, Longer, Edge, edge?}
use Rattle.specification.specs.Channels.{channel_of}
use Rattle.specification.specs.Given.{Whole}
use Rattle.specification.specs.Checks.{Content, edges_of, given_of, connection_in, Leads}
use Rattle.specification.specs.Connection.{Means}
use Rattle.specification.specs.Writing.{Draft}
use Rattle.specification.specs.Marks.{reduced_link}
use Rattle.specification.specs.Geometry.{Point, Clear}
use Rattle.specification.specs.Chart.{tail_of, head_of, floor_of, row_of, channels_of, plan_of, bundle_in, track_in, vertex_entry}
use Rattle.specification.specs.Chart.{edge_entry}
use Rattle.specification.specs.Chart.{bundle_entry, point_at, polyline_of, OnPage}
use Rattle.specification.specs.declared.Kind.TheVariants.{Path}
use Rattle.specification.specs.declared.VertexEntry.{VertexEntry}
use Rattle.specification.specs.declared.EdgeEntry.{EdgeEntry}
use Rattle.specification.specs.declared.BundleEntry.{BundleEntry}
use Rattle.specification.specs.Lawful.{Chart, Lawful, Keeps, rows_of, links_of, side_columns, SameLines, SameRows, SameBundles}
use Rattle.specification.specs.declared.ChartCounts.{ChartCounts}
use Rattle.demands.specs.Leading.{how}

-- ---- what is handed over

-- an entry of every vertex, edge and bundle
pub record Entries : Type 0 where
  pub vertex : ℕ → VertexEntry
  pub edge : ℕ → EdgeEntry
  pub bundle : ℕ → BundleEntry

-- those that lists hold; what stands past a list's end no law reads
abbrev pub entries_in : List VertexEntry → List EdgeEntry → List BundleEntry → Entries
entries_in vs es bs = record {
  vertex = λ v. get_or vs v (record { channel = 0; position = 0; column = 0; row = 0; descendants = 0; floor = 0 });
  edge = λ e. get_or es e (record { number = 0; kind = Path; transitive = false });
  bundle = λ b. get_or bs b (record { channel = 0; first_row = 0; last_row = 0; track = 0 });
}

-- those of the definitions
abbrev pub entries_of : Content → Entries
entries_of c = record { vertex = vertex_entry c (plan_of c); edge = edge_entry c (plan_of c); bundle = bundle_entry (plan_of c) }

-- ---- our chart

-- by the definitions; its links are its reduced edges (10.4)
unfoldable pub ours_of : Content → Chart
ours_of c = record {
  row = row_of c;
  parts = length (channels_of c);
  part = channel_of (channels_of c);
  link = reduced_link (connection_in c) c.tails c.heads;
  bundles = length (plan_of c).bundles;
  line = λ b. (bundle_in (plan_of c) b).channel;
  first = λ b. (bundle_in (plan_of c) b).first;
  last = λ b. (bundle_in (plan_of c) b).last;
  side = track_in (plan_of c);
}

-- edge e joins u to v, and its entry is not marked transitive
abbrev pub joins? : Content → Entries → ℕ → ℕ → ℕ → Bool
joins? c entries u v e = (eqb (tail_of c e) u && eqb (head_of c e) v) && not (entries.edge e).transitive

-- as whoever knows the graph c sees it: how many channels and bundles the answer r says, all else the entries
unfoldable pub seen : Content → ChartCounts → Entries → Chart
seen c r entries = record {
  row = λ v. (entries.vertex v).row;
  parts = r.lines;
  part = λ v. (entries.vertex v).channel;
  link = λ u v. some (edges_of c) (joins? c entries u v);
  bundles = r.bundles;
  line = λ b. (entries.bundle b).channel;
  first = λ b. (entries.bundle b).first_row;
  last = λ b. (entries.bundle b).last_row;
  side = λ b. (entries.bundle b).track;
}

-- ---- reduced edges and clear lines

-- there is a reduced edge from u to v (a firm arrow), by the marks of the entries
abbrev pub Firm : Content → Entries → ℕ → ℕ → Type 0
Firm c entries u v = (e : ℕ) × (e < edges_of c) × (tail_of c e ≡ u) × (head_of c e ≡ v) × ((entries.edge e).transitive ≡ false)

-- the place of a vertex, and an edge's line
abbrev pub place_in : Entries → ℕ → Point
place_in entries v = point_at (entries.vertex v)

abbrev pub line_in : Content → Entries → ℕ → List Point
line_in c entries e = polyline_of (entries.vertex (tail_of c e)) (entries.vertex (head_of c e)) (entries.edge e).kind entries.bundle

-- v stands next after u in their channel
abbrev pub Follows : Entries → ℕ → ℕ → Type 0
Follows entries u v =
    ((entries.vertex u).channel ≡ (entries.vertex v).channel) × ((entries.vertex v).position ≡ suc (entries.vertex u).position)

-- how vertices stand, by their entries
pub record Standing (c : Content) (entries : Entries) : Type 0 where
  -- each carries its floor, 0 where there are none (9.2)
  pub carried : (v : ℕ) → v < c.vertices → (entries.vertex v).floor ≡ floor_of c v
  -- its row is the greater of the floor and one more than the highest row of those with an edge into it, 0 where there is none (4.1)
  pub rule : (v : ℕ) → v < c.vertices → (entries.vertex v).row
      ≡ max (entries.vertex v).floor (above c.vertices (λ u. edge? c.tails c.heads u v) (λ u. (entries.vertex u).row))
  -- so that no row is below its floor, and the highest is 254
  pub kept : (v : ℕ) → v < c.vertices → (entries.vertex v).floor ≤ (entries.vertex v).row
  pub low : (v : ℕ) → v < c.vertices → (entries.vertex v).row ≤ 254

pub record Faithful (c : Content) (entries : Entries) : Type 0 where
  -- rows keep the floors and go by the rule (4.1)
  pub standing : Standing c entries
  -- marked are the edges along which a longer route goes (5.1)
  pub marked : (e : ℕ) → e < edges_of c → ((entries.edge e).transitive ≡ true)
      ↔ Longer (Edge c.tails c.heads) (tail_of c e) (head_of c e)
  -- and so exactly those whose ends, asked how one reaches the other, answer 'both' (5.1)
  pub both : (e : ℕ) → e < edges_of c → ((entries.edge e).transitive ≡ true) ↔ (how c (tail_of c e) (head_of c e) ≡ 3)
  -- every such answer means what its number says (2.4)
  pub answers : (u v : ℕ) → Means (Edge c.tails c.heads) u v (how c u v)
  -- neighbours in a channel (line), given or planned, never answer 'not at all'; and 'by longer routes only' where no edge goes from one
  -- to the next (15.5)
  pub led : (u v : ℕ) → u < c.vertices → v < c.vertices → Follows entries u v → how c u v ≢ 0
  pub apart : (u v : ℕ) → u < c.vertices → v < c.vertices → Follows entries u v → (Edge c.tails c.heads u v → ⊥) → how c u v ≡ 2
  -- reduced edges have the reachability of all edges (15.3)
  pub descent : (u v : ℕ) → Reaches (Firm c entries) u v ↔ Leads c u v
  -- an edge's line passes through no vertex but its two ends (15.3)
  pub clear : (e : ℕ) → e < edges_of c → Clear c.vertices (place_in entries) (tail_of c e) (head_of c e) (line_in c entries e)
  -- and stands on the page (8.2), so that no polyline of it is refused
  pub on_page : (e : ℕ) → e < edges_of c → OnPage (line_in c entries e)

-- 8 'short' is not said (13.1): lists of v, e and b entries have room for the vertices, edges and bundles
pub record Roomy (c : Content) (v e b : ℕ) : Type 0 where
  pub vertices : c.vertices ≤ v
  pub edges : edges_of c ≤ e
  pub bundles : length (plan_of c).bundles ≤ b

-- lists of numbers as long as the header names (CEVILONETH_WORDS, CEVILONETH_ARROWS, CEVILONETH_BUNDLES)
pub record Ample (ws es bs : List ℕ) : Type 0 where
  pub words : 768 ≤ length ws
  pub arrows : 20480 ≤ length es
  pub bundles : 1024 ≤ length bs

-- a record of so many vertices and these edges, with an empty field of given channels, or without one
abbrev pub unlined : ℕ → List (ℕ × ℕ) → Bool → Draft
unlined n edges given = record { vertices = n; edges = edges; given = given; channels = []; floored = false; floors = [] }

-- a floor a vertex, and all of them 0
abbrev pub Flat : Draft → Type 0
Flat x = (length x.floors ≡ x.vertices) × ((v : ℕ) → get_or x.floors v 0 ≡ 0)

-- the record x without floors
abbrev pub floorless : Draft → Draft
floorless x =
    record { vertices = x.vertices; edges = x.edges; given = x.given; channels = x.channels; floored = false; floors = [] }

-- ---- no lawful chart is smaller

pub record Smallest (c : Content) (x : Chart) : Type 0 where
  pub lawful : Lawful c x
  -- each of its parts has a vertex, so that `parts` is their number
  pub filled : (p : ℕ) → p < x.parts → (v : ℕ) × (v < c.vertices) × (x.part v ≡ p)
  -- it keeps the floors, and no lawful chart that keeps them has fewer rows (10.5)
  pub keeps : Keeps c x
  pub rows : (y : Chart) → Lawful c y → Keeps c y → rows_of c x ≤ rows_of c y
  -- each given channel (house line) is one of its parts: the part of a vertex of it has that channel's vertices, and no other
  pub whole : Whole c.vertices (given_of c) x.part
  -- and no lawful chart that has the given channels whole has fewer parts; where none are given every lawful chart has (`bare-whole`)
  pub lines : (y : Chart) → Lawful c y → Whole c.vertices (given_of c) y.part → x.parts ≤ y.parts
  -- or fewer links than ours reduced edges
  pub links : (y : Chart) → Lawful c y → links_of c x ≤ links_of c y
  -- and one with the same parts, rows and bundles has in no part fewer tracks: p and q are the same part, for vertex v is in both
  pub sides : (y : Chart) → Lawful c y → SameLines c x y → SameRows c x y → SameBundles c x y
      → (p q v : ℕ) → v < c.vertices → x.part v ≡ p → y.part v ≡ q → side_columns x p ≤ side_columns y q

-- the counts of x are these (10.4)
pub record Counted (c : Content) (x : Chart) (rows lines firm bundles : ℕ) (sides : ℕ → ℕ) : Type 0 where
  pub row_count : rows_of c x ≡ rows
  pub line_count : x.parts ≡ lines
  pub link-count : links_of c x ≡ firm
  pub bundle_count : x.bundles ≡ bundles
  pub side_counts : (p : ℕ) → side_columns x p ≡ sides p

-- they are those of the answer r
abbrev pub Carried : Content → Chart → ChartCounts → Type 0
Carried c x r = Counted c x r.rows r.lines r.firm r.bundles (λ p. get_or r.side_columns p 0)
