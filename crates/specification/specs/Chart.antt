-- The chart: what is planned of a graph, its entries and its lines (SPECIFICATION.md, 8 and 9). Assumes nothing.
use Rattle.std.specs.Prelude.{Bool, List, [], ◌∷◌, ℕ, ◌<◌, eqb, length, get_or}
use Rattle.specification.specs.Count.{choose, count, above}
use Rattle.specification.specs.Limits.{most_vertices, page_columns, page_rows}
use Rattle.specification.specs.Graph.{edge?, reachable?}
use Rattle.specification.specs.Channels.{channel_of, position_of}
use Rattle.specification.specs.Given.{with_given}
use Rattle.specification.specs.Checks.{Content, edges_of, given_of, connection_in, floor_at}
use Rattle.specification.specs.Rows.{row, rows_used}
use Rattle.specification.specs.Marks.{transitive?, reduced_count}
use Rattle.specification.specs.Bundles.{Bundle, bundle_of, adjacent?, bundles_of, empty}
use Rattle.specification.specs.Tracks.{tracks}
use Rattle.specification.specs.Geometry.{Point, point, Widths, even_gaps, block_start, own_column, course_of, gap_width, track_at, straight}
use Rattle.specification.specs.Geometry.{by_track}
use Rattle.specification.specs.declared.Course.{Course}
use Rattle.specification.specs.declared.Kind.{Kind}
use Rattle.specification.specs.declared.Kind.TheVariants.{Path, PathTransitive, Straight, Bent}
use Rattle.specification.specs.declared.VertexEntry.{VertexEntry}
use Rattle.specification.specs.declared.EdgeEntry.{EdgeEntry}
use Rattle.specification.specs.declared.BundleEntry.{BundleEntry}
use Rattle.specification.specs.declared.Course.TheVariants as course

module _ (c : Content) where
  -- u reaches v (2.1)
  unfoldable pub leads? : ℕ → ℕ → Bool
  leads? = reachable? c.vertices c.tails c.heads

  unfoldable pub descendants_of : ℕ → ℕ
  descendants_of v = count most_vertices (leads? v)

  abbrev pub tail_of : ℕ → ℕ
  tail_of e = get_or c.tails e 0

  abbrev pub head_of : ℕ → ℕ
  head_of e = get_or c.heads e 0

  -- floors, and rows by them (4.1)
  unfoldable pub floor_of : ℕ → ℕ
  floor_of = floor_at c.floored c.floors

  unfoldable pub row_of : ℕ → ℕ
  row_of v = row (edge? c.tails c.heads) floor_of c.vertices v

  unfoldable pub row_count : ℕ
  row_count = rows_used (edge? c.tails c.heads) floor_of c.vertices

  -- transitive and reduced edges (5.1)
  unfoldable pub transitive_edge? : ℕ → Bool
  transitive_edge? e = transitive? (connection_in c) (tail_of e) (head_of e)

  unfoldable pub reduced_edges : ℕ
  reduced_edges = reduced_count (connection_in c) (edges_of c) c.tails c.heads

-- ---- what is planned: channels, bundles, and the track of each bundle

pub record Plan : Type 0 where
  pub channels : List (List ℕ)
  pub bundles : List Bundle
  pub tracks : List ℕ

-- the given channels, in their order, and then those planned for the vertices that they do not hold (3.2 to 3.5)
unfoldable pub channels_of : Content → List (List ℕ)
channels_of c = with_given (leads? c) c.vertices (given_of c)

-- the bundles, and then their tracks (6.2, 7.1)
unfoldable pub tracked : List (List ℕ) → List Bundle → Plan
tracked ls bs = record {
  channels = ls;
  bundles = bs;
  tracks = tracks (length bs) (λ b. (get_or bs b empty).channel) (λ b. (get_or bs b empty).first) (λ b. (get_or bs b empty).last);
}

unfoldable pub bundled : Content → List (List ℕ) → Plan
bundled c ls = tracked ls (bundles_of c.vertices c.tails c.heads (length ls) (channel_of ls) (position_of ls) (row_of c))

unfoldable pub plan_of : Content → Plan
plan_of c = bundled c (channels_of c)

-- ---- places

abbrev pub bundle_in : Plan → ℕ → Bundle
bundle_in p b = get_or p.bundles b empty

abbrev pub track_in : Plan → ℕ → ℕ
track_in p b = get_or p.tracks b 0

-- the number of tracks of a channel: 1 + the highest
unfoldable pub tracks_in : Plan → ℕ → ℕ
tracks_in p l = above (length p.bundles) (λ b. eqb (bundle_in p b).channel l) (track_in p)

-- blocks of s + 3 columns (8.1)
abbrev pub widths : Plan → Widths
widths p = even_gaps (tracks_in p)

unfoldable pub column_in : Plan → ℕ → ℕ
column_in p v = own_column (widths p) (channel_of p.channels v)

unfoldable pub width_of : Plan → ℕ
width_of p = block_start (widths p) (length p.channels)

abbrev pub place_of : Content → Plan → ℕ → Point
place_of c p v = point (column_in p v) (row_of c v)

-- ---- kinds

abbrev pub crossing : Course → Kind
crossing course.Straight = Straight
crossing (course.Bent x y) = Bent (record { column = x; row = y })

-- an edge within a channel is a path edge between neighbours, else path-transitive, with its bundle (6.1); one that joins two channels is
-- straight or bent (8.4)
unfoldable pub kind_between : Content → Plan → ℕ → ℕ → Kind
kind_between c p u v =
    choose (eqb (channel_of p.channels u) (channel_of p.channels v))
    (λ _. choose (adjacent? (position_of p.channels u) (position_of p.channels v))
    (λ _. Path) (λ _. PathTransitive (bundle_of p.bundles u v)))
    (λ _. crossing (course_of (place_of c p) c.vertices u v))

-- ---- the entries that are handed over

unfoldable pub vertex_entry : Content → Plan → ℕ → VertexEntry
vertex_entry c p v = record {
  channel = channel_of p.channels v;
  position = position_of p.channels v;
  column = column_in p v;
  row = row_of c v;
  descendants = descendants_of c v;
  floor = floor_of c v;
}

unfoldable pub edge_entry : Content → Plan → ℕ → EdgeEntry
edge_entry c p e = record { number = e; kind = kind_between c p (tail_of c e) (head_of c e); transitive = transitive_edge? c e }

unfoldable pub bundle_entry : Plan → ℕ → BundleEntry
bundle_entry p b = record {
  channel = (bundle_in p b).channel;
  first_row = (bundle_in p b).first;
  last_row = (bundle_in p b).last;
  track = track_in p b;
}

abbrev pub point_at : VertexEntry → Point
point_at v = point v.column v.row

-- the line of the edge u → v (8.3, 8.4): a path-transitive one goes level to its track, up in it, and level; a bent one has one bend; the
-- others are straight
unfoldable pub polyline_of : VertexEntry → VertexEntry → Kind → (ℕ → BundleEntry) → List Point
polyline_of u v Path bundle = straight (point_at u) (point_at v)
polyline_of u v (PathTransitive b) bundle = by_track (point_at u) (point_at v) (track_at u.column gap_width (bundle b).track)
polyline_of u v Straight bundle = straight (point_at u) (point_at v)
polyline_of u v (Bent bend) bundle = point_at u ∷ point bend.column bend.row ∷ point_at v ∷ []

-- every point of a polyline stands on the page (8.2)
pub data OnPage : List Point → Type 0 where
  none : OnPage []
  more : {q : Point} {l : List Point} → q.column < page_columns → q.row < page_rows → OnPage l → OnPage (q ∷ l)
