-- What the tables of a plan are, entry by entry: the chart's entries. Cites the chart's laws. Assumes nothing.
use Rattle.counting.proofs.Prelude.{◌≡◌, refl, sym, ap, ap₂, ◌∙◌, ◌↔◌, Bool, true, false, ◌&&◌, List, ℕ, ◌+◌, ◌*◌, ◌/◌, ◌≤◌, ◌<◌}
use Rattle.counting.proofs.Prelude.{min, arith, eqb, length, get_or, take, eqb-true}
use lib.Seq.{get_or-take, length-take-le}
use Rattle.specification.specs.Count.{choose}
use Rattle.specification.specs.Sets.{at}
use Rattle.specification.specs.Channels.{channel_of, position_of}
use Rattle.specification.specs.Graph.{edge?}
use Rattle.specification.specs.Connection.{longer?, connects}
use Rattle.specification.specs.Marks.{transitive?}
use Rattle.specification.specs.Checks.{Content, edges_of, connection_in}
use Rattle.specification.specs.Bundles.{bundle_of, adjacent?}
use Rattle.specification.specs.Geometry.{Point, point, is_hit, is_blocked, own_column, course_of}
use Rattle.specification.specs.Chart.{plan_of, row_count, widths, column_in, place_of, tail_of, head_of, crossing, transitive_edge?}
use Rattle.specification.specs.Chart.{kind_between}
use Rattle.specification.specs.Chart.{floor_of, vertex_entry, bundle_entry}
use Rattle.specification.specs.declared.Kind.{Kind}
use Rattle.specification.specs.declared.Kind.TheVariants.{Path, PathTransitive}
use Rattle.specification.specs.declared.VertexEntry.{VertexEntry}
use Rattle.specification.specs.declared.BundleEntry.{BundleEntry}
use Rattle.specification.specs.Drawn.{graph_content}
use Rattle.specification.specs.Chart as chart
use Rattle.counting.specs.Quads.{quad}
use Rattle.counting.proofs.Somes.{some_ext}
use Rattle.reach.proofs.Ends.{ends-counted}
use Rattle.reach.proofs.Connecting.{both_each}
use Rattle.geometry.specs.Segment.{point_of, vertex_count}
use Rattle.reduction.specs.Reduction.{transitive_in?}
use Rattle.reduction.proofs.Marks.{transitive_member}
use Rattle.chart_laws.proofs.Leading.{edge_there}
use Rattle.chart_laws.proofs.Channels.{channels-few, channel_below}
use Rattle.chart_laws.proofs.Rows.{row-counted}
use Rattle.chart_laws.proofs.Bundling.{side_edge, side-number}
use Rattle.prefixes.specs.Prefixes.{last_set, Prefixes}
use Rattle.kinds.specs.Kinds.{kind_in, kind_among}
use Rattle.kinds.proofs.Candidates.{Ready, kind_candidates}
use Rattle.chart_plan.specs.Laid.{Plan, Lists, Laid}

-- ---- of the graph alone

-- half as many edges as bytes of ends
pub edges-counted : (n : ℕ) (ends : List ℕ) (given : Bool) (field : List ℕ) (floored : Bool) (floors : List ℕ)
    → edges_of (graph_content n ends given field floored floors) ≡ length ends / 2
unfolding graph_content
edges-counted n ends given field floored floors = ends-counted ends

-- the course between vertices goes by the vertices' points alone
course-same : (at to : ℕ → Point) (n u v : ℕ) → u < n → v < n → ((w : ℕ) → w < n → at w ≡ to w) → course_of at n u v ≡ course_of to n u v
unfolding course_of is_blocked
course-same at to n u v hu hv e =
    rw (
      e u hu,
      e v hv,
      some_ext n (λ w. is_hit (to u) (to v) (at w)) (λ w. is_hit (to u) (to v) (to w))
          (λ w h. ap (is_hit (to u) (to v)) (e w h)),
    ) refl

-- kinds by the same tests are the same where what they pick is
kind_picked : (same next : Bool) (b d : ℕ) (x y : Kind) → (same ≡ true → next ≡ false → b ≡ d) → (same ≡ false → x ≡ y)
    → choose same (λ _. choose next (λ _. Path) (λ _. PathTransitive b)) (λ _. x)
    ≡ choose same (λ _. choose next (λ _. Path) (λ _. PathTransitive d)) (λ _. y)
kind_picked true true b d x y side cross = refl
kind_picked true false b d x y side cross = ap PathTransitive (side refl refl)
kind_picked false next b d x y side cross = cross refl

module _ (c : Content) (p : Plan) (t : Lists) (l : Laid c p t) where
  abbrev n : ℕ
  n = c.vertices

  abbrev planned : chart.Plan
  planned = plan_of c

  abbrev ls : List (List ℕ)
  ls = planned.channels

  -- ---- counts

  pub small : n ≤ 128
  small = l.sound.size.1

  pub edges_few : edges_of c ≤ 4096
  edges_few = l.sound.size.2

  pub bundles-few : p.bundles ≤ 2 * n
  bundles-few = omega (arith, l.bundles.counted, l.bundles.few)

  pub ends_known : (e : ℕ) → e < edges_of c → (tail_of c e < n) × (head_of c e < n)
  ends_known e h = l.sound.ends e h

  -- ---- vertices and bundles

  pub vertex_drawn : (v : ℕ) → v < n → ◌≡◌ {A = VertexEntry}
      (record {
        channel = quad 0 t.places v;
        position = quad 1 t.places v;
        column = get_or t.column v 0;
        row = quad 2 t.places v;
        descendants = quad 3 t.places v;
        floor = floor_of c v;
      })
      (vertex_entry c planned v)
  unfolding vertex_entry
  vertex_drawn v h = rw (l.channels v h, l.positions v h, l.column v h, l.rows v h, l.descendants v h) refl

  pub bundle_drawn : (b : ℕ) → ◌≡◌ {A = BundleEntry}
      (record {
        channel = quad 0 t.spans b;
        first_row = quad 1 t.spans b;
        last_row = quad 2 t.spans b;
        track = quad 3 t.spans b;
      })
      (bundle_entry planned b)
  unfolding bundle_entry
  bundle_drawn b = rw (l.bundles.channel b, l.bundles.first b, l.bundles.last b, l.track b) refl

  -- ---- edges, by the columns of the n vertices

  abbrev columns : List ℕ
  columns = take n t.column

  abbrev places : List ℕ
  places = t.places

  places_same : (v : ℕ) → v < n → point_of columns places v ≡ place_of c planned v
  places_same v h = ap₂ point (get_or-take n t.column v 0 h ∙ l.column v h) (l.rows v h)

  vertices-same : vertex_count columns places ≡ n
  vertices-same =
      omega (arith, length-take-le n t.column (omega (arith, l.room.column, small)), l.room.masks.masks.places, small)

  -- ---- what candidates ask for

  pub channels_small : p.channels ≤ n
  unfolding plan_of chart.bundled chart.tracked
  channels_small = omega (arith, l.channel_count, channels-few c l.sound)

  below_same : (k v : ℕ) → k ≤ row_count c → v < 128 → at 2 t.below k v ≡ 1 ↔ ((v < n) × (quad 2 places v < k))
  below_same k v a b = (
    (λ h. let r = (l.below_rows k v a b).0 h in (r.0, omega (arith, r.1, l.rows v r.0))),
    (λ h. (l.below_rows k v a b).1 (h.0, omega (arith, h.1, l.rows v h.0))),
  )

  channel_known : (v : ℕ) → v < n → quad 0 places v < p.channels
  unfolding plan_of chart.bundled chart.tracked
  channel_known v h = omega (arith, l.channels v h, l.channel_count, channel_below c l.sound v h)

  column_own : (v : ℕ) → v < n → get_or columns v 0 ≡ own_column (widths planned) (quad 0 places v)
  unfolding column_in
  column_own v h = get_or-take n t.column v 0 h ∙ l.column v h ∙ ap (own_column (widths planned)) (sym (l.channels v h))

  -- `left` is what `prefixes::by_channel` makes of the channels in a list of so many masks, where there are more than two
  abbrev pub LeftOf : ℕ → List ℕ → Type 0
  LeftOf size left =
      2 < p.channels → Prefixes 2 (min (min n 128) (length places / 4)) (quad 0 places) (last_set p.channels size) left

  candidates : (size : ℕ) (left : List ℕ) → 2 * n ≤ size → LeftOf size left
      → Ready (widths planned) n (row_count c) p.channels columns places t.below left
  candidates size left room q = record {
    counted = vertices-same;
    few = small;
    few_channels = omega (arith, channels_small, small);
    row_low = λ v h. omega (arith, l.rows v h, row-counted c l.sound v h);
    by_row = below_same;
    channel_low = channel_known;
    by_channel = λ h. record {
      sets_by_key = λ k v a b. (q h).sets_by_key k v (omega (arith, a, h, room, channels_small, small)) b;
    };
    on_own = column_own;
  }

  module _ (e : ℕ) (h : e < edges_of c) where
    abbrev u : ℕ
    u = tail_of c e

    abbrev v : ℕ
    v = head_of c e

    -- the bundles of the edges into v, and out of u
    abbrev into : ℕ
    into = get_or t.number (2 * v) 0

    abbrev out_of : ℕ
    out_of = get_or t.number (2 * u + 1) 0

    side_same : eqb (channel_of ls u) (channel_of ls v) ≡ true → adjacent? (position_of ls u) (position_of ls v) ≡ false
        → min into out_of ≡ bundle_of planned.bundles u v
    unfolding plan_of chart.bundled chart.tracked
    side_same s a =
        let k = ends_known e h in
        ap₂ min (l.bundles.into v k.1) (l.bundles.out_of u k.0)
        ∙ side-number c l.sound u v (side_edge c l.sound u v (edge_there c l.sound e h) k.0 k.1 (eqb-true _ _ s) a)

    course-drawn : course_of (point_of columns places) (vertex_count columns places) u v ≡ course_of (place_of c planned) n u v
    course-drawn =
        ap (λ k. course_of (point_of columns places) k u v) vertices-same
        ∙ course-same (point_of columns places) (place_of c planned) n u v (ends_known e h).0 (ends_known e h).1 places_same

    kind-drawn : kind_in (quad 0 places u) (quad 0 places v) (quad 1 places u) (quad 1 places v) into out_of columns places u v
        ≡ kind_between c planned u v
    unfolding kind_in kind_between
    kind-drawn =
        let k = ends_known e h in
        rw (l.channels u k.0, l.channels v k.1, l.positions u k.0, l.positions v k.1)
        (kind_picked (eqb (channel_of ls u) (channel_of ls v)) (adjacent? (position_of ls u) (position_of ls v)) _ _ _ _ side_same
        (λ f. ap crossing course-drawn))

    pub mark-drawn : transitive_in? t.longer u v ≡ transitive_edge? c e
    unfolding transitive_edge? transitive? connection_in connects graph_content
    mark-drawn =
        transitive_member t.longer u v ∙ l.longer_pairs u v (ends_known e h).0 (ends_known e h).1
        ∙ sym (both_each (edge? c.tails c.heads u v) further ∙ ap (λ (b : Bool). b && further) (edge_there c l.sound e h))
      where
        further : Bool
        further = longer? (edge? c.tails c.heads) n u v

    -- the kind by candidates is the chart's
    pub kind-among : (size : ℕ) (left : List ℕ) → 2 * n ≤ size → LeftOf size left
        → kind_among (quad 0 places u) (quad 0 places v) (quad 1 places u) (quad 1 places v) into out_of columns places t.below left u v
        ≡ kind_between c planned u v
    kind-among size left room q =
        kind_candidates _ _ _ _ _ _ _ _ (candidates size left room q) u v (ends_known e h).0 (ends_known e h).1 _ _ _ _ ∙ kind-drawn
