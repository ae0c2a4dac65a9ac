-- No edge of a sound graph's chart is drawn through a vertex. Assumes nothing.
use Rattle.counting.proofs.Prelude.{◌≡◌, refl, sym, ◌≢◌, ⊎_elim, true, false, List, ℕ, ◌+◌, ◌<◌, arith, eqb, eqb-true, eqb-false}
use Rattle.counting.proofs.Truth.{true_or_false, or_elim}
use Rattle.specification.specs.Graph.{edge?}
use Rattle.specification.specs.Channels.{channel_of, position_of}
use Rattle.specification.specs.Checks.{Content, edges_of, Sound}
use Rattle.specification.specs.Bundles.{bundle_of, adjacent?}
use Rattle.specification.specs.Geometry.{Point, own_column, Clear, course_of}
use Rattle.specification.specs.declared.Course.{Course}
use Rattle.specification.specs.declared.Kind.{Kind}
use Rattle.specification.specs.declared.Kind.TheVariants.{Path, PathTransitive}
use Rattle.specification.specs.Chart.{row_of, tail_of, head_of, Plan, channels_of, tracked, bundled, plan_of, widths, column_in, place_of}
use Rattle.specification.specs.Chart.{crossing, kind_between, vertex_entry, edge_entry, bundle_entry, polyline_of}
use Rattle.specification.specs.declared.Course.TheVariants as course
use Rattle.geometry.specs.Placement.{Placement}
use Rattle.geometry.specs.Polylines.{Drawn, path, track}
use Rattle.geometry.specs.Courses as courses
use Rattle.geometry.proofs.Blocks.{blocks-placement}
use Rattle.geometry.proofs.Clear.{drawn-clear}
use Rattle.geometry.proofs.Crossing.{course-drawn}
use Rattle.chart_laws.proofs.Leading.{edge_there}
use Rattle.chart_laws.proofs.Channels.{channels_divide}
use Rattle.chart_laws.proofs.Rows.{leads_rises, edge_rises}
use Rattle.chart_laws.proofs.Bundling.{side_edge, side_track}
use Rattle.chart_laws.proofs.Columns.{column_own}
use Rattle.chart_laws.proofs.EdgeKinds.{kind-path, kind-side, kind_cross}

module _ (c : Content) (s : Sound c) where
  abbrev n : ℕ
  n = c.vertices

  abbrev ls : List (List ℕ)
  ls = channels_of c

  abbrev p : Plan
  p = plan_of c

  -- vertices stand on their channels' columns, in rows that rise along each channel
  pub chart_placement : Placement n (place_of c p) (channel_of ls) (position_of ls) (own_column (widths p)) (widths p)
  chart_placement =
      blocks-placement (widths p) n (place_of c p) (channel_of ls) (position_of ls)
      (λ v h. column_own c s v)
      (channels_divide c s).apart
      (λ u v hu hv e l. leads_rises c s u v ((channels_divide c s).later u v hu hv e l))

  -- ---- each kind is drawn

  abbrev line : ℕ → ℕ → Kind → List Point
  line u v k = polyline_of (vertex_entry c p u) (vertex_entry c p v) k (bundle_entry p)

  abbrev DrawnBy : ℕ → ℕ → Kind → Type 0
  DrawnBy u v k = Drawn n (place_of c p) (channel_of ls) (position_of ls) (own_column (widths p)) (widths p) u v (line u v k)

  -- a cross edge is drawn by its course
  line-crossing : (u v : ℕ) (r : Course) → line u v (crossing r) ≡ courses.polyline_of r (place_of c p u) (place_of c p v)
  unfolding polyline_of vertex_entry
  line-crossing u v course.Straight = refl
  line-crossing u v (course.Bent x y) = refl

  module _ (u v : ℕ) (hu : u < n) (hv : v < n) (edge : edge? c.tails c.heads u v ≡ true) (rise : row_of c u < row_of c v) where
    -- of neighbours the head stands later, since rows rise
    next : channel_of ls u ≡ channel_of ls v → adjacent? (position_of ls u) (position_of ls v) ≡ true
        → position_of ls v ≡ position_of ls u + 1
    unfolding adjacent?
    next e a = ⊎_elim
        (λ q. sym (eqb-true _ _ q))
        (λ q.
        let b : position_of ls v + 1 ≡ position_of ls u = eqb-true _ _ q in
        absurd (omega (arith, leads_rises c s v u ((channels_divide c s).later v u hv hu (sym e) (omega arith)))))
        (or_elim (eqb (position_of ls u + 1) (position_of ls v)) (eqb (position_of ls v + 1) (position_of ls u)) a)

    path-drawn : channel_of ls u ≡ channel_of ls v → adjacent? (position_of ls u) (position_of ls v) ≡ true → DrawnBy u v Path
    unfolding polyline_of vertex_entry
    path-drawn e a = path e (next e a)

    side-drawn : channel_of ls u ≡ channel_of ls v → adjacent? (position_of ls u) (position_of ls v) ≡ false
        → DrawnBy u v (PathTransitive (bundle_of p.bundles u v))
    unfolding plan_of bundled tracked column_in polyline_of vertex_entry bundle_entry
    side-drawn e a = track _ e (side_track c s u v (side_edge c s u v edge hu hv e a))

    cross_drawn : channel_of ls u ≢ channel_of ls v → DrawnBy u v (crossing (course_of (place_of c p) n u v))
    cross_drawn e =
        rw (line-crossing u v (course_of (place_of c p) n u v))
        (course-drawn n (place_of c p) (channel_of ls) (position_of ls) (own_column (widths p)) (widths p) chart_placement u v hu hv e
        (omega arith) (omega arith))

    pub edge_drawn : DrawnBy u v (kind_between c p u v)
    edge_drawn = ⊎_elim
        (λ q.
        let e : channel_of ls u ≡ channel_of ls v = eqb-true _ _ q in
        ⊎_elim
        (λ a. rw (kind-path c u v e a) (path-drawn e a))
        (λ a. rw (kind-side c u v e a) (side-drawn e a))
        (true_or_false (adjacent? (position_of ls u) (position_of ls v))))
        (λ q. let e : channel_of ls u ≢ channel_of ls v = eqb-false _ _ q in rw (kind_cross c u v e) (cross_drawn e))
        (true_or_false (eqb (channel_of ls u) (channel_of ls v)))

  -- CLEAR: no vertex but its ends meets the polyline that the entries give of an edge
  pub chart_clear : (i : ℕ) → i < edges_of c
      → Clear n (place_of c p) (tail_of c i) (head_of c i)
      (polyline_of (vertex_entry c p (tail_of c i)) (vertex_entry c p (head_of c i)) (edge_entry c p i).kind (bundle_entry p))
  unfolding edge_entry
  chart_clear i l =
      let b = s.ends i l in
      drawn-clear n (place_of c p) (channel_of ls) (position_of ls) (own_column (widths p)) (widths p) chart_placement (tail_of c i)
      (head_of c i)
      _ b.0 b.1
      (edge_rises c s i l)
      (edge_drawn (tail_of c i) (head_of c i) b.0 b.1 (edge_there c s i l) (edge_rises c s i l))
