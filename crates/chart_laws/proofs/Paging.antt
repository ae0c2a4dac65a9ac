-- Every polyline of a sound graph's chart stands on the page (SPECIFICATION.md, 8.2). Assumes nothing.
use Rattle.counting.proofs.Prelude.{◌≡◌, refl, ◌≢◌, ⊎_elim, List, ℕ, ◌<◌, arith, eqb, eqb-true, eqb-false}
use Rattle.counting.proofs.Truth.{true_or_false}
use Rattle.specification.specs.Channels.{channel_of, position_of}
use Rattle.specification.specs.Checks.{Content, edges_of, Sound}
use Rattle.specification.specs.Bundles.{bundle_of, adjacent?}
use Rattle.specification.specs.Geometry.{gap_width, track_at, course_of}
use Rattle.specification.specs.declared.Course.{Course}
use Rattle.specification.specs.declared.Kind.{Kind}
use Rattle.specification.specs.declared.Kind.TheVariants.{Path, PathTransitive}
use Rattle.specification.specs.Chart.{tail_of, head_of, Plan, channels_of, plan_of, column_in, place_of, crossing, kind_between}
use Rattle.specification.specs.Chart.{vertex_entry}
use Rattle.specification.specs.Chart.{edge_entry, bundle_entry, polyline_of, OnPage, none, more}
use Rattle.specification.specs.declared.Course.TheVariants as course
use Rattle.specification.specs.Limits.{page_columns, page_rows}
use Rattle.geometry.proofs.Crossing.{course-within}
use Rattle.chart_laws.proofs.Rows.{row_paged}
use Rattle.chart_laws.proofs.Columns.{column_below}
use Rattle.chart_laws.proofs.EdgeKinds.{kind-path, kind-side, kind_cross}

module _ (c : Content) (s : Sound c) where
  abbrev n : ℕ
  n = c.vertices

  abbrev ls : List (List ℕ)
  ls = channels_of c

  abbrev p : Plan
  p = plan_of c

  -- the polyline of each kind
  abbrev Paged : ℕ → ℕ → Kind → Type 0
  Paged u v k = OnPage (polyline_of (vertex_entry c p u) (vertex_entry c p v) k (bundle_entry p))

  module _ (u v : ℕ) (hu : u < n) (hv : v < n) where
    left : column_in p u < page_columns
    left = omega (arith, column_below c s u hu)

    right : column_in p v < page_columns
    right = omega (arith, column_below c s v hv)

    path_paged : Paged u v Path
    unfolding polyline_of vertex_entry
    path_paged = more left (row_paged c s u hu) (more right (row_paged c s v hv) none)

    side_paged : (b : ℕ) → Paged u v (PathTransitive b)
    unfolding polyline_of vertex_entry
    side_paged b =
        let x : track_at (column_in p u) gap_width (bundle_entry p b).track < page_columns = omega (arith, left) in
        more left (row_paged c s u hu) (more x (row_paged c s u hu) (more x (row_paged c s v hv) (more right (row_paged c s v hv) none)))

    cross_paged : (r : Course) → course_of (place_of c p) n u v ≡ r → Paged u v (crossing r)
    unfolding polyline_of vertex_entry
    cross_paged course.Straight e = more left (row_paged c s u hu) (more right (row_paged c s v hv) none)
    cross_paged (course.Bent x y) e =
        let w = course-within (place_of c p) n u v page_columns x y left right e in
        let low : y < page_rows = omega (arith, w.1, row_paged c s v hv) in
        more left (row_paged c s u hu) (more w.0 low (more right (row_paged c s v hv) none))

    between_paged : Paged u v (kind_between c p u v)
    between_paged = ⊎_elim
        (λ q.
        let e : channel_of ls u ≡ channel_of ls v = eqb-true _ _ q in
        ⊎_elim
        (λ a. rw (kind-path c u v e a) path_paged)
        (λ a. rw (kind-side c u v e a) (side_paged (bundle_of p.bundles u v)))
        (true_or_false (adjacent? (position_of ls u) (position_of ls v))))
        (λ q. let e : channel_of ls u ≢ channel_of ls v = eqb-false _ _ q in
        rw (kind_cross c u v e) (cross_paged (course_of (place_of c p) n u v) refl))
        (true_or_false (eqb (channel_of ls u) (channel_of ls v)))

  -- ON THE PAGE: no stroke refuses a place of the chart
  pub chart_on_page : (i : ℕ) → i < edges_of c
      → OnPage (polyline_of (vertex_entry c p (tail_of c i)) (vertex_entry c p (head_of c i)) (edge_entry c p i).kind (bundle_entry p))
  unfolding edge_entry
  chart_on_page i l = let b = s.ends i l in between_paged (tail_of c i) (head_of c i) b.0 b.1
