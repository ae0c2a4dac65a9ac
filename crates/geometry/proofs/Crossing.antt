-- The course of a cross edge, and that it meets no vertex but its ends. Assumes nothing.
use Rattle.counting.proofs.Prelude.{◌≡◌, sym, ◌∙◌, subst, ◌≢◌, ℕ, ◌+◌, ◌-◌, ◌≤◌, ◌<◌, arith, lt-ltb, le-ltb}
use Rattle.specification.specs.declared.Course.{Course}
use Rattle.specification.specs.declared.Course.TheVariants.{Straight, Bent}
use Rattle.specification.specs.Geometry.{Point, Blocked, Widths, bend_row, bend_offset, bend_beside, course_of}
use Rattle.geometry.specs.Placement.{Placement}
use Rattle.geometry.specs.Polylines.{bent, Drawn, cross, bend_right, bend_left}
use Rattle.geometry.specs.Courses.{polyline_of}
use Rattle.geometry.proofs.Segments.{hit_rise}
use Rattle.geometry.proofs.Tests.{is_blocked_true, is_blocked_false, blocked_or_free}
use Rattle.geometry.proofs.Blocks.{lower-or_higher}

-- ---- the bend, by the order of the columns

module _ (x z row : ℕ) where
  pub bend_beside-right : x < z → bend_beside x z row ≡ Bent (x + bend_offset) row
  unfolding bend_beside
  bend_beside-right h = simp (lt-ltb _ _ h)

  pub bend_beside-left : z < x → bend_beside x z row ≡ Bent (x - bend_offset) row
  unfolding bend_beside
  bend_beside-left h = simp (le-ltb x z (omega arith), lt-ltb z x h)

  pub bend_beside_none : x ≤ z → z ≤ x → bend_beside x z row ≡ Straight
  unfolding bend_beside
  bend_beside_none h k = simp (le-ltb x z k, le-ltb z x h)

  -- a bend stands within the columns of the ends
  bend_within : (m p q : ℕ) → x < m → z < m → bend_beside x z row ≡ Bent p q → (p < m) × (q ≡ row)
  bend_within m p q hx hz e =
      lower-or_higher x z
      (λ l. let f = bend_beside-right l in let a : p ≡ x + bend_offset = cc in (omega arith, cc))
      (λ l. let f = bend_beside_none (omega arith) (omega arith) in let a : ◌≡◌ {A = ℕ} 0 1 = cc in absurd (omega arith))
      (λ l. let f = bend_beside-left l in let a : p ≡ x - bend_offset = cc in (omega arith, cc))

-- ---- the course, by whether a vertex is in the way

module _ (at : ℕ → Point) (n u v : ℕ) where
  pub course_blocked : Blocked at n u v → course_of at n u v ≡ bend_beside (at u).column (at v).column (bend_row (at v))
  unfolding course_of
  course_blocked b = rw (is_blocked_true at n u v b)

  pub course_free : (Blocked at n u v → ⊥) → course_of at n u v ≡ Straight
  unfolding course_of
  course_free f = rw (is_blocked_false at n u v f)

  -- A bend stands within the columns of the ends, and below the head.
  pub course-within : (m x y : ℕ) → (at u).column < m → (at v).column < m → course_of at n u v ≡ Bent x y → (x < m) × (y < (at v).row)
  course-within m x y hu hv e =
      blocked_or_free at n u v
      (λ b. let w = bend_within _ _ _ m x y hu hv (sym (course_blocked b) ∙ e) in (w.0, omega (arith, w.1, hit_rise b.hit)))
      (λ f. let s = course_free f in let a : ◌≡◌ {A = ℕ} 0 1 = cc in absurd (omega arith))

-- ---- the theorem for the course, wherever bends have a gap to stand in

module _ (n : ℕ) (at : ℕ → Point) (channel position own : ℕ → ℕ) (W : Widths) (P : Placement n at channel position own W) where
  module _ (u v : ℕ) (hu : u < n) (hv : v < n) (apart : channel u ≢ channel v) (lefts : 0 < W.left_gap (channel u))
      (rights : 0 < W.right_gap (channel u)) where
    abbrev Course-drawn : Course → Type 0
    Course-drawn r = Drawn n at channel position own W u v (polyline_of r (at u) (at v))

    -- a bend is told by the tail's column or by its channel's own column, which are the same
    beside : (f : ℕ → ℕ) → Drawn n at channel position own W u v (bent (at u) (at v) (f (own (channel u))))
        → Drawn n at channel position own W u v (bent (at u) (at v) (f (at u).column))
    beside f = subst (λ (x : ℕ). Drawn n at channel position own W u v (bent (at u) (at v) (f x))) (sym (P.on_own u hu))

    bend_drawn : Blocked at n u v → Course-drawn (bend_beside (at u).column (at v).column (bend_row (at v)))
    bend_drawn b =
        let here = P.on_own u hu in
        let there = P.on_own v hv in
        lower-or_higher (at u).column (at v).column
        (λ l. rw (bend_beside-right _ _ _ l) (beside (λ (x : ℕ). x + bend_offset) (bend_right 0 rights b (omega arith))))
        (λ e. absurd (apart (P.own_differ u v hu hv (sym here ∙ e ∙ there))))
        (λ l. rw (bend_beside-left _ _ _ l) (beside (λ (x : ℕ). x - bend_offset) (bend_left 0 lefts b (omega arith))))

    -- The course of a cross edge is one of the polylines by which edges are drawn.
    pub course-drawn : Course-drawn (course_of at n u v)
    course-drawn =
        blocked_or_free at n u v
        (λ b. rw (course_blocked at n u v b) (bend_drawn b))
        (λ f. rw (course_free at n u v f) (cross apart f))
