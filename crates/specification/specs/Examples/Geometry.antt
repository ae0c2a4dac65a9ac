-- Examples (SPECIFICATION.md, 16.1), by computation.
use Rattle.std.specs.Prelude.{◌≡◌, refl, List, [], ◌∷◌, ℕ, ◌+◌, ◌-◌, get_or}
use Rattle.std.proofs.Common.{arith}
use Rattle.specification.specs.Count.{sum, some}
use Rattle.specification.specs.declared.Course.TheVariants.{Straight, Bent}
use Rattle.specification.specs.Geometry.{Point, point, is_hit, is_blocked, Widths, gap_width, even_gaps, track_at, block_width, block_start}
use Rattle.specification.specs.Geometry.{own_column, bend_beside, course_of}

-- no tracks
abbrev bare : Widths
bare = even_gaps (λ c. 0)

-- vertices by lists of their channels and rows
abbrev in_channels : List ℕ → List ℕ → ℕ → Point
in_channels channels rows v = point (own_column bare (get_or channels v 0)) (get_or rows v 0)

-- P6 and P7: six vertices, the edge 0 → 5
abbrev rows : List ℕ
rows = 0 ∷ 0 ∷ 1 ∷ 0 ∷ 1 ∷ 2 ∷ []

p6 : course_of (in_channels (0 ∷ 1 ∷ 1 ∷ 2 ∷ 2 ∷ 2 ∷ []) rows) 6 0 5 ≡ Bent 2 1
unfolding course_of bend_beside is_blocked is_hit some sum block_start own_column
p6 = refl

p7 : course_of (in_channels (0 ∷ 1 ∷ 2 ∷ 3 ∷ 3 ∷ 3 ∷ []) rows) 6 0 5 ≡ Straight
unfolding course_of bend_beside is_blocked is_hit some sum block_start own_column
p7 = refl

-- a vertex between, and the ends in one column; an end that is no vertex
one_column : course_of (in_channels (2 ∷ 2 ∷ 2 ∷ []) (0 ∷ 1 ∷ 2 ∷ [])) 3 0 2 ≡ Straight
unfolding course_of bend_beside is_blocked is_hit some sum block_start own_column
one_column = refl

no_vertex : course_of (in_channels (0 ∷ 1 ∷ 1 ∷ 2 ∷ 2 ∷ 2 ∷ []) rows) 5 0 5 ≡ Straight
unfolding course_of bend_beside is_blocked is_hit some sum block_start own_column
no_vertex = refl

-- P8: one channel, no tracks
p8_own : own_column bare 0 ≡ 1
unfolding sum block_start own_column
p8_own = refl

p8_width : block_start bare 1 ≡ 3
unfolding sum block_start
p8_width = refl

-- P5: one channel, two tracks
p5_own : own_column (even_gaps (λ c. 2)) 0 ≡ 3
unfolding sum block_start own_column
p5_own = refl

p5_tracks : (track_at (own_column (even_gaps (λ c. 2)) 0) gap_width 0 ≡ 1) × (track_at (own_column (even_gaps (λ c. 2)) 0) gap_width 1 ≡ 0)
unfolding sum block_start own_column
p5_tracks = (refl, refl)

-- a block has s + 3 columns, and track j its column (8.1)
width_said : (tracks : ℕ → ℕ) (c : ℕ) → block_width (even_gaps tracks) c ≡ tracks c + 3
width_said tracks c = omega arith

track_said : (x j : ℕ) → track_at x gap_width j ≡ x - 2 - j
track_said x j = refl

-- gaps of their own on either side
uneven : block_width (record { tracks = λ c. 2; left_gap = λ c. 1; right_gap = λ c. 3 }) 0 ≡ 7
uneven = refl
