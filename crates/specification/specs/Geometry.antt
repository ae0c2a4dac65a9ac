-- Points, segments, columns by blocks and courses (SPECIFICATION.md, 8). Assumes nothing.
use Rattle.std.specs.Prelude.{◌≡◌, Bool, true, false, ◌&&◌, List, ◌∷◌, [], ℕ, ◌+◌, ◌*◌, ◌<◌, ◌-◌, ◌≢◌, eqb, ltb}
use Rattle.specification.specs.Count.{sum, some, choose}
use Rattle.specification.specs.declared.Course.{Course}
use Rattle.specification.specs.declared.Course.TheVariants.{Straight, Bent}

pub record Point : Type 0 where
  pub column : ℕ
  pub row : ℕ

abbrev pub point : ℕ → ℕ → Point
point x y = record { column = x; row = y }

-- p lies on the closed segment from a to b: some fraction of the way, part / (rest + part), leads from a to p.
pub record On (a b p : Point) : Type 0 where
  pub rest : ℕ
  pub part : ℕ
  pub some_way : 0 < rest + part
  pub across : (rest + part) * p.column ≡ rest * a.column + part * b.column
  pub along : (rest + part) * p.row ≡ rest * a.row + part * b.row

-- p lies strictly inside the segment: on it, and at neither end.
pub record Inside (a b p : Point) : Type 0 where
  pub on : On a b p
  pub not_tail : p ≡ a → ⊥
  pub not_head : p ≡ b → ⊥

-- A polyline meets p where one of its segments does.
pub data Meets : List Point → Point → Type 0 where
  here : {a b p : Point} {l : List Point} → On a b p → Meets (a ∷ b ∷ l) p
  later : {a b p : Point} {l : List Point} → Meets (b ∷ l) p → Meets (a ∷ b ∷ l) p

-- The segment from a to b rises, and p lies strictly inside it.
pub record Hit (a b p : Point) : Type 0 where
  pub rises : a.row < b.row
  pub inside : Inside a b p

-- Both ends are vertices, and some vertex lies strictly inside the segment that rises from u to v; vertices are the numbers below n.
pub record Blocked (at : ℕ → Point) (n u v : ℕ) : Type 0 where
  pub tail : u < n
  pub head : v < n
  pub vertex : ℕ
  pub known : vertex < n
  pub hit : Hit (at u) (at v) (at vertex)

-- That vertex is a candidate.
pub record BlockedAmong (candidate : ℕ → Bool) (at : ℕ → Point) (n u v : ℕ) : Type 0 where
  pub blocked : Blocked at n u v
  pub among : candidate blocked.vertex ≡ true

-- The parts of each channel's block: how many tracks, and how many columns on either side of the channel's own column are
-- kept free for bends.
pub record Widths : Type 0 where
  pub tracks : ℕ → ℕ
  pub left_gap : ℕ → ℕ
  pub right_gap : ℕ → ℕ

-- The gaps (8.1).
abbrev pub gap_width : ℕ
gap_width = 1

abbrev pub even_gaps : (ℕ → ℕ) → Widths
even_gaps tracks = record { tracks = tracks; left_gap = λ c. gap_width; right_gap = λ c. gap_width }

-- Column of track j beside an own column x: left of the gap, leftwards.
abbrev pub track_at : ℕ → ℕ → ℕ → ℕ
track_at x gap j = x - (gap + 1) - j

-- The layout: blocks from column 0, each with the channel's tracks, a gap, its own column, a gap.
abbrev pub block_width : Widths → ℕ → ℕ
block_width W c = W.tracks c + W.left_gap c + 1 + W.right_gap c

-- first column of channel c's block, and so the width of the first c blocks
unfoldable pub block_start : Widths → ℕ → ℕ
block_start W c = sum c (block_width W)

unfoldable pub own_column : Widths → ℕ → ℕ
own_column W c = block_start W c + W.tracks c + W.left_gap c

-- No vertex below n meets the polyline of the edge u → v but u and v.
pub record Clear (n : ℕ) (at : ℕ → Point) (u v : ℕ) (polyline : List Point) : Type 0 where
  pub clear : (w : ℕ) → w < n → w ≢ u → w ≢ v → Meets polyline (at w) → ⊥

abbrev pub straight : Point → Point → List Point
straight a b = a ∷ b ∷ []

-- the row below the head's, in which an edge to it bends
abbrev pub bend_row : Point → ℕ
bend_row b = b.row - 1

-- level to column x, up, level
abbrev pub by_track : Point → Point → ℕ → List Point
by_track a b x = a ∷ point x a.row ∷ point x b.row ∷ b ∷ []

-- r answers whether P holds
pub record Decides (r : Bool) (P : Type 0) : Type 0 where
  pub holds : r ≡ true → P
  pub fails : r ≡ false → P → ⊥

-- (px − ax) (by − ay) = (bx − ax) (py − ay), with each product on the side where it is added
abbrev pub left : ℕ → ℕ → ℕ → ℕ → ℕ → ℕ → ℕ
left ax ay bx by px py = (px * by + ax * ay) + (bx * ay + ax * py)

abbrev pub right : ℕ → ℕ → ℕ → ℕ → ℕ → ℕ → ℕ
right ax ay bx by px py = (bx * py + ax * ay) + (px * ay + ax * by)

abbrev pub aligned : ℕ → ℕ → ℕ → ℕ → ℕ → ℕ → Bool
aligned ax ay bx by px py = eqb (left ax ay bx by px py) (right ax ay bx by px py)

-- whether `Hit a b p`
unfoldable pub is_hit : Point → Point → Point → Bool
is_hit a b p =
    (ltb a.row p.row && ltb p.row b.row) && aligned a.column a.row b.column b.row p.column p.row

-- whether `Blocked at n u v`
unfoldable pub is_blocked : (ℕ → Point) → ℕ → ℕ → ℕ → Bool
is_blocked at n u v = (ltb u n && ltb v n) && some n (λ w. is_hit (at u) (at v) (at w))

-- whether `BlockedAmong candidate at n u v`
unfoldable pub is_blocked_among : (ℕ → Bool) → (ℕ → Point) → ℕ → ℕ → ℕ → Bool
is_blocked_among candidate at n u v = (ltb u n && ltb v n) && some n (λ w. candidate w && is_hit (at u) (at v) (at w))

-- Columns from an own column to the bends beside it.
abbrev pub bend_offset : ℕ
bend_offset = 1

-- One bend in a row, beside column x on the side of column z. Equal columns have no side: straight.
unfoldable pub bend_beside : ℕ → ℕ → ℕ → Course
bend_beside x z row =
    choose (ltb x z) (λ _. Bent (x + bend_offset) row) (λ _. choose (ltb z x) (λ _. Bent (x - bend_offset) row) (λ _. Straight))

-- Straight, unless a vertex is in the way; then with one bend.
unfoldable pub course_of : (ℕ → Point) → ℕ → ℕ → ℕ → Course
course_of at n u v = choose (is_blocked at n u v) (λ _. bend_beside (at u).column (at v).column (bend_row (at v))) (λ _. Straight)

-- The same where only candidates count as in the way.
unfoldable pub course_among : (ℕ → Bool) → (ℕ → Point) → ℕ → ℕ → ℕ → Course
course_among candidate at n u v =
    choose (is_blocked_among candidate at n u v) (λ _. bend_beside (at u).column (at v).column (bend_row (at v))) (λ _. Straight)
