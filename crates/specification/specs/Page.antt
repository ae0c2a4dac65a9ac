-- The page, places on it and polylines (strokes; SPECIFICATION.md, 12). Assumes nothing.
use Rattle.std.specs.Prelude.{◌≡◌, Bool, true, false, ◌||◌, List, [], ◌∷◌, map, ℕ, ◌*◌, leb, Float}
use Rattle.std.specs.Float.{binary32}
use Rattle.std.specs.Float.Ieee.{round}
use Rattle.std.specs.Float.Ieee.Exact.{HasValue}
use Rattle.specification.specs.Limits.{page_columns, page_rows}
use Rattle.specification.specs.declared.Cell.{Cell}
use Rattle.specification.specs.declared.Point.{Point}
use Rattle.specification.specs.declared.Polyline.{Polyline}
use Rattle.specification.specs.declared.Polyline.TheVariants.{Straight, Bent, Side, OffPage}

-- the pitches in quarter points, and the quarter points of a point
abbrev pub column_pitch : ℕ
column_pitch = 42

abbrev pub row_pitch : ℕ
row_pitch = 113

abbrev pub per_point : ℕ
per_point = 4

-- n quarter points in points: the f32 nearest to n / 4
unfoldable pub to_points : ℕ → Float
to_points n = round binary32 false n per_point

-- the point (page place) of a cell (12.1)
abbrev pub point_of : Cell → Point
point_of c = record { x = to_points (c.column * column_pitch); y = to_points (c.row * row_pitch) }

-- p is at c: each coordinate is finite, not negative nor -0, and a whole number of quarters exactly
pub record At (c : Cell) (p : Point) : Type 0 where
  pub across : HasValue p.x false (c.column * column_pitch) per_point
  pub up : HasValue p.y false (c.row * row_pitch) per_point

-- as many points as cells, each at its cell
abbrev pub AllAt : List Cell → List Point → Type 0
AllAt [] [] = Unit {0}
AllAt [] (p ∷ ps) = ⊥
AllAt (c ∷ cs) [] = ⊥
AllAt (c ∷ cs) (p ∷ ps) = At c p × AllAt cs ps

-- what a polyline says: its number, 0 where nothing is refused, and the points in order
pub record Answer : Type 0 where
  pub number : ℕ
  pub points : List Point

abbrev pub accepted : List Point → Answer
accepted ps = record { number = 0; points = ps }

-- 10 'off page' (12.2)
abbrev pub refused : Answer
refused = record { number = 10; points = [] }

-- the number and the points of each case (12.2)
abbrev pub answer_of : Polyline → Answer
answer_of (Straight p q) = accepted (p ∷ q ∷ [])
answer_of (Bent p q r) = accepted (p ∷ q ∷ r ∷ [])
answer_of (Side p q r s) = accepted (p ∷ q ∷ r ∷ s ∷ [])
answer_of OffPage = refused

-- a cell whose column or row is beyond the page, and a list with such a cell
abbrev pub off_page : Cell → Bool
off_page c = leb page_columns c.column || leb page_rows c.row

abbrev pub any_off : List Cell → Bool
any_off [] = false
any_off (c ∷ cs) = off_page c || any_off cs

-- what is right for cells: refused where any of them is off the page, else their points
abbrev pub refuse_if : Bool → Answer → Answer
refuse_if true a = refused
refuse_if false a = a

abbrev pub answer_for : List Cell → Answer
answer_for cs = refuse_if (any_off cs) (accepted (map point_of cs))

-- the promise of a call on the cells cs that gives r
pub record Answers (cs : List Cell) (r : Polyline) : Type 0 where
  pub answer : answer_of r ≡ answer_for cs
  pub exact : (answer_of r).number ≡ 0 → AllAt cs (answer_of r).points
