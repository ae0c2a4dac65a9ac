-- Polylines as numbers (SPECIFICATION.md, 12 and 14.4). Assumes nothing.
use Rattle.std.specs.Prelude.{refl, false, ℕ, Float, length, get_or}
use Rattle.std.specs.Float.{binary32}
use Rattle.std.specs.Float.Ieee.{of_bits}
use Rattle.std.specs.Float.Ieee.Exact.{HasValue}
use Rattle.specification.specs.Page.{Answer}
use Rattle.specification.specs.declared.Cell.{Cell}
use Rattle.specification.specs.declared.Point.{Point}
use Rattle.specification.specs.declared.Stroke.{Stroke}

abbrev pub cell : ℕ → ℕ → Cell
cell c r = record { column = c; row = r }

-- 0.0, of which every bit is 0
abbrev pub nought : Float
nought = of_bits binary32 0

nought_is_0 : HasValue nought false 0 1
unfolding of_bits
nought_is_0 = (refl, refl)

-- stands for a point that a stroke has not
abbrev pub origin : Point
origin = record { x = nought; y = nought }

abbrev pub joined_at : ℕ → ℕ → Point → Point → Point → Point → Stroke
joined_at refusal points a b c d = record {
  refusal = refusal;
  points = points;
  x0 = a.x;
  y0 = a.y;
  x1 = b.x;
  y1 = b.y;
  x2 = c.x;
  y2 = c.y;
  x3 = d.x;
  y3 = d.y;
}

-- an answer of at most four points, as numbers
abbrev pub stroke_for : Answer → Stroke
stroke_for a =
    joined_at a.number (length a.points) (get_or a.points 0 origin) (get_or a.points 1 origin) (get_or a.points 2 origin)
    (get_or a.points 3 origin)
