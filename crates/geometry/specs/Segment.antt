-- A vertex of a mask inside a segment, and vertices' points by lists; segments themselves are in specification/specs/Geometry.
use Rattle.std.specs.Prelude.{List, ℕ, ◌/◌, min, length, get_or}
use Rattle.counting.specs.Quads.{quad}
use Rattle.specification.specs.Geometry.{Point, point}

-- Vertex v's point, by lists of columns and of places, four numbers a vertex, of which the third is its row.
abbrev pub point_of : List ℕ → List ℕ → ℕ → Point
point_of columns places v = point (get_or columns v 0) (quad 2 places v)

-- The vertices are those that both lists have.
abbrev pub vertex_count : List ℕ → List ℕ → ℕ
vertex_count columns places = min (length columns) (length places / 4)
