-- The kind of an edge by its ends' places and bundles. Assumes nothing.
use Rattle.std.specs.Prelude.{Bool, not, ◌&&◌, List, ℕ, ◌+◌, min, max, eqb, ltb}
use Rattle.counting.specs.Quads.{quad}
use Rattle.specification.specs.Count.{choose}
use Rattle.specification.specs.Sets.{has?}
use Rattle.geometry.specs.Segment.{point_of, vertex_count}
use Rattle.specification.specs.Geometry.{course_of, course_among}
use Rattle.specification.specs.Bundles.{adjacent?}
use Rattle.specification.specs.Chart.{crossing}
use Rattle.specification.specs.declared.Kind.{Kind}
use Rattle.specification.specs.declared.Kind.TheVariants.{Path, PathTransitive}

-- the kind of the edge from u, in channel c at position p, to v, in channel d at position q; `into` is the bundle of the edges into v, and
-- `out_of` that of those out of u. Of four numbers a vertex in `places` the third is its row
unfoldable pub kind_in : ℕ → ℕ → ℕ → ℕ → ℕ → ℕ → List ℕ → List ℕ → ℕ → ℕ → Kind
kind_in c d p q into out_of columns places u v =
    choose (eqb c d)
    (λ _. choose (adjacent? p q) (λ _. Path) (λ _. PathTransitive (min into out_of)))
    (λ _. crossing (course_of (point_of columns places) (vertex_count columns places) u v))

-- ---- the same by candidates

-- of a table of sets by key: w is in set b and not in set a + 1, so that its key is strictly between a and b
abbrev pub strictly? : List ℕ → ℕ → ℕ → ℕ → Bool
strictly? sets a b w = has? 2 sets b w && not (has? 2 sets (a + 1) w)

-- vertex w can be in the way from row a and channel c to row b and channel d, by the sets of the vertices below each row and left of
-- each channel; the sets, of two masks, have vertices below 128
unfoldable pub candidate? : List ℕ → List ℕ → ℕ → ℕ → ℕ → ℕ → ℕ → Bool
candidate? below left a b c d w = ltb w 128 && (strictly? below a b w && strictly? left (min c d) (max c d) w)

unfoldable pub kind_among : ℕ → ℕ → ℕ → ℕ → ℕ → ℕ → List ℕ → List ℕ → List ℕ → List ℕ → ℕ → ℕ → Kind
kind_among c d p q into out_of columns places below left u v =
    choose (eqb c d)
    (λ _. choose (adjacent? p q) (λ _. Path) (λ _. PathTransitive (min into out_of)))
    (λ _. crossing (course_among (candidate? below left (quad 2 places u) (quad 2 places v) c d)
    (point_of columns places) (vertex_count columns places) u v))
