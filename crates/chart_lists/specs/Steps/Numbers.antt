-- The entries that tables have. Assumes nothing.
use Rattle.std.specs.Prelude.{Bool, List, ℕ, ◌+◌, ◌*◌, ◌≤◌, ◌<◌, length, get_or}
use Rattle.counting.specs.Quads.{quad}
use Rattle.specification.specs.Checks.{floor_at}
use Rattle.specification.specs.Limits.{most_vertices, most_edges}
use Rattle.specification.specs.declared.Kind.{Kind}
use Rattle.specification.specs.declared.VertexEntry.{VertexEntry}
use Rattle.specification.specs.declared.EdgeEntry.{EdgeEntry}
use Rattle.specification.specs.declared.BundleEntry.{BundleEntry}
use Rattle.reduction.specs.Reduction.{transitive_in?}
use Rattle.kinds.specs.Kinds.{kind_among}

unfoldable pub word_from : List ℕ → List ℕ → Bool → List ℕ → ℕ → VertexEntry
word_from places column floored floors v = record {
  channel = quad 0 places v;
  position = quad 1 places v;
  column = get_or column v 0;
  row = quad 2 places v;
  descendants = quad 3 places v;
  floor = floor_at floored floors v;
}

unfoldable pub bundle_from : List ℕ → ℕ → BundleEntry
bundle_from spans b = record {
  channel = quad 0 spans b;
  first_row = quad 1 spans b;
  last_row = quad 2 spans b;
  track = quad 3 spans b;
}

-- what edges are made from: two bytes an edge, the pairs with a vertex between, the places and the bundles of their ends (into a vertex and
-- out of it, in turn), and the sets of the vertices below each row and left of each channel
pub record Given : Type 0 where
  pub ends : List ℕ
  pub longer : List ℕ
  pub places : List ℕ
  pub number : List ℕ
  pub columns : List ℕ
  pub below : List ℕ
  pub left : List ℕ

abbrev pub given : List ℕ → List ℕ → List ℕ → List ℕ → List ℕ → List ℕ → List ℕ → Given
given ends longer places number columns below left = record {
  ends = ends;
  longer = longer;
  places = places;
  number = number;
  columns = columns;
  below = below;
  left = left;
}

module _ (g : Given) where
  abbrev pub tail_at : ℕ → ℕ
  tail_at e = get_or g.ends (2 * e) 0

  abbrev pub head_at : ℕ → ℕ
  head_at e = get_or g.ends (2 * e + 1) 0

  unfoldable pub kind_at : ℕ → Kind
  kind_at e =
      kind_among (quad 0 g.places (tail_at e)) (quad 0 g.places (head_at e)) (quad 1 g.places (tail_at e))
      (quad 1 g.places (head_at e))
      (get_or g.number (2 * head_at e) 0) (get_or g.number (2 * tail_at e + 1) 0) g.columns g.places g.below g.left (tail_at e)
      (head_at e)

  unfoldable pub arrow_from : ℕ → EdgeEntry
  arrow_from e = record { number = e; kind = kind_at e; transitive = transitive_in? g.longer (tail_at e) (head_at e) }

  -- edge e has two bytes, which are vertices, and the tables have an entry for each: two masks, a place and two bundles
  pub record Ready (e : ℕ) : Type 0 where
    pub few : e < most_edges
    pub ends : 2 * e + 2 ≤ length g.ends
    pub low : (tail_at e < most_vertices) × (head_at e < most_vertices)
    pub longer : (2 * tail_at e + 2 ≤ length g.longer) × (2 * head_at e + 2 ≤ length g.longer)
    pub places : (4 * tail_at e + 4 ≤ length g.places) × (4 * head_at e + 4 ≤ length g.places)
    pub number : (2 * tail_at e + 2 ≤ length g.number) × (2 * head_at e + 2 ≤ length g.number)
