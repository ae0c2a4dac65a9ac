-- The entries of the lists, by a sheet, the ends of the edges and the floors. Assumes nothing.
use Rattle.std.specs.Prelude.{Bool, not, List, ℕ, ◌+◌, ◌*◌, min, get_or, take}
use Rattle.counting.specs.Quads.{quad}
use Rattle.specification.specs.Limits.{most_vertices}
use Rattle.specification.specs.declared.Kind.{Kind}
use Rattle.specification.specs.declared.VertexEntry.{VertexEntry}
use Rattle.specification.specs.declared.EdgeEntry.{EdgeEntry}
use Rattle.specification.specs.declared.BundleEntry.{BundleEntry}
use Rattle.reduction.specs.Reduction.{transitive_in?}
use Rattle.kinds.specs.Kinds.{kind_among}
use Rattle.chart_entries.specs.Steps.Sheet.{Sheet}

-- a vertex past the last floor has 0
unfoldable pub vertex_at : Sheet → List ℕ → ℕ → VertexEntry
vertex_at d floors v = record {
  channel = quad 0 d.places v;
  position = quad 1 d.places v;
  column = get_or d.column v 0;
  row = quad 2 d.places v;
  descendants = quad 3 d.places v;
  floor = get_or floors v 0;
}

-- of the edge from u to v, by tables of the vertices; the bundle of the edges into v is at 2 v, that of the edges out of u at 2 u + 1
abbrev pub kind_by : List ℕ → List ℕ → List ℕ → List ℕ → List ℕ → ℕ → ℕ → Kind
kind_by number columns places below left u v =
    kind_among (quad 0 places u) (quad 0 places v) (quad 1 places u) (quad 1 places v)
    (get_or number (2 * v) 0) (get_or number (2 * u + 1) 0) columns places below left u v

-- .. by a sheet, whose tables have 128 vertices
unfoldable pub kind_at : Sheet → ℕ → ℕ → Kind
kind_at d u v = kind_by d.number (take (min d.vertices most_vertices) d.column) d.places d.below d.left u v

-- edge e has its tail at byte 2 e and its head after it
unfoldable pub edge_at : Sheet → List ℕ → ℕ → EdgeEntry
edge_at d ends e = record {
  number = e;
  kind = kind_at d (get_or ends (2 * e) 0) (get_or ends (2 * e + 1) 0);
  transitive = transitive_in? d.longer (get_or ends (2 * e) 0) (get_or ends (2 * e + 1) 0);
}

unfoldable pub bundle_at : Sheet → ℕ → BundleEntry
bundle_at d b = record {
  channel = quad 0 d.spans b;
  first_row = quad 1 d.spans b;
  last_row = quad 2 d.spans b;
  track = quad 3 d.spans b;
}

-- whether an edge's entry has it reduced
abbrev pub reduced? : EdgeEntry → Bool
reduced? x = not x.transitive
