-- The entries that a caller reads from the lists of numbers of the exported call (SPECIFICATION.md, 9.4). Assumes nothing.
use Rattle.std.specs.Prelude.{List, ℕ, ◌+◌, ◌*◌, eqb, get_or}
use Rattle.specification.specs.declared.VertexEntry.{VertexEntry}
use Rattle.specification.specs.declared.EdgeEntry.{EdgeEntry}
use Rattle.specification.specs.declared.BundleEntry.{BundleEntry}
use Rattle.specification.specs.Numbers.{word_numbers, arrow_numbers, bundle_numbers}
use Rattle.kinds.specs.Codes.{kind_of}
use Rattle.demands.specs.Demands.{Entries}

-- number f of entry i, of w numbers an entry; 0 past the end
abbrev pub number_at : ℕ → List ℕ → ℕ → ℕ → ℕ
number_at w l i f = get_or l (i * w + f) 0

unfoldable pub vertex_from : List ℕ → ℕ → VertexEntry
vertex_from ws v = record {
  channel = number_at word_numbers ws v 0;
  position = number_at word_numbers ws v 1;
  column = number_at word_numbers ws v 2;
  row = number_at word_numbers ws v 3;
  descendants = number_at word_numbers ws v 4;
  floor = number_at word_numbers ws v 5;
}

-- the kind by its number and values (`kind_of`), and a mark that is 1
unfoldable pub edge_from : List ℕ → ℕ → EdgeEntry
edge_from es e = record {
  number = number_at arrow_numbers es e 0;
  kind = kind_of (number_at arrow_numbers es e 1) (number_at arrow_numbers es e 2) (number_at arrow_numbers es e 3);
  transitive = eqb (number_at arrow_numbers es e 4) 1;
}

unfoldable pub bundle_from : List ℕ → ℕ → BundleEntry
bundle_from bs b = record {
  channel = number_at bundle_numbers bs b 0;
  first_row = number_at bundle_numbers bs b 1;
  last_row = number_at bundle_numbers bs b 2;
  track = number_at bundle_numbers bs b 3;
}

abbrev pub entries_from : List ℕ → List ℕ → List ℕ → Entries
entries_from ws es bs = record { vertex = vertex_from ws; edge = edge_from es; bundle = bundle_from bs }
