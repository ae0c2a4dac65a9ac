-- The limits, each under one name (SPECIFICATION.md, Limits). Assumes nothing.
use Rattle.std.specs.Prelude.{ℕ, ◌+◌, ◌*◌}

-- vertices of a graph
abbrev pub most_vertices : ℕ
most_vertices = 128

-- edges of a graph
abbrev pub most_edges : ℕ
most_edges = 4096

-- channels (lines) of a chart: an app has room for no more beside each other
abbrev pub most_channels : ℕ
most_channels = 31

-- bytes of a record
abbrev pub most_bytes : ℕ
most_bytes = 65535

-- bytes of a record in the fixed form: fields of a vertex count, of the edges, of the given channels, at most a length and a vertex for
-- each vertex, and of the floors
abbrev pub most_written : ℕ
most_written = 4 + (3 + 2 * most_edges) + (3 + 2 * most_vertices) + (3 + most_vertices)

-- columns of a page
abbrev pub page_columns : ℕ
page_columns = 640

-- the floor of a vertex, which is the lowest row that it may have
abbrev pub most_floor : ℕ
most_floor = 127

-- vertices of a path
abbrev pub longest_path : ℕ
longest_path = most_vertices

-- rows of a page, and so of a chart: the longest path may begin at the highest floor
abbrev pub page_rows : ℕ
page_rows = most_floor + longest_path

-- the highest number of a row, which is a byte
abbrev pub highest_row : ℕ
highest_row = 255

-- the numbers that a row can have
abbrev pub row_numbers : ℕ
row_numbers = highest_row + 1

-- bundles: two a vertex
abbrev pub most_bundles : ℕ
most_bundles = 2 * most_vertices

-- bits of a mask
abbrev pub mask_bits : ℕ
mask_bits = 64

-- masks of a table by value: two a vertex
abbrev pub table_masks : ℕ
table_masks = 2 * most_vertices
