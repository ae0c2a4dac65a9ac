-- What the private steps leave behind. Assumes nothing.
use Rattle.std.specs.Prelude.{◌≡◌, Bool, ◌&&◌, List, ℕ, ◌*◌, ◌≤◌, ◌<◌, length, get_or, replicate, leb}
use Rattle.counting.specs.Quads.{quad}
use Rattle.specification.specs.Geometry.{Widths, even_gaps, block_start, own_column}
use Rattle.specification.specs.Limits.{page_columns, most_vertices}
use Rattle.specification.specs.Checks.{refusal_of}
use Rattle.record.specs.Checked.{Checked, Passes}
use Rattle.specification.specs.Drawn.{graph_content}
use Rattle.chart_plan.specs.Laid.{Plan, lists, Roomy, Laid}

-- the first j entries of a table are those of f, and the others as they were
pub record Tabled (was : List ℕ) (f : ℕ → ℕ) (j : ℕ) (t : List ℕ) : Type 0 where
  pub long : length t ≡ length was
  pub made : (i : ℕ) → i < j → get_or t i 0 ≡ f i
  pub past : (i : ℕ) → j ≤ i → get_or t i 0 ≡ get_or was i 0

-- the own columns of the first j channels, and the width of their blocks
pub record Owns (W : Widths) (j : ℕ) (own : List ℕ) (width : ℕ) : Type 0 where
  pub columns : Tabled (replicate most_vertices 0) (own_column W) j own
  pub end : width ≡ block_start W j

-- the blocks of the channels, by the tracks of each
abbrev pub blocks_of : List ℕ → Widths
blocks_of tracks = even_gaps (λ l. get_or tracks l 0)

-- the channels stand on the page, each of n vertices is in one of them, and the list of columns has room
pub record Spaceable (n channels : ℕ) (places tracks column : List ℕ) : Type 0 where
  pub few : n ≤ most_vertices
  pub few_channels : channels ≤ most_vertices
  pub known : (v : ℕ) → v < n → quad 0 places v < channels
  pub page : block_start (blocks_of tracks) channels ≤ page_columns
  pub sizes : (4 * n ≤ length places) × (most_vertices ≤ length tracks) × (n ≤ length column)

-- each of n vertices stands in its channel's own column, and so wide are all blocks
pub record Spaced (n channels : ℕ) (places tracks was column : List ℕ) (width : ℕ) : Type 0 where
  pub own : List ℕ
  pub owns : Owns (blocks_of tracks) channels own width
  pub standing : Tabled was (λ v. get_or own (quad 0 places v) 0) n column

-- a graph of n vertices passed the checks with k, and the lists have room for its plan
pub record Passed (n : ℕ) (k : Checked) (edges places spans number used column : List ℕ) : Type 0 where
  pub ends : List ℕ
  pub given : Bool
  pub field : List ℕ
  pub floored : Bool
  pub floors : List ℕ
  pub below : List ℕ
  pub table : List ℕ
  pub longer : List ℕ
  pub accepted : refusal_of (graph_content n ends given field floored floors) ≡ 0
  pub passes : Passes n ends given field floored floors k edges below table longer places
  pub room : Roomy n floored (lists edges below table longer places spans number used column)

-- whatever graph passed, p and the lists are what is planned of it; the lists stay as long as they were, and columns past the vertices
-- as they were
pub record Filled (n : ℕ) (k : Checked) (edges places spans number used column : List ℕ) (p : Plan) (spans' number' used' column' : List ℕ)
    : Type 0 where
  pub refusal : p.refusal ≡ 0
  pub laid : (x : Passed n k edges places spans number used column)
      → Laid (graph_content n x.ends x.given x.field x.floored x.floors) p
      (lists edges x.below x.table x.longer places spans' number' used' column')
  pub past : (v : ℕ) → n ≤ v → get_or column' v 0 ≡ get_or column v 0
  pub long : (length spans' ≡ length spans) × (length number' ≡ length number) × (length used' ≡ length used)
      × (length column' ≡ length column)

-- room for m vertices, two bundles each, and for the tracks of 128 channels
unfoldable pub roomy? : ℕ → ℕ → ℕ → ℕ → ℕ → Bool
roomy? m spans number used column = leb (8 * m) spans && (leb (2 * m) number && (leb most_vertices used && leb m column))
