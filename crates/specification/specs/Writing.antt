-- How a record is written (SPECIFICATION.md, 1): its fields, one after the other. Assumes nothing.
use Rattle.std.specs.Prelude.{◌≡◌, Bool, false, List, [], ◌∷◌, ◌++◌, ℕ, ◌+◌, ◌*◌, ◌/◌, ◌%◌, ◌<◌, ◌≤◌, length, get_or}
use Rattle.specification.specs.Count.{choose}
use Rattle.specification.specs.Limits.{most_bytes}
use Rattle.specification.specs.Layout.{Fields}

-- what a record says: the number of vertices, the edges, each with its tail and its head, the given channels, if any are given, and the
-- floors, if there are any
pub record Draft : Type 0 where
  pub vertices : ℕ
  pub edges : List (ℕ × ℕ)
  pub given : Bool
  pub channels : List (List ℕ)
  pub floored : Bool
  pub floors : List ℕ

-- a field: its tag, its size in two bytes, the higher first, and its bytes
unfoldable pub field : ℕ → List ℕ → List ℕ
field tag s = tag ∷ length s / 256 ∷ length s % 256 ∷ s

-- tail and head of each edge, in turn
unfoldable pub end_bytes : List (ℕ × ℕ) → List ℕ
end_bytes [] = []
end_bytes (e ∷ es) = e.0 ∷ e.1 ∷ end_bytes es

-- each channel, its length and then its vertices
unfoldable pub line_bytes : List (List ℕ) → List ℕ
line_bytes [] = []
line_bytes (l ∷ ls) = length l ∷ (l ++ line_bytes ls)

-- tag 3 may be left out, and may be of size 0
unfoldable pub channel_field : Bool → List (List ℕ) → List ℕ
channel_field given ls = choose given (λ _. field 3 (line_bytes ls)) (λ _. [])

-- tag 4 may be left out
unfoldable pub floor_field : Bool → List ℕ → List ℕ
floor_field floored floors = choose floored (λ _. field 4 floors) (λ _. [])

unfoldable pub written : Draft → List ℕ
written x =
    field 1 (x.vertices ∷ [])
    ++ (field 2 (end_bytes x.edges) ++ (channel_field x.given x.channels ++ floor_field x.floored x.floors))

-- ---- what can be written

-- every number of the list fits in a byte
abbrev pub Bytes : List ℕ → Type 0
Bytes s = (i : ℕ) → get_or s i 0 < 256

-- each channel has a vertex, and fewer than 256
pub data Lines : List (List ℕ) → Type 0 where
  none : Lines []
  more : {l : List ℕ} {ls : List (List ℕ)} → 0 < length l → length l < 256 → Bytes l → Lines ls → Lines (l ∷ ls)

pub record Writable (x : Draft) : Type 0 where
  pub vertices : x.vertices < 256
  pub edges : Bytes (end_bytes x.edges)
  pub channels : Lines x.channels
  pub bare : x.given ≡ false → x.channels ≡ []
  pub floors : Bytes x.floors
  pub floorless : x.floored ≡ false → x.floors ≡ []
  pub short : length (written x) ≤ most_bytes

-- where the edges of what is written end, and where its given channels do
abbrev pub edges_end : Draft → ℕ
edges_end x = 7 + 2 * length x.edges

abbrev pub lines_end : Draft → ℕ
lines_end x = edges_end x + length (channel_field x.given x.channels)

-- where the fields of what is written stand
unfoldable pub fields_of : Draft → Fields
fields_of x = record {
  vertices = x.vertices;
  edges = 7;
  count = length x.edges;
  given = x.given;
  lines = choose x.given (λ _. edges_end x + 3) (λ _. 0);
  size = choose x.given (λ _. length (line_bytes x.channels)) (λ _. 0);
  floored = x.floored;
  floors = choose x.floored (λ _. lines_end x + 3) (λ _. 0);
  extent = choose x.floored (λ _. length x.floors) (λ _. 0);
}
