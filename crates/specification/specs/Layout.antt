-- How the bytes of a record stand (SPECIFICATION.md, 1). Assumes nothing.
use Rattle.std.specs.Prelude.{Bool, true, false, ◌&&◌, List, [], ◌∷◌, ℕ, zero, suc, ◌+◌, ◌*◌, ◌/◌, ◌%◌, eqb, leb, length, get_or, take}
use Rattle.std.specs.Prelude.{drop}
use Rattle.specification.specs.Count.{choose}
use Rattle.specification.specs.Limits.{most_bytes}

-- a tagged field: its bytes begin at `start`, and there are `size` of them
pub data Field : Type 0 where
  Found : (start size : ℕ) → Field
  Missing : Field

-- where the fields of a record stand. Edge i has its tail at edges + 2 i and its head after it, and there are `count` of them. The given
-- channels are the `size` bytes from `lines` on, where `given` says so, and the floors the `extent` bytes from `floors` on, where
-- `floored` does
pub record Fields : Type 0 where
  pub vertices : ℕ
  pub edges : ℕ
  pub count : ℕ
  pub given : Bool
  pub lines : ℕ
  pub size : ℕ
  pub floored : Bool
  pub floors : ℕ
  pub extent : ℕ

pub data Layout : Type 0 where
  Good : Fields → Layout
  Bad : Layout

-- the length that the two bytes after a tag say, high byte first
unfoldable pub size_at : List ℕ → ℕ → ℕ
size_at b at = get_or b (at + 1) 0 * 256 + get_or b (at + 2) 0

-- the field with this tag at a place: a byte of tag, two of length, and that many bytes
unfoldable pub field_at : ℕ → List ℕ → ℕ → Field
field_at tag b at =
    choose ((leb (at + 3) (length b) && eqb (get_or b at 0) tag) && leb (at + 3 + size_at b at) (length b))
    (λ _. Found (at + 3) (size_at b at))
    (λ _. Missing)

-- whether bytes are channels as in 1.2, each a length above 0 and so many vertices, of which `left` are to come, ending exactly
unfoldable pub lined : ℕ → List ℕ → Bool
lined zero [] = true
lined zero (zero ∷ s) = false
lined zero (suc k ∷ s) = lined (suc k) s
lined (suc left) [] = false
lined (suc left) (v ∷ s) = lined left s

-- ---- one field after the other; `Bad` where one is missing or not as it must be

-- the vertices and edges alone, and with given channels
abbrev pub bare_fields : ℕ → ℕ → ℕ → Fields
bare_fields n edges m = record {
  vertices = n;
  edges = edges;
  count = m;
  given = false;
  lines = 0;
  size = 0;
  floored = false;
  floors = 0;
  extent = 0;
}

abbrev pub lined_fields : ℕ → ℕ → ℕ → ℕ → ℕ → Fields
lined_fields n edges m lines size = record {
  vertices = n;
  edges = edges;
  count = m;
  given = true;
  lines = lines;
  size = size;
  floored = false;
  floors = 0;
  extent = 0;
}

-- these, and floors
abbrev pub floored_fields : Fields → ℕ → ℕ → Fields
floored_fields f floors extent = record {
  vertices = f.vertices;
  edges = f.edges;
  count = f.count;
  given = f.given;
  lines = f.lines;
  size = f.size;
  floored = true;
  floors = floors;
  extent = extent;
}

-- tag 4: the floors, to the end of the record
unfoldable pub with_floors : List ℕ → Fields → Field → Layout
with_floors b f Missing = Bad
with_floors b f (Found start size) = choose (eqb (start + size) (length b)) (λ _. Good (floored_fields f start size)) (λ _. Bad)

-- the end of the record, or tag 4
unfoldable pub after_lines : List ℕ → Fields → ℕ → Layout
after_lines b f end = choose (eqb end (length b)) (λ _. Good f) (λ _. with_floors b f (field_at 4 b end))

-- tag 3: the given channels, if there are any
unfoldable pub with_lines : List ℕ → ℕ → ℕ → ℕ → ℕ → Field → Layout
with_lines b n edges m end Missing = after_lines b (bare_fields n edges m) end
with_lines b n edges m end (Found start size) =
    choose (lined 0 (take size (drop start b))) (λ _. after_lines b (lined_fields n edges m start size) (start + size)) (λ _. Bad)

unfoldable pub after_edges : List ℕ → ℕ → ℕ → ℕ → ℕ → Layout
after_edges b n edges m end = with_lines b n edges m end (field_at 3 b end)

-- tag 2: the edges, two bytes each
unfoldable pub with_edges : List ℕ → ℕ → Field → Layout
with_edges b n Missing = Bad
with_edges b n (Found start size) = choose (eqb (size % 2) 0) (λ _. after_edges b n start (size / 2) (start + size)) (λ _. Bad)

-- tag 1, of length 1: the number of vertices
unfoldable pub with_vertices : List ℕ → Field → Layout
with_vertices b Missing = Bad
with_vertices b (Found start size) = choose (eqb size 1) (λ _. with_edges b (get_or b start 0) (field_at 2 b (start + size))) (λ _. Bad)

-- where the fields of a record stand
unfoldable pub layout_of : List ℕ → Layout
layout_of b = choose (leb (length b) most_bytes) (λ _. with_vertices b (field_at 1 b 0)) (λ _. Bad)

-- what a layout says: 0 and where the fields stand, or 1 'layout' and nothing (13.1)
pub record LayoutAnswer : Type 0 where
  pub number : ℕ
  pub fields : Fields

abbrev pub no_fields : Fields
no_fields = bare_fields 0 0 0

-- the number and the fields of each case
abbrev pub layout_answer : Layout → LayoutAnswer
layout_answer (Good f) = record { number = 0; fields = f }
layout_answer Bad = record { number = 1; fields = no_fields }
