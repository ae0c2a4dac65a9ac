-- What the layout of a record is as definitions speak of it, and the graph in the record's parts. Assumes nothing.
use Rattle.std.specs.Prelude.{◌≡◌, Bool, true, false, List, ℕ, ◌+◌, ◌*◌, ◌/◌, ◌%◌, ◌≤◌, length, take, drop, Option, Some, None, Result, Ok}
use Rattle.std.specs.Prelude.{Err}
use Rattle.specification.specs.Layout.{Field, Found, Missing, Layout, Good, Bad}
use Rattle.specification.specs.Layout.{Fields as Places}
use Rattle.specification.specs.Parts.{present?, bytes_of}
use Rattle.specification.specs.declared.Graph.{Graph}
use Rattle.specification.specs.declared.Refusal.{Refusal}
use Rattle.specification.specs.declared.Refusal.TheVariants as refusal
use Rattle.fields.specs.declared.Span.{Span}
use Rattle.fields.specs.declared.Fields.{Fields}

-- ---- a part that a record may lack: whether it is there, where it begins, and its size; 0 where it is not there

abbrev pub there? : Option Span → Bool
there? None = false
there? (Some s) = true

abbrev pub start_of : Option Span → ℕ
start_of None = 0
start_of (Some s) = s.start

abbrev pub size_of : Option Span → ℕ
size_of None = 0
size_of (Some s) = s.size

-- ---- what is found

abbrev pub field_told : Option Span → Field
field_told None = Missing
field_told (Some s) = Found s.start s.size

abbrev pub fields_told : Fields → Places
fields_told f = record {
  vertices = f.vertices;
  edges = f.edges.start;
  count = f.edges.size / 2;
  given = there? f.given;
  lines = start_of f.given;
  size = size_of f.given;
  floored = there? f.floors;
  floors = start_of f.floors;
  extent = size_of f.floors;
}

abbrev pub layout_told : Option Fields → Layout
layout_told None = Bad
layout_told (Some f) = Good (fields_told f)

-- it lies within the record
abbrev pub Within : List ℕ → Option Span → Type 0
Within b None = Unit {0}
Within b (Some s) = s.start + s.size ≤ length b

-- the edges found have two bytes each
abbrev pub Paired : Option Fields → Type 0
Paired None = Unit {0}
Paired (Some f) = f.edges.size % 2 ≡ 0

-- r is this layout
pub record Tells (r : Option Fields) (l : Layout) : Type 0 where
  pub told : layout_told r ≡ l
  pub paired : Paired r

-- ---- the graph that a record says

-- each part of g is that part of the bytes
pub record PartsOf (b : List ℕ) (f : Places) (g : Graph) : Type 0 where
  pub vertices : g.vertices ≡ f.vertices
  pub ends : g.ends.now ≡ take (2 * f.count) (drop f.edges b)
  pub given : present? g.given ≡ f.given
  pub lines : bytes_of g.given ≡ take f.size (drop f.lines b)
  pub floored : present? g.floors ≡ f.floored
  pub floors : bytes_of g.floors ≡ take f.extent (drop f.floors b)

-- the graph by where the fields stand, and 'layout' where they do not stand as they must
abbrev pub Parted : List ℕ → Layout → Result Graph Refusal → Type 0
Parted b (Good f) (Ok g) = PartsOf b f g
Parted b (Good f) (Err k) = ⊥
Parted b Bad (Ok g) = ⊥
Parted b Bad (Err k) = k ≡ refusal.Layout
