-- What the graph that a record says tells of its layout, and that its content is the record's. Assumes nothing.
use Rattle.counting.proofs.Prelude.{◌≡◌, refl, List, ℕ}
use Rattle.std.specs.Prelude.{Ok, Err}
use Rattle.specification.specs.Graph.{tails_of, heads_of}
use Rattle.specification.specs.Layout.{Fields, Layout, Good, Bad}
use Rattle.specification.specs.Checks.{content, content_of}
use Rattle.specification.specs.Parts.{present?, bytes_of}
use Rattle.specification.specs.declared.Graph.{Graph}
use Rattle.specification.specs.declared.Refusal.{Refusal}
use Rattle.specification.specs.declared.Refusal.TheVariants as refusal
use Rattle.fields.specs.Parts.{PartsOf, Parted}

-- no graph: the fields do not stand as they must
pub parted_bad : (b : List ℕ) (l : Layout) (k : Refusal) → Parted b l (Err k) → (l ≡ Bad) × (k ≡ refusal.Layout)
parted_bad b Bad k h = (refl, h)
parted_bad b (Good f) k h = absurd h

-- a graph: where they stand, and its parts
pub parted_good : (b : List ℕ) (l : Layout) (g : Graph) → Parted b l (Ok g) → (f : Fields) × (l ≡ Good f) × PartsOf b f g
parted_good b (Good f) g h = (f, refl, h)
parted_good b Bad g h = absurd h

pub parts_content : (b : List ℕ) (f : Fields) (g : Graph) → PartsOf b f g
    → content g.vertices (tails_of g.ends.now) (heads_of g.ends.now) (present? g.given) (bytes_of g.given) (present? g.floors)
    (bytes_of g.floors) ≡ content_of b f
unfolding content_of
parts_content b f g h = rw (h.vertices, h.ends, h.given, h.lines, h.floored, h.floors) refl
