-- The number that is answered is that of the first check that fails (SPECIFICATION.md, 13.1). Assumes nothing.
use Rattle.std.specs.Prelude.{◌≡◌, ◌↔◌, List, ℕ, ◌≤◌, ◌<◌, length, get_or}
use Rattle.specification.specs.Limits.{most_vertices, most_channels}
use Rattle.specification.specs.Layout.{layout_of}
use Rattle.specification.specs.Layout.{Fields}
use Rattle.specification.specs.Layout.{Good}
use Rattle.specification.specs.Checks.{Content, content_of, Sized, Floored, EndsKnown, GivenKnown, Distinct, Acyclic, Once, Sound}
use Rattle.specification.specs.Checks.{given_of}
use Rattle.specification.specs.Lawful.{Divided}
use Rattle.specification.specs.Given.{Whole}
use Rattle.specification.specs.declared.ChartCounts.{ChartCounts}
use Rattle.demands.specs.Leading.{Unled}

-- not 3, of edges and of given channels
abbrev pub Known : Content → Type 0
Known c = EndsKnown c × GivenKnown c

-- ---- the first that fails

-- of a graph: those before k pass
pub data Fails (c : Content) : ℕ → Type 0 where
  size : (Sized c → ⊥) → Fails c 2
  floor : Sized c → (Floored c → ⊥) → Fails c 12
  stranger : Sized c → Floored c → (Known c → ⊥) → Fails c 3
  double : Sized c → Floored c → Known c → (Distinct c → ⊥) → Fails c 4
  ring : Sized c → Floored c → Known c → Distinct c → (Acyclic c → ⊥) → Fails c 5
  cover : Sized c → Floored c → Known c → Distinct c → Acyclic c → (Once c → ⊥) → Fails c 6
  broken : Sized c → Floored c → Known c → Distinct c → Acyclic c → Once c → Unled c → Fails c 7

-- 11: every division of the graph that has its given channels whole has more parts than a chart may have lines. A part may be empty, which
-- makes no difference
abbrev pub Broad : Content → Type 0
Broad c = (parts : ℕ) (part : ℕ → ℕ) → Divided c parts part → Whole c.vertices (given_of c) part → most_channels < parts

-- of a graph that is to be drawn into lists of which `room` says whether they have room for it: 0 where none fails
pub data Answered (c : Content) (room : Content → Type 0) : ℕ → Type 0 where
  accepted : Sound c → (Broad c → ⊥) → room c → Answered c room 0
  failed : {k : ℕ} → Fails c k → Answered c room k
  broad : Sound c → Broad c → Answered c room 11
  short : Sound c → (Broad c → ⊥) → (room c → ⊥) → Answered c room 8

-- of a record's bytes
pub data AnsweredRecord (b : List ℕ) (room : Content → Type 0) : ℕ → Type 0 where
  layout : ((f : Fields) → layout_of b ≡ Good f → ⊥) → AnsweredRecord b room 1
  graph : {k : ℕ} (f : Fields) → layout_of b ≡ Good f → Answered (content_of b f) room k → AnsweredRecord b room k

-- ---- the numbers that say whether a chart can be shown

-- 0, 11 'broad' and 8 'short' are each answered exactly where the graph or record is sound and this is so
pub record Told (sound broad room : Type 0) (answer : ℕ) : Type 0 where
  pub accepted_exactly : (answer ≡ 0) ↔ (sound × (broad → ⊥) × room)
  pub broad_exactly : (answer ≡ 11) ↔ (sound × broad)
  pub short_exactly : (answer ≡ 8) ↔ (sound × (broad → ⊥) × (room → ⊥))

-- whatever is answered: no more lines than a chart may have, and of the 128 numbers of side columns those past that are 0
pub record Narrow (r : ChartCounts) : Type 0 where
  pub lines : r.lines ≤ most_channels
  pub side_columns : (l : ℕ) → most_channels ≤ l → get_or r.side_columns l 0 ≡ 0
  pub long : length r.side_columns ≡ most_vertices
