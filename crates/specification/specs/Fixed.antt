-- The fixed form in which a graph is written, and what a call writes of it (SPECIFICATION.md, 1.6 to 1.8). Assumes nothing.
use Rattle.std.specs.Prelude.{◌≡◌, ◌↔◌, Bool, List, [], ℕ, ◌<◌, eqb, leb, ltb, length, get_or}
use Rattle.specification.specs.Count.{choose, some}
use Rattle.specification.specs.Graph.{edge?, Edge}
use Rattle.specification.specs.Pairs.{pairs}
use Rattle.specification.specs.Writing.{Draft, written}
use Rattle.specification.specs.Checks.{Content, edges_of, given_of, floor_at, refusal_of, record_refusal, said}
use Rattle.specification.specs.Drawn.{graph_content}
use Rattle.specification.specs.Lent.{Filled}
use Rattle.specification.specs.declared.WrittenBytes.{WrittenBytes}

-- one of the floors is above 0
unfoldable pub raised? : Content → Bool
raised? c = some c.vertices (λ v. ltb 0 (floor_at c.floored c.floors v))

-- whether a list has something in it
abbrev pub filled? : {A : Type 0} → List A → Bool
filled? s = ltb 0 (length s)

-- edges by tail and then by head, given channels as they are if there are any, floors if one of them is above 0
unfoldable pub fixed_form : Content → Draft
fixed_form c = record {
  vertices = c.vertices;
  edges = pairs c.vertices (edge? c.tails c.heads);
  given = filled? (given_of c);
  channels = given_of c;
  floored = raised? c;
  floors = choose (raised? c) (λ _. c.floors) (λ _. []);
}

-- its bytes
unfoldable pub rewritten : Content → List ℕ
rewritten c = written (fixed_form c)

-- ---- what is written into a list of so many bytes

pub record Output : Type 0 where
  pub refusal : ℕ
  pub bytes : List ℕ

abbrev pub output : ℕ → List ℕ → Output
output k s = record { refusal = k; bytes = s }

-- of a graph that the checks answer with k: the fixed form, or no byte where it is refused, or with 8 'short' where there is no room
unfoldable pub output_of : ℕ → ℕ → Content → Output
output_of room k c =
    choose (eqb k 0)
    (λ _. choose (leb (length (rewritten c)) room) (λ _. output 0 (rewritten c)) (λ _. output 8 []))
    (λ _. output k [])

-- of a graph, and of the one that a record says; neither is asked whether its chart is broad
unfoldable pub graph_output : ℕ → Content → Output
graph_output room c = output_of room (refusal_of c) c

unfoldable pub record_output : ℕ → List ℕ → Output
record_output room b = output_of room (record_refusal b) (said b)

-- a graph as an app lends it: the bytes of its edges' ends, of its given channels and of its floors, where no byte means that there are
-- none
unfoldable pub lent_content : ℕ → List ℕ → List ℕ → List ℕ → Content
lent_content n ends lines floors = graph_content n ends (filled? lines) lines (filled? floors) floors

-- a call that was to write x answers r, and leaves `is` of the list that had `was`: the bytes past those of x stay
pub record Writes (x : Output) (was : List ℕ) (r : WrittenBytes) (is : List ℕ) : Type 0 where
  pub answer : r.refusal ≡ x.refusal
  pub number : r.bytes ≡ length x.bytes
  pub bytes : Filled was (λ i. get_or x.bytes i 0) (length x.bytes) is

-- ---- what is the same

-- two graphs have the same vertices, edges as sets, given channels in their order, and floors, where a missing floor is 0
pub record SameGraph (c d : Content) : Type 0 where
  pub vertices : c.vertices ≡ d.vertices
  pub edges : (u v : ℕ) → Edge c.tails c.heads u v ↔ Edge d.tails d.heads u v
  pub channels : given_of c ≡ given_of d
  pub floors : (v : ℕ) → v < c.vertices → floor_at c.floored c.floors v ≡ floor_at d.floored d.floors v

-- an edge goes before another: by tail, and by head where the tails are one
pub data Before (c : Content) (i j : ℕ) : Type 0 where
  by_tail : get_or c.tails i 0 < get_or c.tails j 0 → Before c i j
  by_head : get_or c.tails i 0 ≡ get_or c.tails j 0 → get_or c.heads i 0 < get_or c.heads j 0 → Before c i j

-- each edge goes before those of higher numbers
abbrev pub Ordered : Content → Type 0
Ordered c = (i j : ℕ) → i < j → j < edges_of c → Before c i j
