-- What the calls promise: of any session value whatever, and of one that represents a graph of the machine. Assumes nothing.
use Rattle.std.specs.Prelude.{◌≡◌, ◌≢◌, Bool, ◌||◌, ◌&&◌, List, ℕ, zero, suc, ◌+◌, ◌*◌, ◌≤◌, ◌<◌, min, eqb, leb, length, replicate, Result}
use Rattle.std.specs.Prelude.{Ok, Err}
use Rattle.specification.specs.Count.{choose, some}
use Rattle.specification.specs.Sets.{at, inserted, has?}
use Rattle.specification.specs.Connection.{connection}
use Rattle.specification.specs.Limits.{most_vertices, most_edges, table_masks, mask_bits}
use Rattle.editing.specs.declared.Session.{Session}
use Rattle.editing.specs.declared.Refused.{Refused}
use Rattle.specification.specs.Refusals.{refusal_number}
use Rattle.specification.specs.declared.Connection.{Connection}
use Rattle.specification.specs.declared.Connection.TheVariants.{Unreached}
use Rattle.specification.specs.Asked.{Reply}
use Rattle.specification.specs.Machine.{Graph, Call, Answer, contains, reached?, verdict, step, start_vertices, fresh, Lawful}
use Rattle.specification.specs.Graph.{size_refusal}
use Rattle.specification.specs.Lent.{Untouched}

-- ---- of any session value: its tables have two masks a vertex and 128 vertices, whatever its number of vertices says

-- one of the two is no vertex
unfoldable pub outside? : Session → ℕ → ℕ → Bool
outside? s u v = leb (min s.vertices most_vertices) u || leb (min s.vertices most_vertices) v

-- why the edge from u to v is refused, or 0
unfoldable pub refusal_of : Session → ℕ → ℕ → ℕ
refusal_of s u v = verdict (outside? s u v) (has? 2 s.edges u v) (eqb v u || has? 2 s.reach v u) (leb most_edges s.count)

-- an edge goes from u to some x that has v
unfoldable pub detour? : ℕ → List ℕ → List ℕ → ℕ → ℕ → Bool
detour? w edges reach u v = some (w * mask_bits) (λ x. has? w edges u x && has? w reach x v)

-- how u reaches v
unfoldable pub connection_of : Session → ℕ → ℕ → Connection
connection_of s u v = connection (has? 2 s.edges u v) (detour? 2 s.edges s.reach u v)

-- x is the tail or has it, and y is the head or the head has it
unfoldable pub across? : ℕ → List ℕ → ℕ → ℕ → ℕ → ℕ → Bool
across? w t tail head x y = (eqb x tail || has? w t x tail) && (eqb y head || has? w t head y)

-- s is t, where each of the first n vertices that is the tail or has it also has the head and all that the head has
pub record Linked (w : ℕ) (t : List ℕ) (tail head n : ℕ) (s : List ℕ) : Type 0 where
  pub below : (x y : ℕ) → x < n → y < w * mask_bits → has? w s x y ≡ (has? w t x y || across? w t tail head x y)
  pub above : (x y : ℕ) → n ≤ x → y < w * mask_bits → at w s x y ≡ at w t x y

-- z is s with the edge from u to v
pub record Grown (s : Session) (u v : ℕ) (z : Session) : Type 0 where
  pub vertices : z.vertices ≡ s.vertices
  pub count : z.count ≡ s.count + 1
  pub edges : z.edges ≡ inserted s.edges (2 * u) v
  pub reach : Linked 2 s.reach u v most_vertices z.reach

-- a session of n vertices and no edges
abbrev pub blank : ℕ → Session
blank n = record { vertices = n; count = 0; edges = replicate table_masks 0; reach = replicate table_masks 0 }

-- ---- of a session that represents a graph of the machine

pub record Represents (g : Graph) (s : Session) : Type 0 where
  pub lawful : Lawful g
  pub vertices : s.vertices ≡ g.vertices
  pub count : s.count ≡ length g.edges
  pub edges : (u v : ℕ) → u < most_vertices → v < most_vertices → has? 2 s.edges u v ≡ contains g.edges u v
  pub reach : (u v : ℕ) → u < most_vertices → v < most_vertices → has? 2 s.reach u v ≡ reached? g u v

-- the machine's answer that a result stands for: a refusal of 0 is none
unfoldable pub change_answer : ℕ → Answer
change_answer zero = Answer.added
change_answer (suc k) = Answer.refused (suc k)

unfoldable pub reply_answer : ℕ → Connection → Answer
reply_answer zero a = Answer.told a
reply_answer (suc k) a = Answer.refused (suc k)

-- ---- the calls

-- the refusal, or 0, and the session after the call
pub record Changed : Type 0 where
  pub refusal : ℕ
  pub session : Session

-- what a call says: the next session, or why there is none, and the session as it was
abbrev pub changed_of : Result Session Refused → Changed
changed_of (Ok next) = record { refusal = 0; session = next }
changed_of (Err r) = record { refusal = refusal_number r.refusal; session = r.session }

pub record StartPromise (n : ℕ) (r : Changed) : Type 0 where
  pub refusal : r.refusal ≡ size_refusal n
  pub session : r.session ≡ blank (start_vertices n)
  pub holds : Represents (fresh n) r.session

pub record AddPromise (s : Session) (u v : ℕ) (r : Changed) : Type 0 where
  pub refusal : r.refusal ≡ refusal_of s u v
  pub kept : r.refusal ≢ 0 → Untouched s r.session
  pub made : r.refusal ≡ 0 → Grown s u v r.session
  pub answer : (g : Graph) → Represents g s → change_answer r.refusal ≡ (step g (Call.add u v)).answer
  pub holds : (g : Graph) → Represents g s → Represents (step g (Call.add u v)).graph r.session

pub record LeadsPromise (s : Session) (u v : ℕ) (r : Reply) : Type 0 where
  pub refusal : r.refusal ≡ choose (outside? s u v) (λ _. 3) (λ _. 0)
  pub connection : r.connection ≡ choose (outside? s u v) (λ _. Unreached) (λ _. connection_of s u v)
  pub answer : (g : Graph) → Represents g s → reply_answer r.refusal r.connection ≡ (step g (Call.leads u v)).answer
