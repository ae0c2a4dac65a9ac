-- Every list of calls after a fresh start. Assumes nothing.
use Rattle.std.specs.Prelude.{◌≡◌, List, [], ◌∷◌, ℕ}
use Rattle.editing.specs.declared.Session.{Session}
use Rattle.editing.specs.Promise.{Changed}
use Rattle.specification.specs.Asked.{Reply}
use Rattle.specification.specs.Machine.{Graph, Call, Answer, run, answers}
use Rattle.editing.specs.Promise.{Represents, change_answer, reply_answer, AddPromise, LeadsPromise}

-- a call on a session: what it answers, and the session after it, by a result that meets the call's promise
pub data Performed : Session → Call → Answer → Session → Type 0 where
  adds : {s : Session} {u v : ℕ} (r : Changed) → AddPromise s u v r → Performed s (Call.add u v) (change_answer r.refusal) r.session
  asks : {s : Session} {u v : ℕ} (r : Reply) → LeadsPromise s u v r
      → Performed s (Call.leads u v) (reply_answer r.refusal r.connection) s

-- a list of calls from session s on, with what they answer, and the last session
pub data History : Session → List Call → List Answer → Session → Type 0 where
  done : {s : Session} → History s [] [] s
  next : {s t z : Session} {c : Call} {a : Answer} {cs : List Call} {out : List Answer} → Performed s c a t → History t cs out z
      → History s (c ∷ cs) (a ∷ out) z

-- the last session represents the machine's graph, and the answers are the machine's
pub record Follows (g : Graph) (cs : List Call) (out : List Answer) (z : Session) : Type 0 where
  pub holds : Represents (run g cs) z
  pub same : out ≡ answers g cs
