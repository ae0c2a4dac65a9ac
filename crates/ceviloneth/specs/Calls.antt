-- Lists of calls on a lent list, starts among them, and what the law says of them (SPECIFICATION.md, 11.4 and 11.5). Assumes nothing.
use Rattle.std.specs.Prelude.{◌≡◌, List, [], ◌∷◌, ℕ, zero, suc, ◌≤◌, length, get_or, replicate}
use Rattle.specification.specs.Graph.{size_refusal}
use Rattle.specification.specs.Machine.{Graph, Call, Answer, step, fresh}
use Rattle.specification.specs.Lent.{Untouched}
use Rattle.specification.specs.Connection.{numbered}
use Rattle.specification.specs.declared.Leading.{Leading}
use Rattle.editing.specs.Promise.{Represents, change_answer, reply_answer}
use Rattle.ceviloneth.specs.State.{state_numbers, session_of, Starts, Adds, Tells}

-- a call on a lent list: a start with so many words, or a call of a session
pub data LentCall : Type 0 where
  start : ℕ → LentCall
  call : Call → LentCall

pub data LentAnswer : Type 0 where
  -- a session begins
  started : LentAnswer
  -- a session's answer; a refused start is answered like any refused call
  says : Answer → LentAnswer

-- what the number that a start answers stands for: 0 is no refusal
unfoldable pub start_answer : ℕ → LentAnswer
start_answer zero = LentAnswer.started
start_answer (suc k) = LentAnswer.says (Answer.refused (suc k))

-- ---- what the calls do, each by a result that meets its promise

-- a call: what it answers, and the list after it
pub data Called : List ℕ → LentCall → LentAnswer → List ℕ → Type 0 where
  starts : {was is : List ℕ} {n : ℕ} (r : ℕ) → Starts was n r is → Called was (LentCall.start n) (start_answer r) is
  adds : {was is : List ℕ} {u v : ℕ} (r : ℕ) → Adds was u v r is →
      Called was (LentCall.call (Call.add u v)) (LentAnswer.says (change_answer r)) is
  asks : {was : List ℕ} {u v : ℕ} (r : Leading) → Tells was u v r →
      Called was (LentCall.call (Call.leads u v)) (LentAnswer.says (reply_answer r.refusal (numbered r.leads))) was

-- calls one after the other, with what they answer, and the last list
pub data Calls : List ℕ → List LentCall → List LentAnswer → List ℕ → Type 0 where
  done : {s : List ℕ} → Calls s [] [] s
  next : {s t z : List ℕ} {c : LentCall} {a : LentAnswer} {cs : List LentCall} {out : List LentAnswer} →
      Called s c a t → Calls t cs out z → Calls s (c ∷ cs) (a ∷ out) z

-- ---- what the law says

-- the machine in a lent list: none before the first accepted start, whatever the numbers are
pub data Life : Type 0 where
  unstarted : Life
  running : Graph → Life

-- a start with n words that is answered with a number: a fresh machine, or, refused, what there was
unfoldable pub begun : Life → ℕ → ℕ → Life
begun l n zero = Life.running (fresh n)
begun l n (suc k) = l

-- the life after a call
unfoldable pub life_step : Life → LentCall → Life
life_step l (LentCall.start n) = begun l n (size_refusal n)
life_step Life.unstarted (LentCall.call c) = Life.unstarted
life_step (Life.running g) (LentCall.call c) = Life.running (step g c).graph

-- the life after a list of calls
unfoldable pub life_run : Life → List LentCall → Life
life_run l [] = l
life_run l (c ∷ cs) = life_run (life_step l c) cs

-- what is answered: a start by its number of words alone, any other call by the machine; where none is running, nothing is said
unfoldable pub Right : Life → LentCall → LentAnswer → Type 0
Right l (LentCall.start n) a = a ≡ start_answer (size_refusal n)
Right Life.unstarted (LentCall.call c) a = Unit {0}
Right (Life.running g) (LentCall.call c) a = a ≡ LentAnswer.says (step g c).answer

-- every call is answered, and rightly
unfoldable pub AllRight : Life → List LentCall → List LentAnswer → Type 0
AllRight l [] [] = Unit {0}
AllRight l [] (a ∷ out) = ⊥
AllRight l (c ∷ cs) [] = ⊥
AllRight l (c ∷ cs) (a ∷ out) = Right l c a × AllRight (life_step l c) cs out

-- the list spells the machine's graph, where one is running
unfoldable pub Spells : Life → List ℕ → Type 0
Spells Life.unstarted s = Unit {0}
Spells (Life.running g) s = Represents g (session_of s)

-- calls on a list with room, from a life on: all answers are right, the last list spells the last life, and past a session nothing changes
pub record Lived (l : Life) (was : List ℕ) (cs : List LentCall) (out : List LentAnswer) (is : List ℕ) : Type 0 where
  pub answers : AllRight l cs out
  pub spells : Spells (life_run l cs) is
  pub as_long : length is ≡ length was
  pub past : (k d : ℕ) → state_numbers ≤ k → get_or is k d ≡ get_or was k d

-- calls on a list that is too short for a session: each is refused with 8, and nothing changes
pub record Short (was : List ℕ) (cs : List LentCall) (out : List LentAnswer) (is : List ℕ) : Type 0 where
  pub answers : out ≡ replicate (length cs) (LentAnswer.says (Answer.refused 8))
  pub untouched : Untouched was is
