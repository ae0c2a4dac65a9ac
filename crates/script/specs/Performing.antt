-- What an order does to the machine of a session, and what is answered. Assumes nothing.
use Rattle.std.specs.Prelude.{◌≡◌, List, [], ◌∷◌, ℕ, Result}
use Rattle.editing.specs.declared.Session.{Session}
use Rattle.editing.specs.declared.Refused.{Refused}
use Rattle.specification.specs.Asked.{Reply, reply_of}
use Rattle.specification.specs.Refusals.{refusal_number, number_in}
use Rattle.specification.specs.declared.Refusal.{Refusal}
use Rattle.specification.specs.declared.Connection.{Connection}
use Rattle.specification.specs.Machine.{Graph, Call, Answer, answer_number, Turn, step, fresh}
use Rattle.specification.specs.Graph.{size_refusal}
use Rattle.editing.specs.Promise.{Represents, change_answer, reply_answer, Changed, changed_of, StartPromise, AddPromise, LeadsPromise}
use Rattle.script.specs.declared.Command.{Command}
use Rattle.script.specs.declared.Outcome.{Outcome}
use Rattle.script.specs.declared.Performed.{Performed}
use Rattle.specification.specs.Orders.{Order, order}
use Rattle.script.specs.Scanning.{begun, scan, order_of, finished}

-- what is said to a line (14.3): to an order its number, 0 where nothing is refused, and the machine's answer; to any other line that it
-- cannot be read, which has no number
pub data Said : Type 0 where
  says : ℕ → Answer → Said
  unreadable : Said

abbrev pub saying : Answer → Said
saying a = Said.says (answer_number a) a

-- the number and the answer of each case
unfoldable pub said_of : Outcome → Said
said_of Outcome.Done = Said.says 0 Answer.added
said_of (Outcome.Refused k) = Said.says (refusal_number k) (Answer.refused (refusal_number k))
said_of (Outcome.Told a) = Said.says 0 (Answer.told a)
said_of Outcome.Unreadable = Said.unreadable

-- what is said of a call that starts or changes a session, with the session after it
pub record SaidOf (x : Changed) (r : Performed) : Type 0 where
  pub session : r.session ≡ x.session
  pub said : said_of r.outcome ≡ saying (change_answer x.refusal)

abbrev pub IsChange : Result Session Refused → Performed → Type 0
IsChange change r = SaidOf (changed_of change) r

-- .. of one that changes it where it stands
abbrev pub IsGrowth : Result (Unit {0}) Refusal → Outcome → Type 0
IsGrowth growth o = said_of o ≡ saying (change_answer (number_in growth))

-- .. and of a question
abbrev pub IsReply : Result Connection Refusal → Outcome → Type 0
IsReply reply o = said_of o ≡ saying (reply_answer (reply_of reply).refusal (reply_of reply).connection)

-- what an order leaves, and what is said to it
pub record Obeyed : Type 0 where
  pub graph : Graph
  pub said : Said

unfoldable pub answered : Turn → Obeyed
answered t = record { graph = t.graph; said = saying t.answer }

-- `words` starts afresh; a line that is no order changes nothing
unfoldable pub obey : Graph → Order → Obeyed
obey g (Order.words n) = record { graph = fresh n; said = saying (change_answer (size_refusal n)) }
obey g (Order.add u v) = answered (step g (Call.add u v))
obey g (Order.leads u v) = answered (step g (Call.leads u v))
obey g Order.unreadable = record { graph = g; said = Said.unreadable }

-- the graph after a list of lines, and what is said to each
unfoldable pub obey_all : Graph → List (List ℕ) → Graph
obey_all g [] = g
obey_all g (line ∷ lines) = obey_all (obey g (order line)).graph lines

unfoldable pub said_all : Graph → List (List ℕ) → List Said
said_all g [] = []
said_all g (line ∷ lines) = (obey g (order line)).said ∷ said_all (obey g (order line)).graph lines

-- ---- what `perform` promises

-- of any session value: the result is that of the session's own call
unfoldable pub Effect : Session → Command → Performed → Type 0
Effect s (Command.Words n) r =
    (x : Changed) × StartPromise n x × (r.session ≡ x.session) × (said_of r.outcome ≡ saying (change_answer x.refusal))
Effect s (Command.Add u v) r =
    (x : Changed) × AddPromise s u v x × (r.session ≡ x.session) × (said_of r.outcome ≡ saying (change_answer x.refusal))
Effect s (Command.Leads u v) r =
    (x : Reply) × LeadsPromise s u v x × (r.session ≡ s) × (said_of r.outcome ≡ saying (reply_answer x.refusal x.connection))
Effect s Command.Unreadable r = (r.session ≡ s) × (said_of r.outcome ≡ Said.unreadable)

pub record PerformPromise (s : Session) (c : Command) (r : Performed) : Type 0 where
  pub effect : Effect s c r
  pub answer : (g : Graph) → Represents g s → said_of r.outcome ≡ (obey g (order_of c)).said
  pub holds : (g : Graph) → Represents g s → Represents (obey g (order_of c)).graph r.session

-- ---- every script

-- a list of lines from session s on: each is read byte by byte from its begin, and the command of its order is performed
pub data Replayed : Session → List (List ℕ) → List Said → Session → Type 0 where
  done : {s : Session} → Replayed s [] [] s
  next : {s z : Session} {line : List ℕ} {lines : List (List ℕ)} {out : List Said} (c : Command) (r : Performed)
      → order_of c ≡ finished (scan begun line) → PerformPromise s c r
      → Replayed r.session lines out z → Replayed s (line ∷ lines) (said_of r.outcome ∷ out) z

pub record Script (g : Graph) (lines : List (List ℕ)) (out : List Said) (z : Session) : Type 0 where
  pub holds : Represents (obey_all g lines) z
  pub same : out ≡ said_all g lines
