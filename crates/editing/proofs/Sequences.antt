-- Every list of calls after a fresh start: the session's set and every answer are the machine's. Assumes nothing.
use Rattle.counting.proofs.Prelude.{◌≡◌, refl, ap, ap₂, ◌≢◌, List, [], ◌∷◌, ℕ, length, replicate, ne_eqb}
use Rattle.editing.specs.declared.Session.{Session}
use Rattle.editing.specs.Promise.{Changed}
use Rattle.specification.specs.Machine.{Graph, Call, Answer, step, run, answers, empty, start_vertices, fresh}
use Rattle.specification.specs.Graph.{size_refusal}
use Rattle.specification.specs.Connection.{connection_number}
use Rattle.specification.specs.Asked.{Reply}
use Rattle.editing.specs.Promise.{Represents, StartPromise, LeadsPromise}
use Rattle.editing.specs.Meaning.{Exact, Asks}
use Rattle.editing.specs.Histories.{Performed, History, Follows}
use Rattle.editing.specs.Histories.Performed.{adds, asks}
use Rattle.editing.specs.Histories.History.{done, next}
use Rattle.editing.proofs.Machines.{leads-kept, run_lawful, fresh_lawful, refused_three, nothing_known}
use Rattle.editing.proofs.Meaning.{exact, leads-asks}

-- one call: the answer is the machine's, and the session represents the graph that it leaves
performed : (g : Graph) {s t : Session} {c : Call} {a : Answer} → Represents g s → Performed s c a t
    → (a ≡ (step g c).answer) × Represents (step g c).graph t
performed g r (adds z p) = (p.answer g r, p.holds g r)
performed g r (asks {u = u} {v = v} z p) = (p.answer g r, rw (leads-kept g u v) r)

follows : (g : Graph) {s z : Session} {cs : List Call} {out : List Answer} → Represents g s → History s cs out z → Follows g cs out z
unfolding run answers
follows g r done = record { holds = r; same = refl }
follows g r (next {c = c} p h) =
    let one = performed g r p in
    let rest = follows (step g c).graph one.1 h in record { holds = rest.holds; same = ap₂ ◌∷◌ one.0 rest.same }

-- EVERY LIST OF CALLS: after any start, refused or not, the answers are the machine's, and so is the set that the last session has
pub every_list : (n : ℕ) (r : Changed) → StartPromise n r → {cs : List Call} {out : List Answer} {z : Session}
    → History r.session cs out z → Follows (fresh n) cs out z
every_list n r p h = follows (fresh n) p.holds h

-- HOW ONE VERTEX REACHES ANOTHER: whatever the calls were, the last session answers `leads` by what the machine's edges say, one of four
pub every-answer : (n : ℕ) (r : Changed) → StartPromise n r → {cs : List Call} {out : List Answer} {z : Session}
    → History r.session cs out z → (u v : ℕ) (a : Reply) → LeadsPromise z u v a
    → Asks (run (fresh n) cs) u v a.refusal (connection_number a.connection)
every-answer n r p h u v a = leads-asks _ _ (every_list n r p h).holds u v a

-- WHAT THE ANSWERS SAY: of every graph that the machine comes to, after any start and any calls
pub every_graph : (n : ℕ) (cs : List Call) → Exact (run (fresh n) cs)
every_graph n cs = exact (run (fresh n) cs) (run_lawful (fresh n) (fresh_lawful n) cs)

all-refused : (cs : List Call) → answers (empty 0) cs ≡ replicate (length cs) (Answer.refused 3)
unfolding answers refused_three
all-refused [] = refl
all-refused (c ∷ cs) = rw (nothing_known c) (ap (λ (out : List Answer). Answer.refused 3 ∷ out) (all-refused cs))

-- NO VERTICES: after a refused start every call is refused with 3
pub no_vertices : (n : ℕ) → size_refusal n ≢ 0 → (cs : List Call) → answers (fresh n) cs ≡ replicate (length cs) (Answer.refused 3)
unfolding fresh start_vertices
no_vertices n h cs = rw (ne_eqb (size_refusal n) 0 h) (all-refused cs)
