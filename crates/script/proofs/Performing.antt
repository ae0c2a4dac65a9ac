-- What a command does is what its order does to the machine, with numbers cut to the largest or not. Assumes nothing.
use Rattle.counting.proofs.Prelude.{◌≡◌, refl, sym, ap, ap₂, ◌∙◌, subst, ◌⊎◌, inl, inr, List, ◌∷◌, ℕ, ◌≤◌, ◌<◌, min, arith}
use Rattle.counting.proofs.Truth.{lt-or-le}
use Rattle.editing.specs.declared.Session.{Session}
use Rattle.specification.specs.Machine.{Graph, Call, Turn, step, fresh, Lawful}
use Rattle.editing.specs.Promise.{Represents, Changed, change_answer, StartPromise}
use Rattle.editing.proofs.Machines.{leads-kept, refused_three, unknown-add, unknown-leads, start_fails}
use Rattle.script.specs.declared.Command.{Command}
use Rattle.script.specs.declared.Performed.{Performed}
use Rattle.specification.specs.Orders.{Order, order}
use Rattle.script.specs.Scanning.{order_of, cut}
use Rattle.script.specs.Performing.{Said, saying, said_of, Obeyed, answered, obey, obey_all, said_all, Effect, PerformPromise, Replayed}
use Rattle.script.specs.Performing.{Script}
use Rattle.script.specs.Performing.Replayed.{done, next}
use Rattle.script.proofs.Lines.{every-line}

-- ---- the promise follows from what the session's own call promises

module _ (s : Session) (g : Graph) (p : Represents g s) (r : Performed) where
  same-said : (c : Command) → Effect s c r → said_of r.outcome ≡ (obey g (order_of c)).said
  unfolding Effect obey order_of answered
  same-said (Command.Words n) e = e.3 ∙ ap (λ (k : ℕ). saying (change_answer k)) e.1.refusal
  same-said (Command.Add u v) e = e.3 ∙ ap saying (e.1.answer g p)
  same-said (Command.Leads u v) e = e.3 ∙ ap saying (e.1.answer g p)
  same-said Command.Unreadable e = e.1

  same_graph : (c : Command) → Effect s c r → Represents (obey g (order_of c)).graph r.session
  unfolding Effect obey order_of answered
  same_graph (Command.Words n) e = subst (Represents (fresh n)) (sym e.2) e.1.holds
  same_graph (Command.Add u v) e = subst (Represents (step g (Call.add u v)).graph) (sym e.2) (e.1.holds g p)
  same_graph (Command.Leads u v) e = subst (Represents (step g (Call.leads u v)).graph) (sym e.2) (rw (leads-kept g u v) p)
  same_graph Command.Unreadable e = subst (Represents g) (sym e.0) p

-- c is the command k
pub performs : (s : Session) (c k : Command) (r : Performed) → c ≡ k → Effect s k r → PerformPromise s c r
performs s c k r e f =
    subst (λ (x : Command). PerformPromise s x r) (sym e)
    (record { effect = f; answer = λ g p. same-said s g p r k f; holds = λ g p. same_graph s g p r k f })

-- ---- a number may be cut to the largest: neither is a vertex

small : (n : ℕ) → n < 129 → min n 129 ≡ n
small n h = omega arith

cut_call : (n : ℕ) → n ≤ 128 → (f : ℕ → ℕ → Turn) (t : Turn) → ((u v : ℕ) → (n ≤ u) ⊎ (n ≤ v) → f u v ≡ t) → (u v : ℕ)
    → f (min u 129) (min v 129) ≡ f u v
cut_call n h f t e u v = go (lt-or-le u 129) (lt-or-le v 129)
  where
    go : (u < 129) ⊎ (129 ≤ u) → (v < 129) ⊎ (129 ≤ v) → f (min u 129) (min v 129) ≡ f u v
    go (inl a) (inl b) = ap₂ f (small u a) (small v b)
    go (inl a) (inr b) = e (min u 129) (min v 129) (inr (omega arith)) ∙ sym (e u v (inr (omega arith)))
    go (inr a) d = e (min u 129) (min v 129) (inl (omega arith)) ∙ sym (e u v (inl (omega arith)))

cut-start : (g : Graph) (n : ℕ) → obey g (Order.words (min n 129)) ≡ obey g (Order.words n)
unfolding obey fresh
cut-start g n = go (lt-or-le n 129)
  where
    go : (n < 129) ⊎ (129 ≤ n) → obey g (Order.words (min n 129)) ≡ obey g (Order.words n)
    go (inl a) = ap (λ (k : ℕ). obey g (Order.words k)) (small n a)
    go (inr a) =
        let e = start_fails (min n 129) (inr (omega arith)) in
        let f = start_fails n (inr (omega arith)) in rw (e.0, e.1, f.0, f.1)

pub cut-same : (g : Graph) → Lawful g → (o : Order) → obey g (cut o) ≡ obey g o
unfolding obey cut
cut-same g l (Order.words n) = cut-start g n
cut-same g l (Order.add u v) =
    ap answered (cut_call g.vertices l.small (λ x y. step g (Call.add x y)) (refused_three g) (unknown-add g) u v)
cut-same g l (Order.leads u v) =
    ap answered (cut_call g.vertices l.small (λ x y. step g (Call.leads x y)) (refused_three g) (unknown-leads g) u v)
cut-same g l Order.unreadable = refl

-- ---- every script

replays : (g : Graph) {s z : Session} {lines : List (List ℕ)} {out : List Said}
    → Represents g s → Replayed s lines out z → Script g lines out z
unfolding obey_all said_all
replays g p done = record { holds = p; same = refl }
replays g p (next {line = line} c r o q h) =
    let e : obey g (order_of c) ≡ obey g (order line) = ap (obey g) (o ∙ every-line line) ∙ cut-same g p.lawful (order line) in
    let rest = replays (obey g (order line)).graph (subst (λ (x : Obeyed). Represents x.graph r.session) e (q.holds g p)) h in
    record { holds = rest.holds; same = ap₂ ◌∷◌ (q.answer g p ∙ ap (λ (x : Obeyed). x.said) e) rest.same }

-- EVERY SCRIPT: from a session of no vertices on, what is said to each line is the machine's answer, with the numbers as they stand in it
pub every_script : (r : Changed) → StartPromise 0 r → {lines : List (List ℕ)} {out : List Said} {z : Session}
    → Replayed r.session lines out z → Script (fresh 0) lines out z
every_script r p h = replays (fresh 0) p.holds h
