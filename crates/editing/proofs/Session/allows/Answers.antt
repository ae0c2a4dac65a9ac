use Rattle.counting.proofs.Prelude.{sym, ◌∙◌, arith, le-leb, lt-leb}
use Rattle.specification.specs.Sets.{at, has?}
use Rattle.editing.specs.Promise.{refusal_of}
use Rattle.editing.proofs.Machines.{verdict-unknown, verdict_duplicate, verdict-cycle, verdict-full, verdict_none}
use Rattle.editing.proofs.Sessions.{inside_ends}
use Rattle.editing.proofs.Session.allows.Goals as goal

pub returns-then-is_outside-clause-value : goal.returns-then-is_outside-clause-value
unfolding refusal_of
returns-then-is_outside-clause-value c = sym (verdict-unknown _ _ _ _ (sym c.is_outside.ensures ∙ c.if-is_outside.true))

pub overflow_mul-tail : goal.overflow_mul-tail
overflow_mul-tail c = omega (arith, (inside_ends _ _ _ (sym c.is_outside.ensures ∙ c.if-is_outside.false)).0)

pub returns-then-contains-clause-value : goal.returns-then-contains-clause-value
unfolding refusal_of at has?
returns-then-contains-clause-value c =
    sym
    (verdict_duplicate _ _ _ _ (sym c.is_outside.ensures ∙ c.if-is_outside.false) (sym c.contains.ensures ∙ c.if-contains.true))

pub comes-requires : goal.comes-requires
comes-requires c = (inside_ends _ _ _ (sym c.is_outside.ensures ∙ c.if-is_outside.false)).1

pub returns-then-comes-clause-value : goal.returns-then-comes-clause-value
unfolding refusal_of at has?
returns-then-comes-clause-value c =
    sym
    (verdict-cycle _ _ _ _ (sym c.is_outside.ensures ∙ c.if-is_outside.false) (sym c.contains.ensures ∙ c.if-contains.false)
    (sym c.comes.ensures ∙ c.if-comes.true))

pub returns-then-self-ge-MOST_EDGES-clause-value : goal.returns-then-self-ge-MOST_EDGES-clause-value
unfolding refusal_of at has?
returns-then-self-ge-MOST_EDGES-clause-value c =
    sym
    (verdict-full _ _ _ _ (sym c.is_outside.ensures ∙ c.if-is_outside.false) (sym c.contains.ensures ∙ c.if-contains.false)
    (sym c.comes.ensures ∙ c.if-comes.false) (le-leb 4096 _ c.if-self-ge-MOST_EDGES.true))

pub returns-clause-value : goal.returns-clause-value
unfolding refusal_of at has?
returns-clause-value c =
    sym
    (verdict_none _ _ _ _ (sym c.is_outside.ensures ∙ c.if-is_outside.false) (sym c.contains.ensures ∙ c.if-contains.false)
    (sym c.comes.ensures ∙ c.if-comes.false) (lt-leb 4096 _ c.if-self-ge-MOST_EDGES.false))

pub returns-clause-room : goal.returns-clause-room
returns-clause-room c =
    let h = inside_ends _ _ _ (sym c.is_outside.ensures ∙ c.if-is_outside.false) in
    λ _. (h.0, h.1, c.if-self-ge-MOST_EDGES.false)
