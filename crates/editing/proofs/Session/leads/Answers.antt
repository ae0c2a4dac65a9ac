use Rattle.counting.proofs.Prelude.{sym, ap₂, ◌∙◌, arith}
use Rattle.specification.specs.Sets.{at, has?}
use Rattle.specification.specs.Connection.{connection}
use Rattle.editing.specs.Promise.{connection_of}
use Rattle.editing.proofs.Sessions.{inside_ends, leads_outside, leads-inside}
use Rattle.editing.proofs.Session.leads.Goals as goal

pub returns-then-is_outside : goal.returns-then-is_outside
returns-then-is_outside c =
    leads_outside _ _ _ (sym c.is_outside.ensures ∙ c.if-is_outside.true)

pub overflow_mul-tail : goal.overflow_mul-tail
overflow_mul-tail c = omega (arith, (inside_ends _ _ _ (sym c.is_outside.ensures ∙ c.if-is_outside.false)).0)

pub detour-requires : goal.detour-requires
detour-requires c = (inside_ends _ _ _ (sym c.is_outside.ensures ∙ c.if-is_outside.false)).0

pub returns : goal.returns
unfolding at has? connection_of
returns c =
    leads-inside _ _ _ _ (sym c.is_outside.ensures ∙ c.if-is_outside.false)
    (c.connected.ensures.case ∙ ap₂ connection c.contains-edge.ensures c.detour.ensures)
