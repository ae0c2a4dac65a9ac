use Rattle.counting.proofs.Prelude.{sym, ◌∙◌}
use Rattle.counting.proofs.Truth.{or_right}
use Rattle.counting.proofs.Falsity.{or-false}
use Rattle.specification.specs.Sets.{at, has?}
use Rattle.editing.proofs.comes.Goals as goal

pub returns-then-contains : goal.returns-then-contains
unfolding at has?
returns-then-contains c = c.if-contains.true ∙ sym (or_right _ _ (sym c.contains.ensures ∙ c.if-contains.true))

pub returns-else-contains : goal.returns-else-contains
unfolding at has?
returns-else-contains c = rw (sym c.contains.ensures ∙ c.if-contains.false) (sym (or-false _))
